use Rattle.std.proofs.Common.{inl, inr}
use Rattle.pbfcut_program.proofs.MomentLemmas.{drops_others, dropped_whole, keeps_others, kept_whole}
use Rattle.pbfcut_program.proofs.file_laws.always_whole.Goals as goal

pub returns-clause-kept : goal.returns-clause-kept
returns-clause-kept c = kept_whole

pub returns-clause-dropped : goal.returns-clause-dropped
returns-clause-dropped c = dropped_whole

pub returns-clause-others : goal.returns-clause-others
returns-clause-others c program overwrite output w started later disk (inl k) = keeps_others program overwrite output w started later disk k
returns-clause-others c program overwrite output w started later disk (inr k) = drops_others program output w started later disk k
