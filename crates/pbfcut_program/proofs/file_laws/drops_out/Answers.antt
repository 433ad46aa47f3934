use Rattle.std.proofs.Common.{refl}
use Rattle.pbfcut_program.proofs.DiskLemmas.{drops_back, drops_left, drops_now}
use Rattle.pbfcut_program.proofs.file_laws.drops_out.Goals as goal

pub returns-clause-pbfcut : goal.returns-clause-pbfcut
returns-clause-pbfcut c output w events disk k a =
    let now = drops_now output w events disk k a in
    (now.fresh refl, λ whole. now.there)

pub returns-clause-pbfcutz : goal.returns-clause-pbfcutz
returns-clause-pbfcutz c output w events disk k a = (drops_back output w events disk k a).back

pub returns-clause-others : goal.returns-clause-others
returns-clause-others c program output w events disk k a = (drops_left program output w events disk k a).others

pub returns-clause-parts : goal.returns-clause-parts
returns-clause-parts c program output w events disk k a = (drops_left program output w events disk k a).parts
