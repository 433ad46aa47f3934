use Rattle.pbfcut_program.proofs.DiskLemmas.{keeps_now}
use Rattle.pbfcut_program.proofs.file_laws.writes_out.Goals as goal

pub returns-clause-there : goal.returns-clause-there
returns-clause-there c program overwrite output w events disk k a = (keeps_now program overwrite output w events disk k a).there

pub returns-clause-others : goal.returns-clause-others
returns-clause-others c program overwrite output w events disk k a = (keeps_now program overwrite output w events disk k a).left.others

pub returns-clause-parts : goal.returns-clause-parts
returns-clause-parts c program overwrite output w events disk k a = (keeps_now program overwrite output w events disk k a).left.parts

pub returns-clause-fresh : goal.returns-clause-fresh
returns-clause-fresh c program overwrite output w events disk k a = (keeps_now program overwrite output w events disk k a).fresh
