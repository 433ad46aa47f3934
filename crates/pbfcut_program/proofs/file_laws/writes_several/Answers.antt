use Rattle.pbfcut_program.proofs.SeveralDisk.{dropped_back, kept_fresh, kept_there, others_back}
use Rattle.pbfcut_program.proofs.SeveralParts.{parts_are_new}
use Rattle.pbfcut_program.proofs.file_laws.writes_several.Goals as goal

pub returns-clause-kept : goal.returns-clause-kept
returns-clause-kept c overwrite before later one events disk x apart a k = kept_there overwrite before one later events x apart disk a k

pub returns-clause-dropped : goal.returns-clause-dropped
returns-clause-dropped c overwrite before later one events disk x apart k = dropped_back overwrite before one later events x apart disk k

pub returns-clause-others : goal.returns-clause-others
returns-clause-others c overwrite files events disk x apart a path outputs left = others_back overwrite files events x apart disk a path outputs left

pub returns-clause-fresh : goal.returns-clause-fresh
returns-clause-fresh c overwrite before later one events disk x apart a k new = kept_fresh overwrite before one later events x apart disk a k new

pub returns-clause-parts : goal.returns-clause-parts
returns-clause-parts c overwrite files events disk x apart a path left = parts_are_new overwrite files events x apart disk a path left
