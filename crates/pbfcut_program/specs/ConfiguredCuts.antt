-- An area that was read, with the path of its OUT, as the definition of a configuration sees it.
use Rattle.std.specs.String.{string_bytes}
use Rattle.pbfcut_program.specs.declared.configured.OutputCut.{OutputCut}
use Rattle.pbfcut_program.specs.Configured.{OutputArea}
use Rattle.pbfcut_program.specs.Jobs.{area_of}

abbrev pub output_area_of : OutputCut → OutputArea
output_area_of out = record { output = string_bytes out.output; area = area_of out.cut }
