-- What a proof unfolds to compute what words mean, beside what the format takes.
use Rattle.std.specs.Prelude.{⊤}
use Rattle.clap.specs.Faults.{defaults_fault, flags_fault, walk_fault}
use Rattle.clap.specs.Walk.{bundle_met, walked}
use Rattle.pbf_examples.proofs.Computing.{pbf_on_literals}
use Rattle.pbfcut_cli.specs.Joined.{box_joined}

unfoldable pub runs_on_literals : ⊤
unfolding pbf_on_literals flags_fault walk_fault defaults_fault bundle_met walked box_joined
runs_on_literals = tt
