-- IN, opened for each pass, as a program reads it.
use Rattle.std.specs.Prelude.{◌≡◌, List, map}
use Rattle.pbf_frame.specs.declared.device.Feed as feed
use Rattle.pbf_pass.specs.declared.hashed.PassFeed.{PassFeed}
use Rattle.pbf_pass.specs.declared.hashing.PassCheck.{PassCheck}
use Rattle.pbf_published.specs.declared.traced.TracedFeed.{TracedFeed}
use Rattle.pbf_published.specs.PublishedTasks.{AreOpened, below_of}
use Rattle.pbf_unpack.specs.declared.feed.UnpackedFeed.{UnpackedFeed}
use Rattle.pbfcut_cli.specs.declared.programs.Program.{Program}
use Rattle.pbfcut_cli.specs.declared.programs.Program.TheVariants.{Pbfcut, Pbfcutz}
use Rattle.pbfcut_program.specs.declared.opening.Inputs.{Inputs}
use Rattle.pbfcut_program.specs.declared.opening.Inputs.TheVariants as inputs

-- the feeds of the host
abbrev pub feeds_in : {F : Type 0} → Inputs F → List F
feeds_in (inputs.Raw feeds) = feeds.items
feeds_in (inputs.Published feeds) = map below_of feeds.items

-- they are read as this program reads them; what unpacks was just opened, by this check
abbrev pub AreReady : {F : Type 0} → feed.Ghosts F → feed.Ghosts (UnpackedFeed (TracedFeed (PassFeed F))) → Program → PassCheck → Inputs F → Type 0
AreReady f u program check (inputs.Raw feeds) = program ≡ Pbfcut
AreReady f u program check (inputs.Published feeds) = (program ≡ Pbfcutz) × AreOpened f u below_of check feeds.items
