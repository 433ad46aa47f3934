-- What each run of the extract comes to that ends with 0: the law of files, over what the words mean.
use Rattle.std.proofs.Common.{◌≡◌, inl, inr, ℕ, List, Bool, true, false, Some, None, codes, refl, ap, sym, ◌∙◌}
use Rattle.std.specs.Prelude.{Result, Ok}
use Rattle.std.specs.Borrow.{Bor}
use Rattle.clap.specs.Words.{Text}
use Rattle.osm_area.specs.Area.{AreaSpec, box_area}
use Rattle.osm_box.specs.declared.bounding_box.BoundingBox.{BoundingBox}
use Rattle.osm_box.specs.declared.bounding_box.BoxFault.{BoxFault}
use Rattle.osm_ways.specs.Selection as selection
use Rattle.pbf_examples.specs.Extracts.{two_nodes}
use Rattle.pbf_examples.specs.Frames.{three_nodes}
use Rattle.pbf_examples.specs.Reading.{box}
use Rattle.pbfcut.specs.Extracting.{extract_bytes}
use Rattle.pbfcut.specs.Kept.{verdict_on}
use Rattle.pbfcut_cli.specs.Words.{ReadsFlag, ReadsOutput, ReadsRegion, ReadsStrategy}
use Rattle.pbfcut_cli.specs.declared.programs.Program.TheVariants.{Pbfcut}
use Rattle.pbfcut_cli.specs.declared.words.Command.TheVariants.{Extract}
use Rattle.pbfcut_cli.specs.declared.words.Region.{Region}
use Rattle.pbfcut_cli.specs.declared.words.Region.TheVariants as region
use Rattle.pbfcut_cli.specs.declared.words.Strategy.{Strategy}
use Rattle.pbfcut_cli.specs.declared.words.Strategy.TheVariants.{CompleteWays, AllParents, Smart}
use Rattle.pbfcut_program.proofs.GivingLemmas.{gives_extract}
use Rattle.pbfcut_program.proofs.RunLemmas.{extract_ran}
use Rattle.pbfcut_program.specs.Changes.{EndsWell, GivesExtract}
use Rattle.pbfcut_program.specs.Events.{Event}
use Rattle.pbfcut_program.specs.Files.{AllowsAll, Disk, after}
use Rattle.pbfcut_program.specs.Manner.{meant, output_form}
use Rattle.pbfcut_program.specs.Program.{IsRun, MeansArea, manner_in, strategy_of}
use Rattle.run_examples.proofs.Computing.{runs_on_literals}
use Rattle.run_examples.proofs.ExtractLemmas.{cut_is, degrees_are, taken_is, values_are}
use Rattle.run_examples.proofs.FlagLemmas.{none_some, true_false}
use Rattle.run_examples.specs.Extract.{input, output, rows, typed}

some_same : {A : Type 0} {a b : A} → Some a ≡ Some b → a ≡ b
some_same e = cc

box_same : {a b : BoundingBox} → ◌≡◌ {A = Result BoundingBox BoxFault} (Ok a) (Ok b) → a ≡ b
box_same e = cc

-- ---- what can be read of the rows

strategy_is : (by : Strategy) → ReadsStrategy rows by → strategy_of by ≡ selection.complete_ways
unfolding runs_on_literals
strategy_is CompleteWays r = refl
strategy_is AllParents r = absurd (true_false (r.2.2 refl))
strategy_is (Smart types) r = absurd (true_false (sym r.0))

area_is : (cut : Region) (before : List Event) (area : AreaSpec) → ReadsRegion rows cut → MeansArea cut before area → area ≡ box_area box
unfolding runs_on_literals
area_is (region.Box b) before area r means = means.1 ∙ ap box_area (box_same (sym r.1 ∙ degrees_are))
area_is (region.Polygon path) before area r means = absurd (none_some (sym r.0))

output_is : (path : Bor Text) → ReadsOutput rows path → path.now ≡ output
unfolding runs_on_literals
output_is path (inl r) = sym (some_same r.0)
output_is path (inr r) = absurd (none_some (sym r.0))

not_over : (flag : Bool) → ReadsFlag flag (codes "overwrite") rows → flag ≡ false
unfolding runs_on_literals
not_over flag r = r.0 refl

-- pbfcut writes raw blobs
raw_is : (packs : Bool) (bytes : List ℕ) → meant (output_form packs Pbfcut) bytes ≡ bytes
raw_is true bytes = refl
raw_is false bytes = refl

-- ---- a run that ends with 0

module _ (over : Disk) (events : List Event) (there : over input ≡ Some three_nodes) (run : IsRun Pbfcut typed events 0) (allowed : AllowsAll over events) where
  ended : EndsWell Pbfcut typed (codes "extract") rows events over three_nodes
  unfolding runs_on_literals
  ended = record { taken = taken_is; command = values_are; run = run; allowed = allowed; there = there }

  pub comes_to : (after events over output ≡ Some two_nodes) × (over output ≡ None)
  comes_to =
      let x = extract_ran Pbfcut rows events typed over three_nodes refl ended in
      let m = manner_in Pbfcut (Extract x.cut x.by x.files) in
      let g : GivesExtract m x.cut x.by x.files three_nodes events over = gives_extract m x.cut x.by x.files events x.extracts over allowed three_nodes (ap over x.reads.5.input ∙ ended.there) in
      let name = output_is x.files.output x.reads.5.output in
      let by = strategy_is x.by x.reads.3 in
      let area = area_is x.cut g.took.before g.took.area x.reads.4 g.took.means in
      let bytes : g.took.bytes ≡ two_nodes = sym (raw_is m.packs g.took.bytes) ∙ g.took.extract.1.is ∙ ap (λ s. extract_bytes s g.took.area (verdict_on three_nodes)) by ∙ ap (λ a. extract_bytes selection.complete_ways a (verdict_on three_nodes)) area ∙ cut_is in (
        ap (after events over) (sym name) ∙ g.gives.there refl ∙ ap (λ b. Some b) bytes,
        ap over (sym name) ∙ g.gives.fresh refl (not_over x.files.overwrite x.reads.5.overwrite),
      )
