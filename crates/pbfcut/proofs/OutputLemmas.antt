-- What the outputs of several areas are, after a pass that wrote them.
use Rattle.std.proofs.Common.{◌≡◌, ℕ, List, length, Option, Some, Result, Ok, Err, OnOk, IfErr, refl, sym, ap, subst, ◌∙◌, arith}
use Rattle.std.specs.Prelude.{MatchResult}
use Rattle.std.specs.List.{AllByRecursion, AllZip}
use Rattle.pbf_frame.specs.declared.device.Drain as drain
use Rattle.pbf_frame.specs.declared.stop.Stop.{Stop}
use Rattle.pbf_frame.specs.declared.stop.Stop.TheVariants.{Changed, Memory}
use Rattle.pbf_frame.specs.Keeps.{KeepsDrain}
use Rattle.pbf_frame.specs.Verdict.{Verdict}
use Rattle.pbf_header.specs.Header.{header_of}
use Rattle.pbf_pass.specs.Given.{Took}
use Rattle.pbf_pass.specs.HeaderLimit.{HasShortTexts}
use Rattle.pbf_pass.specs.Hashing.{Mark, mark_by}
use Rattle.pbf_pass.specs.Judged.{judged_file}
use Rattle.pbf_pass.specs.Stops.{WriteFailed}
use Rattle.pbf_pass.proofs.GivenLemmas.{gave_file_less, tells_file}
use Rattle.pbfcut.specs.declared.carrying.AreaChoice.{AreaChoice}
use Rattle.pbfcut.specs.declared.carrying.AreaOutput.{AreaOutput}
use Rattle.pbfcut.specs.declared.repeat.LaterPass.{LaterPass}
use Rattle.pbfcut.specs.declared.writing_each.AreaWriter.{AreaWriter}
use Rattle.pbfcut.specs.Calls.{FeedUse, GaveBy, supply_of}
use Rattle.pbfcut.specs.Pick.{Pick, picks_of, taken_by}
use Rattle.pbfcut.specs.Repeat.{as_change, digest_of}
use Rattle.pbfcut.specs.Several.{AllThree, AnyZip, IsFreshWriter, IsOutputOf, IsWriterOf, KeepsOutput, KeepsWriter, OutputBegan, OutputFailed, OutputTook, WriterBegan, WriterFailed, WriterTook, WritesEach, WritesEachUnjudged}
use Rattle.pbfcut.specs.Write.{Packed, PacksFront}
use Rattle.pbfcut.proofs.ChangedLemmas.{digest_as_change, stops_as_change}
use Rattle.pbfcut.proofs.ConvertingLemmas.{nothing_out}
use Rattle.pbfcut.proofs.SeveralLemmas.{any_then, three_any, three_right, three_same, three_then, three_weaker, three_zip, zip_same}
use Rattle.pbfcut.proofs.WritingEachLemmas.{unjudged_more}
use Rattle.pbfcut.proofs.WritingLemmas.{packed_front, packed_told}

abbrev HasShort : AreaChoice → Type 0
HasShort choice = HasShortTexts (header_of choice.header)

-- the writers that were made can begin
pub all_fresh : {A D S H : Type 0} (number : ℕ) (choices : List AreaChoice) (olds : List (AreaOutput A D)) (writers : List (AreaWriter A D S H)) → AllByRecursion HasShort choices → AllThree (IsWriterOf number) choices olds writers → AllByRecursion (IsFreshWriter number) writers
all_fresh number choices olds writers short loads = three_right HasShort (IsWriterOf number) (IsFreshWriter number) (λ choice old w h of. record {
  begins = (of.fresh, subst (λ (c : AreaChoice). HasShort c) (sym of.chosen) h);
  number_is = of.number_is;
  counts = of.counts;
}) choices olds writers short loads

module _ {A D S H : Type 0} (d : drain.Ghosts D) (number : ℕ) (choices : List AreaChoice) (olds : List (AreaOutput A D)) (writers ends : List (AreaWriter A D S H)) (news : List (AreaOutput A D)) (loads : AllThree (IsWriterOf number) choices olds writers) (unloads : AllZip IsOutputOf ends news) where
  -- what a writer did was done for its choice, to the drain of its output
  took_end : (known : Option Verdict) (choice : AreaChoice) (old : AreaOutput A D) (w end : AreaWriter A D S H) → IsWriterOf number choice old w → WriterTook d known w end → Took d old.drain end.packer.drain (Packed (taken_by choice.chosen) (header_of choice.header) end.entities.counts known)
  took_end known choice old w end of t =
      subst (λ (x : D). Took d x end.packer.drain (Packed (taken_by choice.chosen) (header_of choice.header) end.entities.counts known)) of.drain
      (subst (λ (p : Pick). Took d w.packer.drain end.packer.drain (Packed p (header_of choice.header) end.entities.counts known)) of.picks
      (subst (λ (c : AreaChoice). Took d w.packer.drain end.packer.drain (Packed (picks_of w.entities.picker) (header_of c.header) end.entities.counts known)) of.chosen t))

  began_end : (known : Option Verdict) (choice : AreaChoice) (old : AreaOutput A D) (w end : AreaWriter A D S H) → IsWriterOf number choice old w → WriterBegan d known w end → PacksFront (taken_by choice.chosen) (header_of choice.header) known (d.taken old.drain) (d.taken end.packer.drain)
  began_end known choice old w end of t =
      subst (λ (x : D). PacksFront (taken_by choice.chosen) (header_of choice.header) known (d.taken x) (d.taken end.packer.drain)) of.drain
      (subst (λ (p : Pick). PacksFront p (header_of choice.header) known (d.taken w.packer.drain) (d.taken end.packer.drain)) of.picks
      (subst (λ (c : AreaChoice). PacksFront (picks_of w.entities.picker) (header_of c.header) known (d.taken w.packer.drain) (d.taken end.packer.drain)) of.chosen t))

  pub outputs_took : (known : Option Verdict) → AllZip (WriterTook d known) writers ends → AllThree (OutputTook d known) choices olds news
  outputs_took known all = three_then (λ choice old end. Took d old.drain end.packer.drain (Packed (taken_by choice.chosen) (header_of choice.header) end.entities.counts known)) IsOutputOf (OutputTook d known) (λ choice old end new t is. subst (λ (n : AreaOutput A D). OutputTook d known choice old n) (sym is) t) choices olds ends news
      (three_then (IsWriterOf number) (WriterTook d known) _ (took_end known) choices olds writers ends loads all) unloads

  pub outputs_began : (known : Option Verdict) → AllZip (WriterBegan d known) writers ends → AllThree (OutputBegan d known) choices olds news
  outputs_began known all = three_then (λ choice old end. PacksFront (taken_by choice.chosen) (header_of choice.header) known (d.taken old.drain) (d.taken end.packer.drain)) IsOutputOf (OutputBegan d known) (λ choice old end new t is. subst (λ (n : AreaOutput A D). OutputBegan d known choice old n) (sym is) t) choices olds ends news
      (three_then (IsWriterOf number) (WriterBegan d known) _ (began_end known) choices olds writers ends loads all) unloads

  pub outputs_failed : AnyZip (WriterFailed d) writers ends → AnyZip (OutputFailed d) olds news
  outputs_failed any = any_then (λ old end. WriteFailed d old.drain end.packer.drain) IsOutputOf (OutputFailed d) (λ old end new failed is. subst (λ (n : AreaOutput A D). OutputFailed d old n) (sym is) failed) olds ends news
      (three_any (IsWriterOf number) (WriterFailed d) (λ old end. WriteFailed d old.drain end.packer.drain) (λ choice old w end of failed. subst (λ (x : D). WriteFailed d x end.packer.drain) of.drain failed) choices olds writers ends loads any) unloads

  record KeptEnd (choice : AreaChoice) (old : AreaOutput A D) (end : AreaWriter A D S H) : Type 0 where
    area : end.area ≡ old.area
    drain : KeepsDrain d old.drain end.packer.drain

  pub outputs_kept : AllZip (KeepsWriter d) writers ends → AllZip (KeepsOutput d) olds news
  outputs_kept all = three_zip (λ choice old new. KeepsOutput d old new) (KeepsOutput d) (λ choice old new k. k) choices olds news
      (three_then KeptEnd IsOutputOf (λ choice old new. KeepsOutput d old new) (λ choice old end new k is. subst (λ (n : AreaOutput A D). KeepsOutput d old n) (sym is) (record { area = k.area; drain = k.drain })) choices olds ends news
      (three_then (IsWriterOf number) (KeepsWriter d) KeptEnd (λ choice old w end of k. record { area = k.area ∙ of.area; drain = subst (λ (x : D). KeepsDrain d x end.packer.drain) of.drain k.drain }) choices olds writers ends loads all) unloads)

-- what holds of each output of a file that is reported
took_front : {A D : Type 0} (d : drain.Ghosts D) (known : Option (List ℕ)) (file : List ℕ) → ((b : List ℕ) → known ≡ Some b → file ≡ b) → (choice : AreaChoice) (old new : AreaOutput A D) → OutputTook d (judged_file (Some file)) choice old new → OutputBegan d (judged_file known) choice old new
took_front d known file tells choice old new took = packed_front (taken_by choice.chosen) (header_of choice.header) new.counts _ _ _ took.written (packed_told (taken_by choice.chosen) (header_of choice.header) new.counts known file took.written tells took.holding) took.added.told

-- the bytes are compared
module _ {A D S H X : Type 0} (source : FeedUse) (d : drain.Ghosts D) (pass : LaterPass) (choices : List AreaChoice) (olds : List (AreaOutput A D)) (writers ends : List (AreaWriter A D S H)) (news : List (AreaOutput A D)) (loads : AllThree (IsWriterOf pass.number) choices olds writers) (unloads : AllZip IsOutputOf ends news) where
  pub concluded : (outcome : Result (List ℕ) Stop) (result : Result X Stop) → WritesEachUnjudged source d pass writers ends outcome → OnOk result (MatchResult outcome (λ digest. mark_by pass.passes.check digest ≡ digest_of pass) (λ s. ⊥))
      → IfErr result (λ stop. MatchResult outcome (λ digest. (stop ≡ Changed pass.number) × (digest ≡ pass.digest → ⊥)) (λ first. stop ≡ as_change pass.number first)) → WritesEach source d pass choices olds news result
  concluded (Ok digest) (Ok x) w same other = record {
    packed = subst (λ (m : Mark). GaveBy source m (λ file. AllThree (OutputTook d (judged_file (Some file))) choices olds news)) same (gave_file_less source.ghosts source.old source.new (mark_by pass.passes.check digest) _ _ (λ file all. outputs_took d pass.number choices olds writers ends news loads unloads (judged_file (Some file)) all) w.packed);
    beginning = tt;
    stops = tt;
    keeps = w.keeps;
    outs = outputs_kept d pass.number choices olds writers ends news loads unloads w.outs;
  }
  concluded (Ok digest) (Err stop) w same other = record {
    packed = tt;
    beginning = three_weaker (OutputTook d (judged_file (Some w.packed.file))) (OutputBegan d (judged_file (supply_of source))) (took_front d (supply_of source) w.packed.file (tells_file source.ghosts source.old source.new _ _ w.packed)) choices olds news (outputs_took d pass.number choices olds writers ends news loads unloads (judged_file (Some w.packed.file)) w.packed.holding);
    stops = digest_as_change source.ghosts pass source.old source.new (AnyZip (OutputFailed d) olds news) digest _ stop w.packed other;
    keeps = w.keeps;
    outs = outputs_kept d pass.number choices olds writers ends news loads unloads w.outs;
  }
  concluded (Err first) (Ok x) w same other = absurd same
  concluded (Err first) (Err stop) w same other = rw other (record {
    packed = tt;
    beginning = outputs_began d pass.number choices olds writers ends news loads unloads (judged_file (supply_of source)) w.beginning;
    stops = stops_as_change source.ghosts pass source.old source.new (AnyZip (OutputFailed d) olds news) (judged_file (supply_of source)) first (unjudged_more pass.number (judged_file (supply_of source)) _ _ _ first (outputs_failed d pass.number choices olds writers ends news loads unloads) w.stops) w.faulty;
    keeps = w.keeps;
    outs = outputs_kept d pass.number choices olds writers ends news loads unloads w.outs;
  })

-- memory was refused before any of it was done
pub none_written : {A D X : Type 0} (source : FeedUse) (d : drain.Ghosts D) (pass : LaterPass) (choices : List AreaChoice) (olds : List (AreaOutput A D)) → length choices ≡ length olds → source.new ≡ source.old → (result : Result X Stop) → result ≡ Err Memory → WritesEach source d pass choices olds olds result
none_written source d pass choices olds same still result is = rw is (record {
  packed = tt;
  beginning = three_same (λ choice old new. OutputBegan d (judged_file (supply_of source)) choice old new) (λ choice old frames is. nothing_out _ _) choices olds same;
  stops = tt;
  keeps = record { counts = omega (arith, ap source.ghosts.failures still); lender = ap source.ghosts.lender still };
  outs = zip_same (KeepsOutput d) (λ o. record { area = refl; drain = record { counts = omega arith; lender = refl } }) olds;
})
