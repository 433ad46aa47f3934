-- What a run says of several areas once the drains between it and their OUTs are taken off.
use Rattle.std.specs.Prelude.{◌≡◌, ℕ, List, [], ◌∷◌, map, None, Some, Result, IfOk}
use Rattle.std.specs.List.{AllZip}
use Rattle.osm_area.specs.Area.{AreaSpec}
use Rattle.osm_ways.specs.Selection.{Strategy}
use Rattle.pbf_frame.specs.declared.device.Feed as feed
use Rattle.pbf_frame.specs.declared.device.Drain as drain
use Rattle.pbf_pass.specs.declared.hashed.HashedDrain.{HashedDrain}
use Rattle.pbf_pass.specs.declared.hashing.PassCheck.{PassCheck}
use Rattle.pbfcut.specs.declared.carrying.AreaOutput.{AreaOutput}
use Rattle.pbfcut.specs.Several.{AnyZip, OutputFailed}
use Rattle.pbfcut.specs.Tasks.{Task, extracting}
use Rattle.pbf_unpack.specs.declared.drain.PackedDrain.{PackedDrain}
use Rattle.pbf_unpack.specs.Packing.{HasCompressed, taken_raw}
use Rattle.sha2.specs.Hashers.{Holds256}
use Rattle.sha2.specs.Sha256.{sha256}
use Rattle.pbfcut_program.specs.declared.engine.Halted.{Halted}
use Rattle.pbfcut_program.specs.declared.engine.Report.{Report}
use Rattle.pbfcut_program.specs.declared.linked.LinkedDrain.{LinkedDrain}
use Rattle.pbfcut_program.specs.declared.several.InputDigests.{InputDigests}
use Rattle.pbfcut_program.specs.declared.several.OutputArea.{OutputArea}
use Rattle.pbfcut_program.specs.Devices.{AreFresh, DrainFailed, FinishesPacked, Fronts, IsAsked, Leads, MeansBy, TakenBy, Wholes, Works}
use Rattle.pbfcut_program.specs.Jobs.{area_of}
use Rattle.pbfcut_program.specs.Manner.{Manner, hashes_meaning, input_form, output_form, to_raw}
use Rattle.pbfcut_program.specs.Several.{result_with}

-- what is cut out into an OUT
abbrev pub cut_into : OutputArea → AreaSpec
cut_into area = area_of area.cut.now

-- ---- drains that hash

-- a hashing drain that took nothing is put over that of an output
pub record IsHashing {D : Type 0} (below : AreaOutput OutputArea D) (over : AreaOutput OutputArea (LinkedDrain (HashedDrain D))) : Type 0 where
  pub area : over.area ≡ below.area
  pub drain : over.drain.drain.drain ≡ below.drain
  pub none : Holds256 over.drain.drain.hasher []

-- it is taken off, and the output has the digest of what it hashed
pub record IsUnhashed {D : Type 0} (over : AreaOutput OutputArea (LinkedDrain (HashedDrain D))) (below : AreaOutput OutputArea D) : Type 0 where
  pub cut : below.area.cut ≡ over.area.cut
  pub meaning : below.area.meaning ≡ over.area.meaning
  pub drain : below.drain ≡ over.drain.drain.drain
  pub counts : below.counts ≡ over.counts
  pub digest : List ℕ
  pub known : below.area.output ≡ Some digest
  pub is : (bytes : List ℕ) → Holds256 over.drain.drain.hasher bytes → digest ≡ sha256 bytes

-- ---- drains that pack

-- a packing drain that took nothing is put over that of an output
pub record IsPackingOver {D : Type 0} {d : drain.Ghosts D} (below : AreaOutput OutputArea D) (over : AreaOutput OutputArea (PackedDrain D d)) : Type 0 where
  pub area : over.area ≡ below.area
  pub drain : over.drain.below.drain ≡ below.drain
  pub taken : taken_raw over.drain ≡ d.taken below.drain
  pub logged : (log : ℕ) → d.has_taken below.drain log [] → HasCompressed over.drain log []

-- it is finished, by what the run came to, and taken off: the digest of what it took is that of what its OUT means
pub record IsUnpacked {D : Type 0} {d : drain.Ghosts D} (over : AreaOutput OutputArea (PackedDrain D d)) (returned result : Result InputDigests Halted) (below : AreaOutput OutputArea D) : Type 0 where
  pub finished : PackedDrain D d
  pub finishes : FinishesPacked over.drain finished returned result
  pub taken : taken_raw finished ≡ taken_raw over.drain
  pub drain : below.drain ≡ finished.below.drain
  pub cut : below.area.cut ≡ over.area.cut
  pub output : below.area.output ≡ None
  pub meaning : below.area.meaning ≡ over.area.output
  pub counts : below.counts ≡ over.counts

-- one after the other: what the run comes to by one of them is what the next one is finished by
abbrev pub AreUnpacked : {D : Type 0} {d : drain.Ghosts D} → List (AreaOutput OutputArea (PackedDrain D d)) → (returned result : Result InputDigests Halted) → List (AreaOutput OutputArea D) → Type 0
AreUnpacked [] returned result [] = result ≡ returned
AreUnpacked (over ∷ overs) returned result (below ∷ belows) = (next : Result InputDigests Halted) × IsUnpacked over returned next below × AreUnpacked overs next result belows
AreUnpacked _ returned result _ = ⊥

-- ---- runs

-- one area and its OUT, which gets raw blobs: what is said of a run for only this area whose OUT is hashed if digests are printed, but that a write may
-- have failed for this reason
pub record RunsRaw {F D : Type 0} (m : Manner) (by : PassCheck) (f : feed.Ghosts F) (d : drain.Ghosts D) (task : Task) (olds news : List F) (failed : Type 0) (old new : AreaOutput OutputArea D) (result : Result Report Halted) : Type 0 where
  pub works : AreFresh f olds → d.has_taken old.drain 0 [] → Works (to_raw m) by f task olds news (TakenBy d new.drain new.area.output) failed result
  pub front : Fronts (input_form m.program) task (map f.remaining olds) (d.taken old.drain) (d.taken new.drain) result
  pub whole : Wholes (input_form m.program) task (map f.remaining olds) (d.taken old.drain) (d.taken new.drain) result
  pub hashed : IfOk result (λ _. IsAsked m.digests new.area.output)
  pub cut : new.area.cut ≡ old.area.cut
  pub meaning : new.area.meaning ≡ old.area.meaning

-- all of them
abbrev pub RunsRawEach : {F D : Type 0} → Manner → PassCheck → Strategy → feed.Ghosts F → drain.Ghosts D → (olds news : List F) → (befores afters : List (AreaOutput OutputArea D)) → Result InputDigests Halted → Type 0
RunsRawEach m by s f d olds news befores afters result = AllZip (λ old new. RunsRaw m by f d (extracting s (cut_into old.area)) olds news (AnyZip (OutputFailed d) befores afters) old new (result_with result new.counts)) befores afters

-- one area and its OUT, which gets raw blobs or zlib blobs, and of which what it takes isn't hashed
pub record RunsUnhashed {F D : Type 0} (m : Manner) (by : PassCheck) (f : feed.Ghosts F) (d : drain.Ghosts D) (task : Task) (olds news : List F) (failed : Type 0) (old new : AreaOutput OutputArea D) (result : Result Report Halted) : Type 0 where
  pub works : AreFresh f olds → Works m by f task olds news (λ w. d.has_taken new.drain 0 w × MeansBy (output_form m.packs m.program) new.area.meaning w) failed result
  pub front : Leads (output_form m.packs m.program) (input_form m.program) task (map f.remaining olds) (d.taken new.drain) result
  pub unhashed : new.area.output ≡ None
  pub meaning : IfOk result (λ _. IsAsked (hashes_meaning (output_form m.packs m.program) m.digests) new.area.meaning)
  pub cut : new.area.cut ≡ old.area.cut

-- one area and its OUT, which gets raw blobs or zlib blobs: what is said of a run for only this area, but that a write may have failed for this reason
pub record RunsInto {F D : Type 0} (m : Manner) (by : PassCheck) (f : feed.Ghosts F) (d : drain.Ghosts D) (task : Task) (olds news : List F) (failed : Type 0) (old new : AreaOutput OutputArea D) (result : Result Report Halted) : Type 0 where
  pub works : AreFresh f olds → Works m by f task olds news (λ w. TakenBy d new.drain new.area.output w × MeansBy (output_form m.packs m.program) new.area.meaning w) failed result
  pub front : Leads (output_form m.packs m.program) (input_form m.program) task (map f.remaining olds) (d.taken new.drain) result
  pub hashed : IfOk result (λ _. IsAsked m.digests new.area.output)
  pub meaning : IfOk result (λ _. IsAsked (hashes_meaning (output_form m.packs m.program) m.digests) new.area.meaning)
  pub cut : new.area.cut ≡ old.area.cut

-- why a write failed: of one of the OUTs
abbrev pub AnyFailedInto : {F D : Type 0} → Manner → Strategy → feed.Ghosts F → drain.Ghosts D → (olds : List F) → (befores afters : List (AreaOutput OutputArea D)) → Type 0
AnyFailedInto m s f d olds befores afters = AnyZip (λ old new. DrainFailed d (output_form m.packs m.program) (extracting s (cut_into old.area)) (map f.remaining olds) new.drain) befores afters

-- all of them
abbrev pub RunsUnhashedEach : {F D : Type 0} → Manner → PassCheck → Strategy → feed.Ghosts F → drain.Ghosts D → (olds news : List F) → (befores afters : List (AreaOutput OutputArea D)) → Result InputDigests Halted → Type 0
RunsUnhashedEach m by s f d olds news befores afters result = AllZip (λ old new. RunsUnhashed m by f d (extracting s (cut_into old.area)) olds news (AnyFailedInto m s f d olds befores afters) old new (result_with result new.counts)) befores afters

abbrev pub RunsEachInto : {F D : Type 0} → Manner → PassCheck → Strategy → feed.Ghosts F → drain.Ghosts D → (olds news : List F) → (befores afters : List (AreaOutput OutputArea D)) → Result InputDigests Halted → Type 0
RunsEachInto m by s f d olds news befores afters result = AllZip (λ old new. RunsInto m by f d (extracting s (cut_into old.area)) olds news (AnyFailedInto m s f d olds befores afters) old new (result_with result new.counts)) befores afters
