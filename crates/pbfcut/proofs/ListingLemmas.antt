-- Texts of frames that went out one after another.
use Rattle.std.proofs.Common.{false, refl, ◌≡◌, ◌⊎◌, ℕ, ◌≤◌, List, [], ◌∷◌, ◌++◌, Option, Some, None, arith, inl, inr, sym, ap, ◌∙◌}
use Rattle.std.specs.List.{flat_map}
use Rattle.std.proofs.lemmas.List.{append-nil}
use Rattle.std.proofs.lemmas.Grind.{flat_map-append}
use Rattle.pbf_frame.specs.declared.device.Drain as drain
use Rattle.pbf_wire.specs.declared.fault.Fault.{Fault}
use Rattle.pbf_frame.specs.declared.stop.Stop.{Stop}
use Rattle.pbf_frame.specs.declared.stop.Stop.TheVariants as why
use Rattle.pbf_frame.specs.Devices.{append, IsFront}
use Rattle.pbf_frame.specs.Transfers.{Added}
use Rattle.pbf_frame.specs.Frames.{FrameSpec}
use Rattle.pbf_frame.specs.Verdict.{Verdict, judged_known, VerdictAfter, Says, with_first_known}
use Rattle.pbf_frame.proofs.Passed.{added_none, added_more, added_same}
use Rattle.pbf_frame.proofs.Beginnings.{front_whole, front_longer, front_then}
use Rattle.pbf_frame.proofs.VerdictLemmas.{gone_more, gone_split}
use Rattle.pbfcut.specs.Blobs.{line, lines}
use Rattle.pbfcut.specs.Listing.{Lists, ListsFront, ListsNext, ListsToFault, StopsListing}
use Rattle.pbf_pass.specs.Stops.{Caused, Only, unchanged, WriteFailed}
use Rattle.pbf_pass.specs.Visit.{Takes, StopRule, Visited, VisitsAll, StopsBehind, StopsVisit}
use Rattle.pbf_frame.specs.declared.reader.FrameReader.{FrameReader}
use Rattle.pbf_frame.specs.Next.{place_of, had_header_of}
use Rattle.pbf_pass.specs.Given.{judged_from}
use Rattle.pbf_pass.proofs.GivenLemmas.{Tells, holds_of_file}
use Rattle.pbf_pass.proofs.VisitLemmas.{visited_to}
use Rattle.pbf_frame.proofs.Parting.{some_same}

-- what is written for one more of anything
pub text_one : {A : Type 0} (text : A → List ℕ) (xs : List A) (x : A) → flat_map text (xs ++ x ∷ []) ≡ flat_map text xs ++ text x
text_one text xs x = flat_map-append text xs (x ∷ []) ∙ ap (λ (l : List ℕ). flat_map text xs ++ l) (append-nil (text x))

-- the same of what a drain took, whether it reports it or not
pub texts_added : {A D : Type 0} (d : drain.Ghosts D) (text : A → List ℕ) (before mid now : D) (xs : List A) (x : A) → Added d before (flat_map text xs) mid → Added d mid (text x) now → Added d before (flat_map text (xs ++ x ∷ [])) now
texts_added d text before mid now xs x so_far more = added_same d before now _ _ (sym (text_one text xs x)) (added_more d before mid now (flat_map text xs) (text x) so_far more)

-- of the next frame nothing went out, or a prefix of its text
abbrev pub StoppedWithin : (FrameSpec → List ℕ) → Option Verdict → Option (List ℕ) → Option (List ℕ) → Type 0
StoppedWithin text known old new = (new ≡ old) ⊎ ((f : FrameSpec) × (rest : Option Verdict) × (known ≡ with_first_known f rest) × IsFront old new (text f))

-- whatever a step that stopped wrote, a prefix of all texts went out
pub texts_front : (text : FrameSpec → List ℕ) (first mid : Option Verdict) (fs : List FrameSpec) (before now after : Option (List ℕ)) → VerdictAfter first fs mid → now ≡ append before (flat_map text fs) → StoppedWithin text mid now after
    → (all : Verdict) → first ≡ Some all → IsFront before after (flat_map text all.0)
texts_front text first mid fs before now after h7 h8 h9 all h11 = grind (arith, gone_split, flat_map-append, front_longer, front_whole, gone_more, front_then, text_one)

-- ---- a listing

-- what follows the frames done ends the file
pub gone_ending : (first known : Option Verdict) (frames : List FrameSpec) (ending : Option Fault) → VerdictAfter first frames known → Says known ([], ending) → Says first (frames, ending)
gone_ending first known frames ending h4 h5 = grind (arith, append-nil)

faultless : (e : Fault) → ◌≡◌ {A = Option Fault} None (Some e) → ⊥
faultless e p = cc

-- the frames of the bytes that were given are those of the ones that are reported
lists_told : (known : Option (List ℕ)) (bytes : List ℕ) (v : Verdict) → Tells known bytes → judged_known false 0 (Some bytes) ≡ Some v → Says (judged_known false 0 known) v
lists_told known bytes v h3 h4 = grind (arith, some_same)

-- a fresh reader gave them
pub visits_file : {F V : Type 0} (reader : FrameReader F) (bytes : List ℕ) (took : Takes V) (count : ℕ) (before now : V) → had_header_of reader ≡ false → place_of reader ≡ 0 → VisitsAll took (judged_from reader bytes) count before now → VisitsAll took (judged_known false 0 (Some bytes)) count before now
visits_file reader bytes took count before now had place all = holds_of_file reader bytes (λ known. VisitsAll took known count before now) had place all

-- ---- of a visitor that lists

module _ {V D : Type 0} (d : drain.Ghosts D) (to : V → D) (took : Takes V) (is : (old new : V) (f : FrameSpec) → took old f new → ListsNext d (to old) (to new) f) where
  record HasListed (before : V) (fs : List FrameSpec) (now : V) : Type 0 where
    pub added : Added d (to before) (lines fs) (to now)
    pub counts : d.failures (to before) ≤ d.failures (to now)

  has_listed : (before : V) (fs : List FrameSpec) (now : V) → Visited took before fs now → HasListed before fs now
  has_listed before fs now visited = visited_to took (λ gone v. HasListed before gone v) (λ gone f mid last so_far one. record {
    added = texts_added d line _ _ _ gone f so_far.added (is mid last f one).added;
    counts = omega (arith, so_far.counts, (is mid last f one).counts);
  }) fs [] before now record { added = added_none d (to before); counts = omega arith } visited

  pub lists_all : (known : Option (List ℕ)) (bytes : List ℕ) (count : ℕ) (before now : V) → Tells known bytes → VisitsAll took (judged_known false 0 (Some bytes)) count before now → Lists d (to before) (to now) (judged_known false 0 known) count
  lists_all known bytes count before now tells p = grind (arith, lists_told known bytes (p.frames, None) tells p.says, has_listed before p.frames now p.visited)

  module _ (failed : StopRule V) (known : Option Verdict) (read : Type 0) (before now : V) (stop : Stop) (fails : (mid : V) (f : FrameSpec) (s : Stop) → failed mid f now s → StopsListing d (to mid) (to now) f s) (stopped : StopsVisit took failed known read before now stop) where
    pub front_listed : ListsFront d (to before) (to now) known
    front_listed = of stopped where
      of : StopsVisit took failed known read before now stop → ListsFront d (to before) (to now) known
      of (inl s) = texts_front line known s.rest s.frames _ _ _ s.gone (has_listed before s.frames now s.visited).added.told (inl refl)
      of (inr s) = texts_front line known (with_first_known s.frame s.rest) s.frames _ _ _ s.gone (has_listed before s.frames s.mid s.visited).added.told (inr (s.frame, s.rest, refl, (fails s.mid s.frame stop s.failing).front))

    pub stops_listed : Caused (ListsToFault d (to before) (to now) known) read (WriteFailed d (to before) (to now)) unchanged stop
    stops_listed = of stopped where
      behind : (s : StopsBehind took known read before now stop) (t : Stop) → Caused (λ e. Says s.rest ([], Some e)) read ⊥ unchanged t → Caused (ListsToFault d (to before) (to now) known) read (WriteFailed d (to before) (to now)) unchanged t
      behind s (why.Refused e) says = record {
        frames = s.frames;
        says = gone_ending known s.rest s.frames (Some e) s.gone says;
        added = (has_listed before s.frames now s.visited).added;
      }
      behind s why.Read failing = failing
      behind s why.Write failing = absurd failing
      behind s why.Memory failing = tt
      behind s (why.Changed n) failing = absurd failing

      within : (mid : V) (t : Stop) → d.failures (to before) ≤ d.failures (to mid) → Caused (Only None) ⊥ (WriteFailed d (to mid) (to now)) unchanged t → Caused (ListsToFault d (to before) (to now) known) read (WriteFailed d (to before) (to now)) unchanged t
      within mid (why.Refused e) counted failing = absurd (faultless e failing)
      within mid why.Read counted failing = absurd failing
      within mid why.Write counted failing = omega (arith, failing, counted)
      within mid why.Memory counted failing = tt
      within mid (why.Changed n) counted failing = absurd failing

      of : StopsVisit took failed known read before now stop → Caused (ListsToFault d (to before) (to now) known) read (WriteFailed d (to before) (to now)) unchanged stop
      of (inl s) = behind s stop s.caused
      of (inr s) = within s.mid stop (has_listed before s.frames s.mid s.visited).counts (fails s.mid s.frame stop s.failing).cause
