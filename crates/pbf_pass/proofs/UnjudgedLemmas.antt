-- What a pass after the one that judged the file has gathered, and why it stops.
use Rattle.std.proofs.Common.{arith}
use Rattle.std.proofs.Common.{◌≡◌, ℕ, inl, inr, false, List, [], ◌∷◌, ◌++◌, Option, Some, None, refl, sym, ap, ◌∙◌}
use Rattle.std.specs.List.{AllByRecursion, fold}
use Rattle.std.proofs.lemmas.List.Sums.{fold-append}
use Rattle.osm_entity.specs.Entity.{EntitySpec}
use Rattle.pbf_frame.specs.declared.device.Feed as feed
use Rattle.pbf_frame.specs.declared.stop.Stop.{Stop}
use Rattle.pbf_frame.specs.declared.stop.Stop.TheVariants as why
use Rattle.pbf_frame.specs.Frames.{FrameSpec}
use Rattle.pbf_frame.specs.Refusals.{Refuses}
use Rattle.pbf_frame.specs.Verdict.{Verdict, with_first_known, Says, judged_known}
use Rattle.pbf_frame.proofs.Refusing.{faulty_as}
use Rattle.pbf_pass.specs.Unjudged.{IsSound, GathersFrame, GathersFile, GathersSome, StopsAtFrame, StopsUnjudged, ReadsFaulty}
use Rattle.pbf_pass.specs.Counting.{stored_entities}
use Rattle.pbf_pass.specs.Judged.{fully, fully_known}
use Rattle.pbf_pass.specs.Refused.{RefusesRest}
use Rattle.pbf_pass.specs.Stops.{Caused, unchanged}
use Rattle.pbf_pass.specs.Visit.{Takes, StopRule, Visited, VisitsAll, StopsVisit, RefusesVisit}
use Rattle.pbf_pass.proofs.GatherLemmas.{gathered_one}
use Rattle.pbf_pass.proofs.SoundLemmas.{sound_first_ones, sound_last, all_sound, faulty_rest, faulty_frame}
use Rattle.pbf_pass.proofs.VisitLemmas.{visited_to}

-- these frames were gathered, if they have no fault
abbrev pub GathersFrames : {S : Type 0} → (S → EntitySpec → S) → (before now : S) → List FrameSpec → Type 0
GathersFrames gathered before now fs = AllByRecursion IsSound fs → now ≡ fold gathered before (stored_entities fs)

pub gathers_more : {S : Type 0} (gathered : S → EntitySpec → S) (fs : List FrameSpec) (f : FrameSpec) (first before now : S) → GathersFrames gathered first before fs → GathersFrame gathered before now f → GathersFrames gathered first now (fs ++ f ∷ [])
gathers_more gathered fs f first before now so_far step sound = gathered_one gathered fs f first before now (so_far (sound_first_ones fs (f ∷ []) sound)) (step (sound_last fs f sound))

-- all of them were
pub gathers_all : {S : Type 0} (gathered : S → EntitySpec → S) (fs : List FrameSpec) (first before now : S) → GathersFrames gathered first before fs → now ≡ before → GathersFile gathered (Some (fully (fs, None))) first now
gathers_all gathered fs first before now so_far stays frames is = grind (arith, all_sound fs frames is, so_far ((all_sound fs frames is).1))

-- bytes that are faulty by one judgment are so by another that it implies
pub refuses_less : {F : Type 0} (f : feed.Ghosts F) (old new : F) (first then : List ℕ → Type 0) → ((b : List ℕ) → first b → then b) → Refuses first (f.has_passed old) (f.has_passed new) (f.remaining old) (f.remaining new) → Refuses then (f.has_passed old) (f.has_passed new) (f.remaining old) (f.remaining new)
refuses_less f old new first then step refuses = grind (arith, faulty_as then first refuses.read (f.remaining new) step refuses.faulty, f.remaining new)

-- ---- of a visitor in a pass of this number

module _ {V : Type 0} (number : V → ℕ) (took : Takes V) (same : (old new : V) (f : FrameSpec) → took old f new → number new ≡ number old) where
  same_number : (before : V) (fs : List FrameSpec) (now : V) → Visited took before fs now → number now ≡ number before
  same_number before fs now visited = visited_to took (λ gone v. number v ≡ number before) (λ gone f mid last so_far one. same mid last f one ∙ so_far) fs [] before now refl visited

  pub stops_visited : (failed : StopRule V) (known : Option Verdict) (read wrote : Type 0) (before now : V) (stop : Stop) → ((fs : List FrameSpec) (mid : V) (f : FrameSpec) (s : Stop) → Visited took before fs mid → failed mid f now s → StopsAtFrame (number mid) wrote f s)
      → StopsVisit took failed known read before now stop → StopsUnjudged (number before) (fully_known known) read wrote stop
  stops_visited failed known read wrote before now stop cause (inl s) = of stop s.caused where
    of : (t : Stop) → Caused (λ e. Says s.rest ([], Some e)) read ⊥ unchanged t → StopsUnjudged (number before) (fully_known known) read wrote t
    of (why.Refused e) says = faulty_rest known s.rest s.frames e s.gone says
    of why.Read failing = failing
    of why.Write failing = absurd failing
    of why.Memory failing = tt
    of (why.Changed n) failing = absurd failing
  stops_visited failed known read wrote before now stop cause (inr s) = of stop (cause s.frames s.mid s.frame stop s.visited s.failing) where
    of : (t : Stop) → StopsAtFrame (number s.mid) wrote s.frame t → StopsUnjudged (number before) (fully_known known) read wrote t
    of (why.Refused e) failing = absurd failing
    of why.Read failing = absurd failing
    of why.Write failing = failing
    of why.Memory failing = tt
    of (why.Changed n) failing = (failing.0 ∙ same_number before s.frames s.mid s.visited, faulty_frame known (with_first_known s.frame s.rest) s.rest s.frames s.frame s.gone refl failing.1)

  -- so what the feed gave has a fault
  pub faulty_visited : {F : Type 0} (f : feed.Ghosts F) (old new : F) (failed : StopRule V) (wrote : Type 0) (before now : V) (stop : Stop) → ((fs : List FrameSpec) (mid : V) (f : FrameSpec) (s : Stop) → Visited took before fs mid → failed mid f now s → StopsAtFrame (number mid) wrote f s)
      → RefusesRest f old new (RefusesVisit took failed (λ b. judged_known false 0 (Some b)) before now) stop → ReadsFaulty f old new stop
  faulty_visited f old new failed wrote before now (why.Refused e) cause rest = refuses_less f old new _ _ (λ b stops. stops_visited failed (judged_known false 0 (Some b)) ⊥ wrote before now (why.Refused e) cause stops) rest
  faulty_visited f old new failed wrote before now why.Read cause rest = tt
  faulty_visited f old new failed wrote before now why.Write cause rest = tt
  faulty_visited f old new failed wrote before now why.Memory cause rest = tt
  faulty_visited f old new failed wrote before now (why.Changed n) cause rest = refuses_less f old new _ _ (λ b stops. (stops_visited failed (judged_known false 0 (Some b)) ⊥ wrote before now (why.Changed n) cause stops).1) rest

-- ---- of a visitor that gathers in it

module _ {V S : Type 0} (gathered : S → EntitySpec → S) (sets : V → S) (took : Takes V) (is : (old new : V) (f : FrameSpec) → took old f new → GathersFrame gathered (sets old) (sets new) f) where
  has_gathered : (before : V) (fs : List FrameSpec) (now : V) → Visited took before fs now → GathersFrames gathered (sets before) (sets now) fs
  has_gathered before fs now visited = visited_to took (λ gone v. GathersFrames gathered (sets before) (sets v) gone) (λ gone f mid last so_far one. gathers_more gathered gone f (sets before) (sets mid) (sets last) so_far (is mid last f one)) fs [] before now (λ sound. refl) visited

  pub gathers_file : (known : Option Verdict) (count : ℕ) (before now : V) → VisitsAll took known count before now → GathersFile gathered (fully_known known) (sets before) (sets now)
  gathers_file known count before now p = grind (arith, sets before, sets now, gathers_all gathered p.frames (sets before) (sets now) (sets now) (has_gathered before p.frames now p.visited) refl, has_gathered before p.frames now p.visited)

-- some entities more
some_more : {S : Type 0} (gathered : S → EntitySpec → S) (first before now : S) → GathersSome gathered first before → GathersSome gathered before now → GathersSome gathered first now
some_more gathered first before now a b = (a.0 ++ b.0, b.1 ∙ ap (λ s. fold gathered s b.0) a.1 ∙ sym (fold-append gathered first a.0 b.0))

-- whatever the frames are, some entities were gathered
pub some_visited : {V S : Type 0} (gathered : S → EntitySpec → S) (sets : V → S) (took : Takes V) → ((old new : V) (f : FrameSpec) → took old f new → GathersSome gathered (sets old) (sets new)) → (fs : List FrameSpec) (before now : V) → Visited took before fs now → GathersSome gathered (sets before) (sets now)
some_visited gathered sets took is fs before now visited = visited_to took (λ gone v. GathersSome gathered (sets before) (sets v)) (λ gone f mid last so_far one. some_more gathered (sets before) (sets mid) (sets last) so_far (is mid last f one)) fs [] before now ([], refl) visited
