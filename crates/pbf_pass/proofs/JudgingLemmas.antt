-- What a visitor that judges has done, and why it stops.
use Rattle.std.proofs.Common.{ℕ, ◌≡◌, inl, inr, List, [], ◌∷◌, Option, Some, None, refl, sym, subst}
use Rattle.std.specs.List.{AllByRecursion, fold}
use Rattle.osm_entity.specs.Entity.{EntitySpec}
use Rattle.pbf_frame.specs.declared.stop.Stop.{Stop}
use Rattle.pbf_frame.specs.declared.stop.Stop.TheVariants as why
use Rattle.pbf_frame.specs.Frames.{FrameSpec}
use Rattle.pbf_frame.specs.Verdict.{Verdict, with_first_known, Says}
use Rattle.pbf_wire.proofs.AllLemmas.{all_append}
use Rattle.pbf_pass.specs.declared.pass.Pass.{Pass}
use Rattle.pbf_pass.specs.Unjudged.{IsSound}
use Rattle.pbf_pass.specs.Counting.{counts_of, stored_entities}
use Rattle.pbf_pass.specs.Judged.{payload_fault, fully_known}
use Rattle.pbf_pass.specs.Pass.{IsFresh, TakesFrame, TakesFile, HoldsHeader, file_header}
use Rattle.pbf_pass.specs.Stops.{Caused, FaultOf, Only, unchanged}
use Rattle.pbf_pass.specs.Visit.{Takes, StopRule, Visited, VisitsAll, StopsVisit}
use Rattle.pbf_pass.proofs.GatherLemmas.{gathered_one}
use Rattle.pbf_pass.proofs.SoundLemmas.{front_of_sound, fully_gone}
use Rattle.pbf_pass.proofs.StepLemmas.{gone_fault, gone_payload, taken_counts, taken_header}
use Rattle.pbf_pass.proofs.VisitLemmas.{visited_to}

-- a visitor refuses each payload that has a fault
module _ {V : Type 0} (took : Takes V) (is_sound : (old new : V) (f : FrameSpec) → took old f new → payload_fault f ≡ None) where
  pub sound_visited : (before : V) (fs : List FrameSpec) (now : V) → Visited took before fs now → AllByRecursion IsSound fs
  sound_visited before fs now visited = visited_to took (λ gone v. AllByRecursion IsSound gone) (λ gone f mid last so_far one. all_append IsSound gone (f ∷ []) so_far (is_sound mid last f one, tt)) fs [] before now tt visited

  -- of a file all of whose frames it took
  pub says_visited : (known : Option Verdict) (count : ℕ) (before now : V) (p : VisitsAll took known count before now) → Says (fully_known known) (p.frames, None)
  says_visited known count before now p = subst (λ (k : Option Verdict). Says (fully_known k) (p.frames, None)) (sym p.says) (front_of_sound p.frames None (sound_visited before p.frames now p.visited))

  pub stops_judging : (failed : StopRule V) (known : Option Verdict) (read wrote : Type 0) (before now : V) (stop : Stop) → ((fs : List FrameSpec) (mid : V) (f : FrameSpec) (s : Stop) → Visited took before fs mid → failed mid f now s → Caused (Only (payload_fault f)) ⊥ wrote unchanged s)
      → StopsVisit took failed known read before now stop → Caused (FaultOf (fully_known known)) read wrote unchanged stop
  stops_judging failed known read wrote before now stop cause (inl s) = of stop s.caused where
    of : (t : Stop) → Caused (λ e. Says s.rest ([], Some e)) read ⊥ unchanged t → Caused (FaultOf (fully_known known)) read wrote unchanged t
    of (why.Refused e) says = (s.frames, gone_fault (fully_known known) s.frames s.rest e (fully_gone known s.rest s.frames (sound_visited before s.frames now s.visited) s.gone) says)
    of why.Read failing = failing
    of why.Write failing = absurd failing
    of why.Memory failing = tt
    of (why.Changed n) failing = absurd failing
  stops_judging failed known read wrote before now stop cause (inr s) = of stop (cause s.frames s.mid s.frame stop s.visited s.failing) where
    of : (t : Stop) → Caused (Only (payload_fault s.frame)) ⊥ wrote unchanged t → Caused (FaultOf (fully_known known)) read wrote unchanged t
    of (why.Refused e) fault =
        let next = with_first_known s.frame s.rest in
        (s.frames, gone_payload (fully_known known) s.frames next s.rest s.frame e (fully_gone known next s.frames (sound_visited before s.frames s.mid s.visited) s.gone) refl fault)
    of why.Read failing = absurd failing
    of why.Write failing = failing
    of why.Memory failing = tt
    of (why.Changed n) failing = absurd failing

-- a pass has judged these frames since it was fresh
record HasJudged {S : Type 0} (gathered : S → EntitySpec → S) (first now : S) (fs : List FrameSpec) (pass : Pass) : Type 0 where
  pub counted : pass.counts ≡ counts_of (stored_entities fs)
  pub header : HoldsHeader (file_header fs) pass
  pub gathered_all : now ≡ fold gathered first (stored_entities fs)

-- what is known of a file that was judged
pub takes_file : {V S : Type 0} (gathered : S → EntitySpec → S) (pass : V → Pass) (sets : V → S) (took : Takes V) → ((old new : V) (f : FrameSpec) → took old f new → TakesFrame gathered (pass old) (pass new) (sets old) (sets new) f)
    → (known : Option Verdict) (count : ℕ) (before now : V) → IsFresh (pass before) → VisitsAll took known count before now → TakesFile gathered (fully_known known) (sets before) (sets now) (pass now)
takes_file gathered pass sets took is known count before now fresh p =
    let judged = visited_to took (λ gone v. HasJudged gathered (sets before) (sets v) gone (pass v)) (λ gone f mid last so_far one.
    let h = is mid last f one in record {
      counted = taken_counts f (pass mid) (pass last) gone h.taken so_far.counted;
      header = taken_header f (pass mid) (pass last) gone h.taken so_far.header;
      gathered_all = gathered_one gathered gone f (sets before) (sets mid) (sets last) so_far.gathered_all h.gathered_all;
    }) p.frames [] before now record { counted = fresh.2; header = fresh.0; gathered_all = refl } p.visited in
    record {
      frames = p.frames;
      says = says_visited took (λ old new f one. (is old new f one).sound) known count before now p;
      counted = judged.counted;
      header = judged.header;
      gathered_all = judged.gathered_all;
    }
