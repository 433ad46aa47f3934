-- One frame taken, and all frames.
use Rattle.std.proofs.Common.{arith}
use Rattle.std.proofs.Common.{◌≡◌, ◌⊎◌, ℕ, ◌<◌, Result, Ok, Err, List, [], ◌∷◌, ◌++◌, Bool, ◌||◌, true, false, Option, Some, None, subst, refl, sym, ap, ◌∙◌}
use Rattle.std.specs.List.{flat_map, last_or}
use Rattle.std.specs.Option.{option_map}
use Rattle.std.proofs.lemmas.Grind.{flat_map-append}
use Rattle.pbf_header.specs.Header.{HeaderSpec}
use Rattle.std.proofs.lemmas.List.{append-nil}
use Rattle.pbf_wire.specs.declared.fault.Fault.{Fault}
use Rattle.osm_entity.specs.Entity.{EntitySpec}
use Rattle.pbf_frame.specs.declared.device.Feed as feed
use Rattle.pbf_frame.specs.declared.reader.FrameReader.{FrameReader}
use Rattle.pbf_frame.specs.declared.stop.Stop.{Stop}
use Rattle.pbf_frame.specs.declared.stop.Stop.TheVariants as why
use Rattle.pbf_frame.specs.Devices.{IsAtEnd, Passes, prepend}
use Rattle.pbf_frame.specs.Frames.{FrameSpec, is_header, frame_kind, frame_end, frame_bytes, next_of}
use Rattle.pbf_frame.specs.Refusals.{Refuses}
use Rattle.pbf_frame.specs.Next.{Advances, VerdictGoesOn, IsReading, place_of, had_header_of, verdict}
use Rattle.pbf_frame.specs.Sound.{IsFrame}
use Rattle.pbf_frame.specs.Reads.{IsReaderStop}
use Rattle.pbf_frame.specs.Verdict.{Verdict, with_first_known, with_all, VerdictAfter, Says}
use Rattle.pbf_pass.specs.declared.pass.Pass.{Pass}
use Rattle.pbf_pass.specs.Judged.{payload_fault, sound_first, fully, fully_known}
use Rattle.pbf_pass.specs.Counting.{counts_of, entities_in, stored_entities}
use Rattle.pbf_pass.specs.Pass.{TakesSome, TakesPayload, Follows, IsStep, HoldsHeader, headers_in, frame_headers, file_header}
use Rattle.pbf_pass.specs.Payload.{Payload, payload_of}
use Rattle.pbf_frame.specs.Keeps.{KeepsFeed}
use Rattle.pbf_pass.proofs.CountLemmas.{counts_together, stored_one}

-- ---- the verdict of all phases

pub fully_first : (known rest : Option Verdict) (f : FrameSpec) → known ≡ with_first_known f rest → payload_fault f ≡ None → fully_known known ≡ with_first_known f (fully_known rest)
fully_first known rest f e sound = grind arith

-- ---- a step that says less

follows_less : (took less : FrameSpec → Type 0) (failed : FrameSpec → Stop → Type 0) (same stays : Type 0) (answer : Result (Option FrameSpec) Stop) (result : Result Bool Stop)
    → ((f : FrameSpec) → took f → less f) → (same → stays) → Follows took failed same answer result → Follows less failed stays answer result
follows_less took less failed same stays answer result h7 h8 h9 = grind arith

pub step_less : {F : Type 0} (g : feed.Ghosts F) (old new : FrameReader F) (took less : FrameSpec → Type 0) (failed : FrameSpec → Stop → Type 0) (same stays : Type 0) (result : Result Bool Stop)
    → ((f : FrameSpec) → took f → less f) → (same → stays) → IsStep g old new took failed same result → IsStep g old new less failed stays result
step_less g old new took less failed same stays result h k step = grind (arith, follows_less took less failed same stays step.answer result h k step.follows)

-- ---- a step of a reader that was reading

-- the reader gave this frame, which has no fault, and is after it
pub record GaveOne {F : Type 0} (g : feed.Ghosts F) (old new : FrameReader F) (f : FrameSpec) : Type 0 where
  pub told : g.remaining old.feed ≡ prepend (frame_bytes f) (g.remaining new.feed)
  pub logged : Passes (g.has_passed old.feed) (frame_bytes f) (g.has_passed new.feed)
  pub is_frame : IsFrame (had_header_of old) (place_of old) f
  pub had_header : had_header_of new ≡ (had_header_of old || is_header (frame_kind f))
  pub place : place_of new ≡ frame_end f

-- the reader gave nothing more, after its header
pub record GaveNone {F : Type 0} (g : feed.Ghosts F) (old new : FrameReader F) : Type 0 where
  pub told : g.remaining old.feed ≡ g.remaining new.feed
  pub logged : (log : ℕ) (b : List ℕ) → g.has_passed old.feed log b → g.has_passed new.feed log b
  pub had_header : had_header_of old ≡ true
  pub end : IsAtEnd (g.remaining new.feed)

-- it took a frame
pub record TookOne {F : Type 0} (g : feed.Ghosts F) (old new : FrameReader F) (took : FrameSpec → Type 0) : Type 0 where
  pub frame : FrameSpec
  pub is : verdict g.remaining old ≡ with_first_known frame (verdict g.remaining new)
  pub taken : took frame
  pub reading : IsReading new
  pub rises : place_of old < place_of new
  pub gave : GaveOne g old new frame
  pub keeps : KeepsFeed g old.feed new.feed

-- it reached the end
pub record MetEnd {F : Type 0} (g : feed.Ghosts F) (old new : FrameReader F) (same : Type 0) : Type 0 where
  pub none : Says (verdict g.remaining old) ([], None)
  pub gave : GaveNone g old new
  pub stays : same
  pub keeps : KeepsFeed g old.feed new.feed

-- it stopped: the reader did, or at a frame
pub record StoppedStep {F : Type 0} (g : feed.Ghosts F) (old new : FrameReader F) (failed : FrameSpec → Stop → Type 0) (same : Type 0) (stop : Stop) : Type 0 where
  pub keeps : KeepsFeed g old.feed new.feed
  pub where_it_stopped : (VerdictGoesOn (verdict g.remaining old) (Err stop) (verdict g.remaining new) × IsReaderStop (g.failures old.feed) (g.failures new.feed) stop × same)
      ⊎ ((f : FrameSpec) × (verdict g.remaining old ≡ with_first_known f (verdict g.remaining new)) × failed f stop)

-- a refusal came from the reader, or at the frame that it gave; `Changed` came at that frame
abbrev pub RefusedStep : {F : Type 0} → feed.Ghosts F → (old new : FrameReader F) → (FrameSpec → Stop → Type 0) → (same : Type 0) → Stop → Type 0
RefusedStep g old new failed same (why.Refused e) =
    (Refuses (λ b. next_of (had_header_of old) (place_of old) b ≡ Err e) (g.has_passed old.feed) (g.has_passed new.feed) (g.remaining old.feed) (g.remaining new.feed) × same)
    ⊎ ((f : FrameSpec) × GaveOne g old new f × failed f (why.Refused e))
RefusedStep g old new failed same why.Read = Unit {0}
RefusedStep g old new failed same why.Write = Unit {0}
RefusedStep g old new failed same why.Memory = Unit {0}
RefusedStep g old new failed same (why.Changed n) = (f : FrameSpec) × GaveOne g old new f × failed f (why.Changed n)

other : (r : Result Bool Stop) → r ≡ Ok true → r ≡ Ok false → ⊥
other r e f = cc

no_stop : (b : Bool) (s : Stop) (r : Result Bool Stop) → r ≡ Ok b → r ≡ Err s → ⊥
no_stop b s r e f = cc

same_stop : (s t : Stop) (r : Result Bool Stop) → r ≡ Err s → r ≡ Err t → s ≡ t
same_stop s t r e f = cc

-- the fault that comes after the frames that are done
pub gone_fault : (first : Option Verdict) (frames : List FrameSpec) (known : Option Verdict) (e : Fault) → VerdictAfter first frames (fully_known known) → Says known ([], Some e) → Says first (frames, Some e)
gone_fault first frames known e h4 h5 = grind (arith, append-nil)

-- the fault of the payload of the next frame
pub gone_payload : (first : Option Verdict) (frames : List FrameSpec) (known rest : Option Verdict) (f : FrameSpec) (e : Fault) → VerdictAfter first frames (fully_known known) → known ≡ with_first_known f rest → payload_fault f ≡ Some e → Says first (frames, Some e)
gone_payload first frames known rest f e gone is fault = subst (λ (k : Option Verdict). Says k (frames, Some e)) (sym (gone ∙ ap (λ (k : Option Verdict). option_map (with_all frames) (fully_known k)) is)) (of rest) where
  of : (rest : Option Verdict) → Says (option_map (with_all frames) (fully_known (with_first_known f rest))) (frames, Some e)
  of None = tt
  of (Some v) = ap (λ (o : Option Fault). with_all frames (sound_first o f (fully v))) fault ∙ ap (λ (l : List FrameSpec). (l, Some e)) (append-nil frames)

module _ {F : Type 0} (g : feed.Ghosts F) (old new : FrameReader F) (took : FrameSpec → Type 0) (failed : FrameSpec → Stop → Type 0) (same : Type 0) where
  gave_one : (f : FrameSpec) → Advances g.remaining g.failures g.lender g.has_passed old (Ok (Some f)) new → GaveOne g old new f
  gave_one f a = grind arith

  went_on : (answer : Result (Option FrameSpec) Stop) → Advances g.remaining g.failures g.lender g.has_passed old answer new → Follows took failed same answer (Ok true) → TookOne g old new took
  went_on answer h1 h2 = grind (arith, gave_one, other, no_stop)

  pub took_one : (more : Bool) → more ≡ true → IsReading old → IsStep g old new took failed same (Ok more) → TookOne g old new took
  took_one more e reading step = let s = subst (λ (b : Bool). IsStep g old new took failed same (Ok b)) e step in went_on s.answer (s.next.0 reading) s.follows

  ended_at : (answer : Result (Option FrameSpec) Stop) → Advances g.remaining g.failures g.lender g.has_passed old answer new → Follows took failed same answer (Ok false) → MetEnd g old new same
  ended_at answer h1 h2 = grind (arith, no_stop)

  pub met_end : (more : Bool) → more ≡ false → IsReading old → IsStep g old new took failed same (Ok more) → MetEnd g old new same
  met_end more e reading step = let s = subst (λ (b : Bool). IsStep g old new took failed same (Ok b)) e step in ended_at s.answer (s.next.0 reading) s.follows

  stopped_at : (stop : Stop) (answer : Result (Option FrameSpec) Stop) → Advances g.remaining g.failures g.lender g.has_passed old answer new → Follows took failed same answer (Err stop) → StoppedStep g old new failed same stop
  stopped_at stop answer h2 h3 = grind (arith, no_stop, same_stop)

  refused_at : (stop : Stop) (answer : Result (Option FrameSpec) Stop) → Advances g.remaining g.failures g.lender g.has_passed old answer new → Follows took failed same answer (Err stop) → RefusedStep g old new failed same stop
  refused_at stop answer h2 h3 = grind (arith, no_stop, same_stop)

  pub refused_step : (stop : Stop) → IsReading old → IsStep g old new took failed same (Err stop) → RefusedStep g old new failed same stop
  refused_step stop reading s = refused_at stop s.answer (s.next.0 reading) s.follows

  pub stopped_step : (stop : Stop) → IsReading old → IsStep g old new took failed same (Err stop) → StoppedStep g old new failed same stop
  stopped_step stop reading s = stopped_at stop s.answer (s.next.0 reading) s.follows

-- ---- frames done

pub taken_counts_of : (some : List EntitySpec → List EntitySpec) → some [] ≡ [] → (p : Payload) (old new : Pass) (es : List EntitySpec) → TakesSome p (some (entities_in p)) old new
    → old.counts ≡ counts_of es → new.counts ≡ counts_of (es ++ some (entities_in p))
taken_counts_of some h1 p old new es h6 h7 = grind (arith, append-nil, counts_together)

-- one more frame is counted
pub taken_counts : (f : FrameSpec) (old new : Pass) (fs : List FrameSpec) → TakesPayload (payload_of f) old new → old.counts ≡ counts_of (stored_entities fs) → new.counts ≡ counts_of (stored_entities (fs ++ f ∷ []))
taken_counts f old new fs h so_far = grind (arith, taken_counts_of (λ es. es) refl (payload_of f) old new (stored_entities fs) h so_far, stored_one fs f)

-- the last of a list to which one was appended
last_behind : {A : Type 0} (o : Option A) (xs : List A) (y : A) → last_or o (xs ++ y ∷ []) ≡ Some y
last_behind o [] y = refl
last_behind o (x ∷ xs) y = last_behind (Some x) xs y

headers_one : (fs : List FrameSpec) (f : FrameSpec) → flat_map frame_headers (fs ++ f ∷ []) ≡ flat_map frame_headers fs ++ frame_headers f
headers_one fs f = flat_map-append frame_headers fs (f ∷ []) ∙ ap (λ (l : List (ℕ × HeaderSpec)). flat_map frame_headers fs ++ l) (append-nil (frame_headers f))

same_header : (o : Option (ℕ × HeaderSpec)) (old new : Pass) → new.header ≡ old.header → new.header_at ≡ old.header_at → HoldsHeader o old → HoldsHeader o new
same_header o old new h3 h4 h5 = grind arith

taken_header_of : (p : Payload) (old new : Pass) (hs : List (ℕ × HeaderSpec)) → TakesPayload p old new → HoldsHeader (last_or None hs) old → HoldsHeader (last_or None (hs ++ headers_in p)) new
taken_header_of p old new hs h4 h5 = grind (arith, last_behind, append-nil, same_header)

-- the pass holds the header of one more frame
pub taken_header : (f : FrameSpec) (old new : Pass) (fs : List FrameSpec) → TakesPayload (payload_of f) old new → HoldsHeader (file_header fs) old → HoldsHeader (file_header (fs ++ f ∷ [])) new
taken_header f old new fs h holds = grind (arith, headers_one fs f, taken_header_of (payload_of f) old new (flat_map frame_headers fs) h holds)
