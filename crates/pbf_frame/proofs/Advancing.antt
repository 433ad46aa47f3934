-- What `next` of a reader does, from what was read.
use Rattle.std.proofs.Common.{◌≡◌, ℕ, ◌+◌, ◌<◌, ◌≤◌, ◌||◌, Bool, List, Option, Some, None, Result, Ok, Err, refl, sym, ap, ◌∙◌, subst, arith}
use Rattle.std.specs.Borrow.{GName}
use Rattle.pbf_frame.specs.declared.frame.Frame.{Frame}
use Rattle.pbf_frame.specs.declared.frame.FrameKind.{FrameKind}
use Rattle.pbf_frame.specs.declared.reader.FrameReader.{FrameReader}
use Rattle.pbf_frame.specs.declared.reader.State.{State}
use Rattle.pbf_frame.specs.declared.reader.State.TheVariants.{Reading, Ended, Stopped}
use Rattle.pbf_frame.specs.declared.frame_parts.BufferedFrame.{BufferedFrame}
use Rattle.pbf_frame.specs.declared.stop.Stop.{Stop}
use Rattle.pbf_frame.specs.declared.stop.Stop.TheVariants.{Refused}
use Rattle.pbf_frame.specs.Frames.{FrameSpec, is_header, frame_kind, frame_end, blob_at, next_of}
use Rattle.pbf_frame.specs.Verdict.{Verdict, judged_known, with_first_known}
use Rattle.pbf_frame.specs.Reads.{IsSeen, IsReaderStop, GaveFrame, GaveEnd}
use Rattle.pbf_frame.specs.Refusals.{RefusedBy}
use Rattle.pbf_frame.specs.Next.{Advances, VerdictGoesOn, IsNext, IsLendingNext, IsSeeingNext, Shows, ShowsAnswer, SeesAnswer, verdict}
use Rattle.pbf_frame.proofs.Judging.{gave_some, gave_none, gave_fault}
use Rattle.pbf_frame.proofs.Refusing.{refused_told}

reading_ended : (s : State) → s ≡ Reading → s ≡ Ended → ⊥
reading_ended s a b = cc

reading_stopped : (s : State) (stop : Stop) → s ≡ Reading → s ≡ Stopped stop → ⊥
reading_stopped s stop a b = cc

ended_stopped : (s : State) (stop : Stop) → s ≡ Ended → s ≡ Stopped stop → ⊥
ended_stopped s stop a b = cc

-- what a read leaves whatever it returns
pub record Keeps {F : Type 0} (failures : F → ℕ) (lender : F → List GName) (old new : FrameReader F) : Type 0 where
  pub reading : old.state ≡ Reading
  pub same_lender : lender new.feed ≡ lender old.feed
  pub counts : failures old.feed ≤ failures new.feed

gave_stop : (h : Bool) (p : ℕ) (old left : Option (List ℕ)) (before now : ℕ → List ℕ → Type 0) (new : Option Verdict) (stop : Stop) → RefusedBy (next_of h p) before now old left stop → VerdictGoesOn (judged_known h p old) (Err stop) new
gave_stop h p old left before now new (Refused e) refused = gave_fault h p old e (λ bytes is. refused_told (λ b. next_of h p b ≡ Err e) before now old left bytes refused is)
gave_stop h p old left before now new stop refused = tt

module _ {F : Type 0} {remaining : F → Option (List ℕ)} {failures : F → ℕ} {lender : F → List GName} {has_passed : F → ℕ → List ℕ → Type 0} where
  was_reading : (old new : FrameReader F) (answer : Result (Option FrameSpec) Stop) → old.state ≡ Reading → Advances remaining failures lender has_passed old answer new → IsNext remaining failures lender has_passed old answer new
  was_reading old new answer reading advances = (λ _. advances, λ ended. absurd (reading_ended old.state reading ended), λ stop stopped. absurd (reading_stopped old.state stop reading stopped))

  -- a reader at its end stays there
  pub sees_end_once_ended : (old : FrameReader F) → old.state ≡ Ended → IsSeeingNext remaining failures lender has_passed old (Ok None) old
  sees_end_once_ended old ended = record {
    answer = Ok None;
    sees = refl;
    next = (λ reading. absurd (reading_ended old.state reading ended), λ _. (refl, refl), λ stop stopped. absurd (ended_stopped old.state stop ended stopped));
  }

  pub sees_frame : (old new : FrameReader F) (result : Result (Option BufferedFrame) Stop) (seen : BufferedFrame) → result ≡ Ok (Some seen) → Keeps failures lender old new
      → GaveFrame old.had_header old.place new.header.items new.blob.items seen (has_passed old.feed) (has_passed new.feed) (remaining old.feed) (remaining new.feed)
      → new.state ≡ old.state → new.place ≡ seen.blob_at + seen.size → old.place < seen.blob_at → new.had_header ≡ (old.had_header || is_header seen.kind)
      → IsSeeingNext remaining failures lender has_passed old result new
  sees_frame old new result seen is keeps gave state place later had =
      let f = gave.frame in
      let gives = gave_some old.had_header old.place (remaining old.feed) (remaining new.feed) f gave.given gave.untold in
      let had_is : new.had_header ≡ (old.had_header || is_header (frame_kind f)) = had ∙ ap (λ (k : FrameKind). old.had_header || is_header k) gave.is_seen.kind_is in
      let end_is : new.place ≡ frame_end f = place ∙ ap (λ (n : ℕ). n + seen.size) gave.is_seen.place ∙ ap (λ (n : ℕ). blob_at f + n) gave.is_seen.size_is in
      subst (λ (r : Result (Option BufferedFrame) Stop). IsSeeingNext remaining failures lender has_passed old r new) (sym is) record {
        answer = Ok (Some f);
        sees = gave.is_seen;
        next = was_reading old new (Ok (Some f)) keeps.reading record {
          gave = gives.0 ∙ ap (λ (b : Bool). with_first_known f (judged_known b (frame_end f) (remaining new.feed))) (sym had_is) ∙ ap (λ (n : ℕ). with_first_known f (judged_known new.had_header n (remaining new.feed))) (sym end_is);
          went = gives.1;
          answers = (state ∙ keeps.reading, gave.offset, end_is, omega (arith, place, later), had_is);
          ended = tt;
          same_lender = keeps.same_lender;
          passed = gave.passed;
          is_frame = gave.is_frame;
          counts = keeps.counts;
          stops = tt;
          refused = tt;
        };
      }

  pub sees_end : (old new : FrameReader F) (result : Result (Option BufferedFrame) Stop) → result ≡ Ok None → Keeps failures lender old new
      → GaveEnd old.had_header old.place (has_passed old.feed) (has_passed new.feed) (remaining old.feed) (remaining new.feed) → new.state ≡ Ended → new.place ≡ old.place
      → IsSeeingNext remaining failures lender has_passed old result new
  sees_end old new result is keeps gave state place =
      let gives = gave_none old.had_header old.place (remaining old.feed) (remaining new.feed) gave.given gave.untold in
      subst (λ (r : Result (Option BufferedFrame) Stop). IsSeeingNext remaining failures lender has_passed old r new) (sym is) record {
        answer = Ok None;
        sees = refl;
        next = was_reading old new (Ok None) keeps.reading record {
          gave = gives.0;
          went = gives.1;
          answers = (state, place, gave.header_given);
          ended = gave.end;
          same_lender = keeps.same_lender;
          passed = gave.passed;
          is_frame = tt;
          counts = keeps.counts;
          stops = tt;
          refused = tt;
        };
      }

  pub sees_stop : (old new : FrameReader F) (result : Result (Option BufferedFrame) Stop) (stop : Stop) → result ≡ Err stop → Keeps failures lender old new
      → RefusedBy (next_of old.had_header old.place) (has_passed old.feed) (has_passed new.feed) (remaining old.feed) (remaining new.feed) stop → IsReaderStop (failures old.feed) (failures new.feed) stop → new.state ≡ Stopped stop → new.place ≡ old.place
      → IsSeeingNext remaining failures lender has_passed old result new
  sees_stop old new result stop is keeps refused cause state place =
      subst (λ (r : Result (Option BufferedFrame) Stop). IsSeeingNext remaining failures lender has_passed old r new) (sym is) record {
        answer = Err stop;
        sees = refl;
        next = was_reading old new (Err stop) keeps.reading record {
          gave = gave_stop old.had_header old.place (remaining old.feed) (remaining new.feed) (has_passed old.feed) (has_passed new.feed) (verdict remaining new) stop refused;
          went = tt;
          answers = (state, place);
          ended = tt;
          same_lender = keeps.same_lender;
          passed = tt;
          is_frame = tt;
          counts = keeps.counts;
          stops = cause;
          refused = refused;
        };
      }

  -- ---- what is lent is what lies in the buffers

  pub lends_err : (old new : FrameReader F) (r : Result (Option BufferedFrame) Stop) (result : Result (Option Frame) Stop) (stop : Stop) → r ≡ Err stop → result ≡ Err stop → IsSeeingNext remaining failures lender has_passed old r new → IsLendingNext remaining failures lender has_passed old result new
  lends_err old new r result stop e is next =
      let answer_is : next.answer ≡ Err stop = subst (λ (x : Result (Option BufferedFrame) Stop). SeesAnswer new.header.items new.blob.items x next.answer) e next.sees in
      record { answer = next.answer; shows = subst (λ (x : Result (Option Frame) Stop). ShowsAnswer x next.answer) (sym is) answer_is; next = next.next }

  pub lends_none : (old new : FrameReader F) (r : Result (Option BufferedFrame) Stop) → r ≡ Ok None → IsSeeingNext remaining failures lender has_passed old r new → IsLendingNext remaining failures lender has_passed old (Ok None) new
  lends_none old new r e next = record { answer = next.answer; shows = subst (λ (x : Result (Option BufferedFrame) Stop). SeesAnswer new.header.items new.blob.items x next.answer) e next.sees; next = next.next }

  pub lends_some : (old new : FrameReader F) (r : Result (Option BufferedFrame) Stop) (seen : BufferedFrame) (frame : Frame) → r ≡ Ok (Some seen) → ((f : FrameSpec) → IsSeen new.header.items new.blob.items seen f → Shows frame f) → IsSeeingNext remaining failures lender has_passed old r new → IsLendingNext remaining failures lender has_passed old (Ok (Some frame)) new
  lends_some old new r seen frame e shows next =
      let sees = subst (λ (x : Result (Option BufferedFrame) Stop). SeesAnswer new.header.items new.blob.items x next.answer) e next.sees in
      record { answer = next.answer; shows = shown next.answer sees; next = next.next } where
        shown : (answer : Result (Option FrameSpec) Stop) → SeesAnswer new.header.items new.blob.items (Ok (Some seen)) answer → ShowsAnswer (Ok (Some frame)) answer
        shown (Ok (Some f)) sees = shows f sees
        shown (Ok None) sees = absurd sees
        shown (Err stop) sees = absurd sees
