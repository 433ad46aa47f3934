-- The first header of frames, how many there are of each type, and why their reading stops.
use Rattle.std.proofs.Common.{◌≡◌, ◌≤◌, ◌+◌, ◌==◌, ◌&&◌, ◌^◌, ◌-◌, arith, inl, inr, ℕ, Bool, true, false, List, [], ◌∷◌, ◌++◌, length, Option, Some, None, append_assoc, refl, sym, ap, subst, ◌∙◌}
use Rattle.std.specs.Prelude.{if◌then◌else◌}
use Rattle.std.specs.List.{AllByRecursion}
use Rattle.std.specs.Option.{option_map}
use Rattle.std.proofs.lemmas.List.{append-nil}
use Rattle.pbf_wire.specs.declared.fault.Fault.{Fault}
use Rattle.pbf_wire.specs.declared.fault.ReadFault.{ReadFault}
use Rattle.pbf_wire.specs.declared.fault.ReadFault.TheVariants as read
use Rattle.pbf_wire.proofs.AllLemmas.{all_append}
use Rattle.pbf_frame.specs.declared.frame.FrameKind.{FrameKind}
use Rattle.pbf_frame.specs.declared.stop.Stop.{Stop}
use Rattle.pbf_frame.specs.declared.stop.Stop.TheVariants as why
use Rattle.pbf_frame.specs.Frames.{FrameSpec, frame_kind, is_header, is_data}
use Rattle.pbf_frame.specs.Stops.{stop_of_fault}
use Rattle.pbf_frame.specs.Verdict.{Verdict, VerdictAfter, Says, with_all, with_first_known, with_frame_first}
use Rattle.pbf_block.specs.Numbers.{capped}
use Rattle.pbf_pass.specs.Judged.{sound_first}
use Rattle.pbf_pass.specs.Payload.{payload_of}
use Rattle.pbf_pass.specs.Stops.{Caused, FaultOf, Only, unchanged}
use Rattle.pbf_pass.specs.Visit.{Takes, StopRule, Visited, VisitsAll, StopsVisit}
use Rattle.pbf_pass.proofs.VisitLemmas.{visited_to}
use Rattle.pbfcut.specs.declared.summary.Summary.{Summary}
use Rattle.pbfcut.specs.Showing.{frame_text}
use Rattle.pbfcut.specs.Summary.{IsSummary, Sums, count_of, counted, first_header, header_lines, heading_fault, headings_front, headings_known, is_other, members_of}

-- why the reading of a header stops
pub header_stops : (fault : Option Fault) (e : ReadFault) → ((x : Fault) → e ≡ read.Refused x → fault ≡ Some x) → Caused (Only fault) ⊥ ⊥ unchanged (stop_of_fault e)
header_stops fault e h = grind arith

-- three counts were put, each after what is before it, and then the end
pub counts_put : (o p q r s a l b m c n d : List ℕ) → p ≡ o ++ a ++ l → q ≡ p ++ b ++ m → r ≡ q ++ c ++ n → s ≡ r ++ d → s ≡ o ++ (a ++ l ++ b ++ m ++ c ++ n ++ d)
counts_put o p q r s a l b m c n d one two three four = grind (arith, append_assoc)

-- ---- one frame more

count_more : (is : FrameKind → Bool) (gone : List FrameSpec) (f : FrameSpec) → count_of is (gone ++ f ∷ []) ≡ (if is (frame_kind f) then count_of is gone + 1 else count_of is gone)
count_more is [] f = refl
count_more is (g ∷ gone) f = grind (arith, count_more is gone f)

-- as it is counted
counted_more : (is : FrameKind → Bool) (gone : List FrameSpec) (f : FrameSpec) → capped (count_of is (gone ++ f ∷ [])) ≡ counted is (frame_kind f) (capped (count_of is gone))
counted_more is gone f = grind (arith, count_more is gone f)

-- the first header stays the first
first_more : (gone : List FrameSpec) (f : FrameSpec) → first_header (gone ++ f ∷ []) ≡ (if capped (count_of is_header gone) == 0 && is_header (frame_kind f) then Some f else first_header gone)
first_more [] f = grind arith
first_more (g ∷ gone) f = grind (arith, first_more gone f)

-- what is said of it
said_more : (text : Option FrameSpec → List ℕ) (gone : List FrameSpec) (f : FrameSpec) → text (first_header (gone ++ f ∷ [])) ≡ (if capped (count_of is_header gone) == 0 && is_header (frame_kind f) then text (Some f) else text (first_header gone))
said_more text gone f = ap text (first_more gone f) ∙ if_inside (capped (count_of is_header gone) == 0 && is_header (frame_kind f)) where
  if_inside : (b : Bool) → text (if b then Some f else first_header gone) ≡ (if b then text (Some f) else text (first_header gone))
  if_inside true = refl
  if_inside false = refl

-- a text of it that a summary keeps
kept_more : (text : Option FrameSpec → List ℕ) (gone : List FrameSpec) (f : FrameSpec) (headers : ℕ) (old new : List ℕ) → headers ≡ capped (count_of is_header gone) → old ≡ text (first_header gone)
    → new ≡ (if headers == 0 && is_header (frame_kind f) then text (Some f) else old) → new ≡ text (first_header (gone ++ f ∷ []))
kept_more text gone f headers old new is_count is_old is_new = grind (arith, said_more text gone f, is_count, is_old, is_new)

-- what is counted is no more than there is
count_within : (is : FrameKind → Bool) (frames : List FrameSpec) → count_of is frames ≤ length frames
count_within is [] = omega arith
count_within is (f ∷ frames) = grind (arith, count_within is frames)

exact : (is : FrameKind → Bool) (frames : List FrameSpec) (n : ℕ) → length frames ≤ 2 ^ 64 - 1 → n ≡ capped (count_of is frames) → n ≡ count_of is frames
exact is frames n within e = omega (arith, within, e, count_within is frames)

-- ---- all frames

record HasSummed (gone : List FrameSpec) (s : Summary) : Type 0 where
  pub lines : s.lines.items ≡ header_lines (first_header gone)
  pub members : s.members.items ≡ members_of (first_header gone)
  pub headers : s.headers ≡ capped (count_of is_header gone)
  pub blocks : s.blocks ≡ capped (count_of is_data gone)
  pub others : s.others ≡ capped (count_of is_other gone)

abbrev took : Takes Summary
took old f new = Sums (frame_kind f) (payload_of f) old new

one_more : (gone : List FrameSpec) (f : FrameSpec) (mid now : Summary) → HasSummed gone mid → took mid f now → HasSummed (gone ++ f ∷ []) now
unfolding frame_text
one_more gone f mid now h one = record {
  lines = kept_more header_lines gone f mid.headers mid.lines.items now.lines.items h.headers h.lines one.lines;
  members = kept_more members_of gone f mid.headers mid.members.items now.members.items h.headers h.members one.members;
  headers = one.headers ∙ ap (counted is_header (frame_kind f)) h.headers ∙ sym (counted_more is_header gone f);
  blocks = one.blocks ∙ ap (counted is_data (frame_kind f)) h.blocks ∙ sym (counted_more is_data gone f);
  others = one.others ∙ ap (counted is_other (frame_kind f)) h.others ∙ sym (counted_more is_other gone f);
}

-- a fresh summary took all frames of a file
pub summed : (known : Option Verdict) (count : ℕ) (before now : Summary) → count ≤ 2 ^ 64 - 1 → before.lines.items ≡ [] → before.members.items ≡ [] → before.headers ≡ 0 → before.blocks ≡ 0 → before.others ≡ 0 → VisitsAll took known count before now → IsSummary known now
summed known count before now within lines members headers blocks others p =
    let all : HasSummed p.frames now = visited_to took HasSummed one_more p.frames [] before now record { lines = lines; members = members; headers = headers; blocks = blocks; others = others } p.visited in
    let few : length p.frames ≤ 2 ^ 64 - 1 = omega (arith, within, p.counted) in
    record {
      frames = p.frames;
      says = subst (λ (k : Option Verdict). Says k (p.frames, None)) (sym p.says) refl;
      lines = all.lines;
      members = all.members;
      headers = exact is_header p.frames now.headers few all.headers;
      blocks = exact is_data p.frames now.blocks few all.blocks;
      others = exact is_other p.frames now.others few all.others;
    }

-- ---- the verdict on frames and headers

abbrev IsSoundHeading : FrameSpec → Type 0
IsSoundHeading f = heading_fault f ≡ None

front_over : (fs gs : List FrameSpec) (e : Option Fault) → AllByRecursion IsSoundHeading fs → headings_front (fs ++ gs) e ≡ with_all fs (headings_front gs e)
front_over [] gs e sound = refl
front_over (f ∷ fs) gs e sound = ap (λ (o : Option Fault). sound_first o f (headings_front (fs ++ gs) e)) sound.0 ∙ ap (with_frame_first f) (front_over fs gs e sound.1)

headings_gone : (first rest : Option Verdict) (fs : List FrameSpec) → AllByRecursion IsSoundHeading fs → VerdictAfter first fs rest → VerdictAfter (headings_known first) fs (headings_known rest)
headings_gone first rest fs sound gone = ap headings_known gone ∙ of rest where
  of : (rest : Option Verdict) → headings_known (option_map (with_all fs) rest) ≡ option_map (with_all fs) (headings_known rest)
  of None = refl
  of (Some v) = ap (λ (v : Verdict). Some v) (front_over fs v.0 v.1 sound)

-- the fault that comes after the frames that are done
gone_fault : (first : Option Verdict) (frames : List FrameSpec) (known : Option Verdict) (e : Fault) → VerdictAfter first frames (headings_known known) → Says known ([], Some e) → Says first (frames, Some e)
gone_fault first frames known e h4 h5 = grind (arith, append-nil)

-- the fault of the header that is the next frame
gone_heading : (first : Option Verdict) (frames : List FrameSpec) (known rest : Option Verdict) (f : FrameSpec) (e : Fault) → VerdictAfter first frames (headings_known known) → known ≡ with_first_known f rest → heading_fault f ≡ Some e → Says first (frames, Some e)
gone_heading first frames known rest f e gone is fault = subst (λ (k : Option Verdict). Says k (frames, Some e)) (sym (gone ∙ ap (λ (k : Option Verdict). option_map (with_all frames) (headings_known k)) is)) (of rest) where
  of : (rest : Option Verdict) → Says (option_map (with_all frames) (headings_known (with_first_known f rest))) (frames, Some e)
  of None = tt
  of (Some v) = ap (λ (o : Option Fault). with_all frames (sound_first o f (headings_front v.0 v.1))) fault ∙ ap (λ (l : List FrameSpec). (l, Some e)) (append-nil frames)

sound_visited : (before : Summary) (fs : List FrameSpec) (now : Summary) → Visited took before fs now → AllByRecursion IsSoundHeading fs
sound_visited before fs now visited = visited_to took (λ gone v. AllByRecursion IsSoundHeading gone) (λ gone f mid last so_far one. all_append IsSoundHeading gone (f ∷ []) so_far (one.sound, tt)) fs [] before now tt visited

-- a pass over the frames stops
pub stops_summing : (failed : StopRule Summary) (known : Option Verdict) (read : Type 0) (before now : Summary) (stop : Stop) → ((mid : Summary) (f : FrameSpec) (s : Stop) → failed mid f now s → Caused (Only (heading_fault f)) ⊥ ⊥ unchanged s)
    → StopsVisit took failed known read before now stop → Caused (FaultOf (headings_known known)) read ⊥ unchanged stop
stops_summing failed known read before now stop cause (inl s) = of stop s.caused where
  of : (t : Stop) → Caused (λ e. Says s.rest ([], Some e)) read ⊥ unchanged t → Caused (FaultOf (headings_known known)) read ⊥ unchanged t
  of (why.Refused e) says = (s.frames, gone_fault (headings_known known) s.frames s.rest e (headings_gone known s.rest s.frames (sound_visited before s.frames now s.visited) s.gone) says)
  of why.Read failing = failing
  of why.Write failing = absurd failing
  of why.Memory failing = tt
  of (why.Changed n) failing = absurd failing
stops_summing failed known read before now stop cause (inr s) = of stop (cause s.mid s.frame stop s.failing) where
  of : (t : Stop) → Caused (Only (heading_fault s.frame)) ⊥ ⊥ unchanged t → Caused (FaultOf (headings_known known)) read ⊥ unchanged t
  of (why.Refused e) fault =
      let next = with_first_known s.frame s.rest in
      (s.frames, gone_heading (headings_known known) s.frames next s.rest s.frame e (headings_gone known next s.frames (sound_visited before s.frames s.mid s.visited) s.gone) refl fault)
  of why.Read failing = absurd failing
  of why.Write failing = absurd failing
  of why.Memory failing = tt
  of (why.Changed n) failing = absurd failing
