-- A fault that doesn't come of the end of the bytes stays, whatever follows them.
use Rattle.std.proofs.Common.{◌≡◌, ◌⊎◌, inl, inr, ℕ, ◌+◌, ◌≤◌, ◌==◌, nat_lt, nat_le, Bool, true, false, cond, ◌||◌, List, [], ◌∷◌, ◌++◌, length, take, drop, Option, Some, None, Result, Ok, Err, refl, sym, ap, ◌∙◌, append_assoc, take-append-drop, arith}
use Rattle.std.proofs.lemmas.Bool.Decides.{nat_tests}
use Rattle.std.proofs.lemmas.List.{length-take}
use Rattle.std.proofs.lemmas.Bool.{both_ways}
use Rattle.byteorder.specs.Endian.{big_number}
use Rattle.pbf_wire.specs.declared.fault.Fault.{Fault}
use Rattle.pbf_wire.specs.declared.fault.Reason.TheVariants.{PrefixCut, HeaderLong, HeaderCut, BlobCut, NoHeader}
use Rattle.pbf_wire.specs.Faults.{fault}
use Rattle.pbf_wire.specs.Least.{least}
use Rattle.pbf_wire.specs.Occurrence.{◌>>=◌}
use Rattle.pbf_frame.specs.declared.frame.FrameKind.{FrameKind}
use Rattle.pbf_frame.specs.declared.header.Head.{Head}
use Rattle.pbf_frame.specs.declared.header.TheConstants.{HEADER_LIMIT}
use Rattle.pbf_frame.specs.Blob.{blob_fault}
use Rattle.pbf_frame.specs.Ends.{comes_of_end}
use Rattle.pbf_frame.specs.Frames.{FrameSpec, is_header, frame_kind, frame_end, frame_bytes, order_faults, next_of}
use Rattle.pbf_frame.specs.declared.frame.TheConstants.{FILE_LIMIT}
use Rattle.pbf_frame.specs.Verdict.{Verdict, with_frame_first, with_all, judged_after, judged}
use Rattle.pbf_frame.specs.Steps.{unless, head_of, bytes_at, prefix_at, header_after, known_blob_of, blob_of, after_prefix}
use Rattle.pbf_frame.proofs.FrontLemmas.{bytes_at_front}
use Rattle.pbf_frame.proofs.FrameLemmas.{err_ok, next_steps, prefix_refused, header_refused, blob_refused, blob_some}
use Rattle.pbf_frame.proofs.Judging.{judged_step, judged_some}
use Rattle.pbf_frame.proofs.Longest.{prefix_whole, next_is_frame, frame_is_next}
use Rattle.pbf_frame.proofs.Parting.{HeaderParts, bytes_split, prefix_split, header_parts, header_whole, next_split, some_same, none_some}
use Rattle.pbf_frame.proofs.Refusing.{prefix_large}
use Rattle.pbf_frame.proofs.Stepping.{after_none}

abbrev Prefixed : Type 0
Prefixed = Result (Option (List ℕ) × List ℕ) Fault

abbrev Blobbed : Type 0
Blobbed = Result (List ℕ × List ℕ) Fault

abbrev Headed : Type 0
Headed = Result ((List ℕ × Head) × List ℕ) Fault

err_same : {A : Type 0} (a b : Fault) → ◌≡◌ {A = Result A Fault} (Err a) (Err b) → a ≡ b
err_same a b e = cc

-- a fault of the end isn't this one
other_fault : (x e : Fault) → comes_of_end x.reason ≡ true → comes_of_end e.reason ≡ false → x ≡ e → ⊥
other_fault x e ends stays same = both_ways (comes_of_end e.reason) stays (ap (λ (f : Fault). comes_of_end f.reason) (sym same) ∙ ends)

-- ---- the bytes before a header

-- a refused prefix is missing, cut or too large
abbrev IsLarge : List ℕ → Type 0
IsLarge bytes = (length (take 4 bytes) ≡ 4) × (HEADER_LIMIT ≤ big_number 4 (take 4 bytes))

prefix_fault : (h : Bool) (p : ℕ) (bytes : List ℕ) (e : Fault) → prefix_at h p bytes ≡ Err e → (comes_of_end e.reason ≡ true) ⊎ ((e ≡ fault p HeaderLong) × IsLarge bytes)
unfolding prefix_at
prefix_fault h p bytes e is = empty (length bytes == 0) is where
  large : (b : Bool) → nat_le HEADER_LIMIT (big_number 4 (take 4 bytes)) ≡ b → nat_lt (length (take 4 bytes)) 4 ≡ false → cond {A = Prefixed} b (Err (fault p HeaderLong)) (Ok (Some (take 4 bytes), drop 4 bytes)) ≡ Err e → (comes_of_end e.reason ≡ true) ⊎ ((e ≡ fault p HeaderLong) × IsLarge bytes)
  large true big low is =
      let wide : 4 ≤ length (take 4 bytes) = grind (arith, low) in
      let exact : length (take 4 bytes) ≡ 4 = omega (arith, wide, length-take 4 bytes) in
      let above : HEADER_LIMIT ≤ big_number 4 (take 4 bytes) = grind (arith, nat_tests, big) in
      inr (sym (err_same _ _ is), (exact, above))
  large false big low is = absurd (err_ok e _ (sym is))

  short : (b : Bool) → nat_lt (length (take 4 bytes)) 4 ≡ b → cond {A = Prefixed} b (Err (fault p PrefixCut)) (cond {A = Prefixed} (nat_le HEADER_LIMIT (big_number 4 (take 4 bytes))) (Err (fault p HeaderLong)) (Ok (Some (take 4 bytes), drop 4 bytes))) ≡ Err e → (comes_of_end e.reason ≡ true) ⊎ ((e ≡ fault p HeaderLong) × IsLarge bytes)
  short true low is = inl (ap (λ (f : Fault). comes_of_end f.reason) (sym (err_same _ _ is)))
  short false low is = large (nat_le HEADER_LIMIT (big_number 4 (take 4 bytes))) refl low is

  none : (h : Bool) → ◌≡◌ {A = Prefixed} (cond {A = Prefixed} h (Ok (None, [])) (Err (fault p NoHeader))) (Err e) → comes_of_end e.reason ≡ true
  none true is = absurd (err_ok e _ (sym is))
  none false is = ap (λ (f : Fault). comes_of_end f.reason) (sym (err_same _ _ is))

  empty : (b : Bool) → cond {A = Prefixed} b (cond {A = Prefixed} h (Ok (None, [])) (Err (fault p NoHeader))) (cond {A = Prefixed} (nat_lt (length (take 4 bytes)) 4) (Err (fault p PrefixCut)) (cond {A = Prefixed} (nat_le HEADER_LIMIT (big_number 4 (take 4 bytes))) (Err (fault p HeaderLong)) (Ok (Some (take 4 bytes), drop 4 bytes)))) ≡ Err e → (comes_of_end e.reason ≡ true) ⊎ ((e ≡ fault p HeaderLong) × IsLarge bytes)
  empty true is = inl (none h is)
  empty false is = short (nat_lt (length (take 4 bytes)) 4) refl is

prefix_stays : (h : Bool) (p : ℕ) (bytes rest : List ℕ) (e : Fault) → prefix_at h p bytes ≡ Err e → comes_of_end e.reason ≡ false → prefix_at h p (bytes ++ rest) ≡ Err e
prefix_stays h p bytes rest e is stays = of (prefix_fault h p bytes e is) where
  of : (comes_of_end e.reason ≡ true) ⊎ ((e ≡ fault p HeaderLong) × IsLarge bytes) → prefix_at h p (bytes ++ rest) ≡ Err e
  of (inl ends) = absurd (both_ways _ stays ends)
  of (inr (same, (long, large))) =
      ap (λ (l : List ℕ). prefix_at h p (l ++ rest)) (sym (take-append-drop 4 bytes))
      ∙ ap (prefix_at h p) (append_assoc (take 4 bytes) (drop 4 bytes) rest)
      ∙ prefix_large h p (take 4 bytes) (drop 4 bytes ++ rest) long large
      ∙ ap (λ (f : Fault). Err f) (sym same)

-- ---- bytes of a number

bytes_cut : (cut : Fault) (n : ℕ) (bytes : List ℕ) (e : Fault) → bytes_at cut n bytes ≡ Err e → cut ≡ e
unfolding bytes_at
bytes_cut cut n bytes e is = grind (arith, err_same, err_ok)

-- ---- a header

unless_stays : {A : Type 0} (o : Option Fault) (x y : A) (e : Fault) → unless o (Ok x) ≡ Err e → unless o (Ok y) ≡ Err e
unless_stays o x y e is = grind (arith, err_ok, err_same)

module _ (h : Bool) (p : ℕ) (prefix : List ℕ) where
  abbrev after_head : List ℕ × List ℕ → Head → Headed
  after_head header head = unless (least (order_faults (Some FILE_LIMIT) h p head.kind (p + 4 + length header.0 + head.size))) (Ok ((header.0, head), header.1))

  abbrev after_bytes : List ℕ × List ℕ → Headed
  after_bytes header = head_of (p + 4) header.0 >>= after_head header

  header_at_front : (header left : List ℕ) → length header ≡ big_number 4 prefix → header_after h p prefix (header ++ left) ≡ after_bytes (header, left)
  unfolding header_after
  header_at_front header left long = ap (λ (r : Blobbed). r >>= after_bytes) (bytes_at_front (fault p HeaderCut) (big_number 4 prefix) header left long)

  header_fault : (bytes : List ℕ) (e : Fault) → header_after h p prefix bytes ≡ Err e → comes_of_end e.reason ≡ false → (header : List ℕ) × (left : List ℕ) × (bytes ≡ header ++ left) × (length header ≡ big_number 4 prefix)
  unfolding header_after
  header_fault bytes e is stays = cases (bytes_at (fault p HeaderCut) (big_number 4 prefix) bytes) refl is where
    cases : (r : Blobbed) → bytes_at (fault p HeaderCut) (big_number 4 prefix) bytes ≡ r → (r >>= after_bytes) ≡ Err e → (header : List ℕ) × (left : List ℕ) × (bytes ≡ header ++ left) × (length header ≡ big_number 4 prefix)
    cases (Err x) at is = absurd (other_fault (fault p HeaderCut) e refl stays (bytes_cut (fault p HeaderCut) (big_number 4 prefix) bytes x at ∙ err_same _ _ is))
    cases (Ok (header, left)) at is = (let split = bytes_split (fault p HeaderCut) (big_number 4 prefix) bytes header left at in (header, left, split.0, split.1))

  header_stays : (bytes rest : List ℕ) (e : Fault) → header_after h p prefix bytes ≡ Err e → comes_of_end e.reason ≡ false → header_after h p prefix (bytes ++ rest) ≡ Err e
  header_stays bytes rest e is stays =
      let (header, left, split, long) = header_fault bytes e is stays in
      let said : after_bytes (header, left) ≡ Err e = sym (header_at_front header left long) ∙ ap (header_after h p prefix) (sym split) ∙ is in
      ap (λ (l : List ℕ). header_after h p prefix (l ++ rest)) split ∙ ap (header_after h p prefix) (append_assoc header left rest) ∙ header_at_front header (left ++ rest) long
      ∙ same header left (head_of (p + 4) header) said where
        same : (header left : List ℕ) (r : Result Head Fault) → (r >>= after_head (header, left)) ≡ Err e → (r >>= after_head (header, left ++ rest)) ≡ Err e
        same header left (Err x) is = is
        same header left (Ok head) is = unless_stays (least (order_faults (Some FILE_LIMIT) h p head.kind (p + 4 + length header + head.size))) _ _ e is

-- ---- a blob

known_at_front : (size at : ℕ) (blob left : List ℕ) → length blob ≡ size → known_blob_of size at (blob ++ left) ≡ unless (blob_fault at blob) (Ok (blob, left))
unfolding known_blob_of
known_at_front size at blob left long = ap (λ (r : Blobbed). r >>= (λ (b : List ℕ × List ℕ). unless (blob_fault at b.0) (Ok b))) (bytes_at_front (fault at BlobCut) size blob left long)

known_fault : (size at : ℕ) (bytes : List ℕ) (e : Fault) → known_blob_of size at bytes ≡ Err e → comes_of_end e.reason ≡ false → (blob : List ℕ) × (left : List ℕ) × (bytes ≡ blob ++ left) × (length blob ≡ size)
unfolding known_blob_of
known_fault size at bytes e is stays = cases (bytes_at (fault at BlobCut) size bytes) refl is where
  cases : (r : Blobbed) → bytes_at (fault at BlobCut) size bytes ≡ r → (r >>= (λ (b : List ℕ × List ℕ). unless (blob_fault at b.0) (Ok b))) ≡ Err e → (blob : List ℕ) × (left : List ℕ) × (bytes ≡ blob ++ left) × (length blob ≡ size)
  cases (Err x) is_at is = absurd (other_fault (fault at BlobCut) e refl stays (bytes_cut (fault at BlobCut) size bytes x is_at ∙ err_same _ _ is))
  cases (Ok (blob, left)) is_at is = (let split = bytes_split (fault at BlobCut) size bytes blob left is_at in (blob, left, split.0, split.1))

known_stays : (size at : ℕ) (bytes rest : List ℕ) (e : Fault) → known_blob_of size at bytes ≡ Err e → comes_of_end e.reason ≡ false → known_blob_of size at (bytes ++ rest) ≡ Err e
known_stays size at bytes rest e is stays = grind (arith, known_fault, known_at_front, append_assoc, unless_stays)

blob_stays : (k : FrameKind) (size at : ℕ) (bytes rest : List ℕ) (e : Fault) → blob_of k size at bytes ≡ Err e → comes_of_end e.reason ≡ false → blob_of k size at (bytes ++ rest) ≡ Err e
blob_stays k size at bytes rest e is stays = grind (arith, other_fault, bytes_cut, known_stays)

-- ---- the next frame

module _ (h : Bool) (p : ℕ) (bytes rest : List ℕ) (e : Fault) (is : next_of h p bytes ≡ Err e) (stays : comes_of_end e.reason ≡ false) where
  -- the fault of a step is the frame's
  same_fault : (x : Fault) → next_of h p bytes ≡ Err x → x ≡ e
  same_fault x at = err_same _ _ (sym at ∙ is)

  never_ok : (x : Option FrameSpec × List ℕ) → next_of h p bytes ≡ Ok x → ⊥
  never_ok x at = err_ok e x (sym is ∙ at)

  module _ (prefix left : List ℕ) (is_prefix : prefix_at h p bytes ≡ Ok (Some prefix, left)) where
    longer : prefix_at h p (bytes ++ rest) ≡ Ok (Some prefix, left ++ rest)
    longer =
        let parts = prefix_split h p bytes prefix left is_prefix in
        ap (λ (l : List ℕ). prefix_at h p (l ++ rest)) parts.0 ∙ ap (prefix_at h p) (append_assoc prefix left rest) ∙ prefix_whole h p prefix (left ++ rest) parts.1 parts.2

    at_header : (x : Fault) → header_after h p prefix left ≡ Err x → next_of h p (bytes ++ rest) ≡ Err e
    at_header x at =
        let same = same_fault x (header_refused h p bytes prefix left x is_prefix at) in
        header_refused h p (bytes ++ rest) prefix (left ++ rest) e longer (header_stays h p prefix left rest e (at ∙ ap (λ (f : Fault). Err f) same) stays)

    at_blob : (header last : List ℕ) (head : Head) → header_after h p prefix left ≡ Ok ((header, head), last) → next_of h p (bytes ++ rest) ≡ Err e
    at_blob header last head at = of (blob_of head.kind head.size (p + 4 + length header) last) refl where
      parts : HeaderParts h p prefix left header last head
      parts = header_parts h p prefix left header last head at

      more : HeaderParts h p prefix (left ++ rest) header (last ++ rest) head
      more = record { split = ap (λ (l : List ℕ). l ++ rest) parts.split ∙ append_assoc header last rest; long = parts.long; says = parts.says; ordered = parts.ordered }

      of : (r : Blobbed) → blob_of head.kind head.size (p + 4 + length header) last ≡ r → next_of h p (bytes ++ rest) ≡ Err e
      of (Err x) lastly =
          let same = same_fault x (blob_refused h p bytes prefix left header last head x is_prefix at lastly) in
          blob_refused h p (bytes ++ rest) prefix (left ++ rest) header (last ++ rest) head e longer (header_whole h p prefix (left ++ rest) header (last ++ rest) head more)
          (blob_stays head.kind head.size (p + 4 + length header) last rest e (lastly ∙ ap (λ (f : Fault). Err f) same) stays)
      of (Ok (blob, end)) lastly = absurd (never_ok _ (blob_some h p bytes prefix left header last blob end head is_prefix at lastly))

    after_it : (r : Headed) → header_after h p prefix left ≡ r → next_of h p (bytes ++ rest) ≡ Err e
    after_it (Err x) at = at_header x at
    after_it (Ok ((header, head), last)) at = at_blob header last head at

  next_from : (r : Prefixed) → prefix_at h p bytes ≡ r → next_of h p (bytes ++ rest) ≡ Err e
  next_from (Err x) at =
      let same = same_fault x (prefix_refused h p bytes x at) in
      prefix_refused h p (bytes ++ rest) e (prefix_stays h p bytes rest e (at ∙ ap (λ (f : Fault). Err f) same) stays)
  next_from (Ok (None, left)) at = absurd (never_ok _ (next_steps h p bytes ∙ ap (λ (r : Prefixed). r >>= after_prefix h p) at ∙ after_none h p left))
  next_from (Ok (Some prefix, left)) at = after_it prefix left at (header_after h p prefix left) refl

  pub next_stays : next_of h p (bytes ++ rest) ≡ Err e
  next_stays = next_from (prefix_at h p bytes) refl

-- ---- the verdict

-- the frames of bytes that are longer: the same and then others; and after a fault that stays, no others
pub record StaysSo (frames : List FrameSpec) (ending : Option Fault) (longer : Verdict) : Type 0 where
  pub later : Verdict
  pub is : longer ≡ with_all frames later
  pub fault : (e : Fault) → ending ≡ Some e → comes_of_end e.reason ≡ false → later ≡ ([], Some e)

parts_same : (v w : Verdict) → v ≡ w → (v.0 ≡ w.0) × (v.1 ≡ w.1)
parts_same v w e = (ap (λ (x : Verdict). x.0) e, ap (λ (x : Verdict). x.1) e)

tail_same : (f g : FrameSpec) (fs gs : List FrameSpec) → f ∷ fs ≡ g ∷ gs → (f ≡ g) × (fs ≡ gs)
tail_same f g fs gs e = (cc, cc)

none_more : (f : FrameSpec) (fs : List FrameSpec) → f ∷ fs ≡ [] → ⊥
none_more f fs e = cc

pair_same : (v : Verdict) (fs : List FrameSpec) (o : Option Fault) → fs ≡ v.0 → o ≡ v.1 → v ≡ (fs, o)
pair_same v fs o e e2 = ap (λ (l : List FrameSpec). let w : Verdict = (l, v.1) in w) (sym e) ∙ ap (λ (x : Option Fault). let w : Verdict = (fs, x) in w) (sym e2)

abbrev Next : Type 0
Next = Result (Option FrameSpec × List ℕ) Fault

longer_none : (ending : Option Fault) (h : Bool) (p : ℕ) (bytes rest : List ℕ) → judged h p bytes ≡ ([], ending) → StaysSo [] ending (judged h p (bytes ++ rest))
longer_none ending h p bytes rest says = of (next_of h p bytes) refl where
  of : (r : Next) → next_of h p bytes ≡ r → StaysSo [] ending (judged h p (bytes ++ rest))
  of (Err x) is =
      let now : judged h p bytes ≡ ([], Some x) = judged_step h p bytes ∙ ap (judged_after judged h) is in
      let same : ending ≡ Some x = (parts_same ([], ending) ([], Some x) (sym says ∙ now)).1 in
      record {
        later = judged h p (bytes ++ rest);
        is = refl;
        fault = λ e also stays.
            let x_is : x ≡ e = some_same _ _ (sym same ∙ also) in
            judged_step h p (bytes ++ rest) ∙ ap (judged_after judged h) (next_stays h p bytes rest e (is ∙ ap (λ (f : Fault). Err f) x_is) stays);
      }
  of (Ok (None, left)) is =
      let now : judged h p bytes ≡ ([], None) = judged_step h p bytes ∙ ap (judged_after judged h) is in
      let same : ending ≡ None = (parts_same ([], ending) ([], None) (sym says ∙ now)).1 in
      record { later = judged h p (bytes ++ rest); is = refl; fault = λ e also stays. absurd (none_some ending e same also) }
  of (Ok (Some f, left)) is =
      let v = judged (h || is_header (frame_kind f)) (frame_end f) left in
      absurd (none_more f v.0 (parts_same (with_frame_first f v) ([], ending) (sym (judged_some h p bytes f left is) ∙ says)).0)

longer_more : (f : FrameSpec) (fs : List FrameSpec) (ending : Option Fault) (h : Bool) (p : ℕ) (bytes rest : List ℕ) → judged h p bytes ≡ (f ∷ fs, ending) → ((h' : Bool) (p' : ℕ) (left : List ℕ) → judged h' p' left ≡ (fs, ending) → StaysSo fs ending (judged h' p' (left ++ rest))) → StaysSo (f ∷ fs) ending (judged h p (bytes ++ rest))
longer_more f fs ending h p bytes rest says later = of (next_of h p bytes) refl where
  of : (r : Next) → next_of h p bytes ≡ r → StaysSo (f ∷ fs) ending (judged h p (bytes ++ rest))
  of (Err x) is = absurd (none_more f fs (parts_same (f ∷ fs, ending) ([], Some x) (sym says ∙ judged_step h p bytes ∙ ap (judged_after judged h) is)).0)
  of (Ok (None, left)) is = absurd (none_more f fs (parts_same (f ∷ fs, ending) ([], None) (sym says ∙ judged_step h p bytes ∙ ap (judged_after judged h) is)).0)
  of (Ok (Some g, left)) is =
      let h2 = h || is_header (frame_kind g) in
      let v = judged h2 (frame_end g) left in
      let both = parts_same (f ∷ fs, ending) (with_frame_first g v) (sym says ∙ judged_some h p bytes g left is) in
      let tails = tail_same f g fs v.0 both.0 in
      let then = later h2 (frame_end g) left (pair_same v fs ending tails.1 both.1) in
      let next : next_of h p (bytes ++ rest) ≡ Ok (Some g, left ++ rest) =
      ap (λ (l : List ℕ). next_of h p (l ++ rest)) (next_split h p bytes g left is).0 ∙ ap (next_of h p) (append_assoc (frame_bytes g) left rest) ∙ frame_is_next h p g (left ++ rest) (next_is_frame h p bytes g left is) in
      record {
        later = then.later;
        is = judged_some h p (bytes ++ rest) g (left ++ rest) next ∙ ap (with_frame_first g) then.is ∙ ap (λ (k : FrameSpec). let w : Verdict = (k ∷ (fs ++ then.later.0), then.later.1) in w) (sym tails.0);
        fault = then.fault;
      }

pub judged_longer : (frames : List FrameSpec) (ending : Option Fault) (h : Bool) (p : ℕ) (bytes rest : List ℕ) → judged h p bytes ≡ (frames, ending) → StaysSo frames ending (judged h p (bytes ++ rest))
judged_longer [] ending h p bytes rest says = longer_none ending h p bytes rest says
judged_longer (f ∷ fs) ending h p bytes rest says = longer_more f fs ending h p bytes rest says (λ h' p' left is. judged_longer fs ending h' p' left rest is)
