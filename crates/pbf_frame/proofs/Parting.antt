-- The parts of a frame that was read.
use Rattle.std.proofs.Common.{◌≡◌, ℕ, ◌+◌, ◌<◌, ◌≤◌, ◌==◌, nat_lt, nat_le, Bool, true, false, cond, List, [], ◌∷◌, ◌++◌, length, take, drop, Option, Some, None, Result, Ok, Err, refl, sym, ap, ◌∙◌, subst, append_assoc, length-append, take-append-drop, arith}
use Rattle.std.proofs.lemmas.Bool.Decides.{nat_tests}
use Rattle.std.proofs.lemmas.List.{length-take}
use Rattle.byteorder.specs.Endian.{big_number}
use Rattle.pbf_wire.specs.declared.fault.Fault.{Fault}
use Rattle.pbf_wire.specs.declared.fault.Reason.TheVariants.{PrefixCut, HeaderLong, HeaderCut, BlobCut, NoHeader}
use Rattle.pbf_wire.specs.Least.{least}
use Rattle.pbf_frame.specs.declared.frame.FrameKind.{FrameKind}
use Rattle.pbf_frame.specs.declared.frame.FrameKind.TheVariants as kind
use Rattle.pbf_frame.specs.declared.header.Head.{Head}
use Rattle.pbf_frame.specs.declared.header.TheConstants.{HEADER_LIMIT}
use Rattle.pbf_wire.specs.Faults.{fault}
use Rattle.pbf_wire.specs.Occurrence.{◌>>=◌}
use Rattle.pbf_frame.specs.Blob.{blob_fault}
use Rattle.pbf_frame.specs.declared.frame.TheConstants.{FILE_LIMIT}
use Rattle.pbf_frame.specs.Frames.{FrameSpec, frame_bytes, order_faults, next_of}
use Rattle.pbf_frame.specs.Sound.{IsSoundBlob}
use Rattle.pbf_frame.specs.Steps.{unless, head_of, bytes_at, prefix_at, header_after, known_blob_of, blob_of, after_prefix}
use Rattle.pbf_frame.proofs.FrontLemmas.{bytes_at_front}
use Rattle.pbf_frame.proofs.Stepping.{after_header, after_blob, as_some, frame_steps, after_some, after_none}
use Rattle.pbf_frame.proofs.FrameLemmas.{err_ok, unless_ok, next_steps}

-- a step that gave something was on something
pub bind_inverse : {A B : Type 0} (r : Result A Fault) (f : A → Result B Fault) (y : B) → (r >>= f) ≡ Ok y → (x : A) × (r ≡ Ok x) × (f x ≡ Ok y)
bind_inverse (Ok x) f y e = (x, refl, e)
bind_inverse (Err fault) f y e = absurd (err_ok fault y e)

pub ok_parts : {A B : Type 0} (a a' : A) (b b' : B) → ◌≡◌ {A = Result (A × B) Fault} (Ok (a, b)) (Ok (a', b')) → (a ≡ a') × (b ≡ b')
ok_parts {A} {B} a a' b b' e =
    let pair : ◌≡◌ {A = A × B} (a, b) (a', b') = cc in
    (ap (λ p. p.0) pair, ap (λ p. p.1) pair)

pub some_same : {A : Type 0} (a b : A) → Some a ≡ Some b → a ≡ b
some_same a b e = cc

pub none_some : {A : Type 0} (o : Option A) (a : A) → o ≡ None → o ≡ Some a → ⊥
none_some o a e f = cc

pub bytes_split : (cut : Fault) (n : ℕ) (bytes xs ys : List ℕ) → bytes_at cut n bytes ≡ Ok (xs, ys) → (bytes ≡ xs ++ ys) × (length xs ≡ n)
unfolding bytes_at
bytes_split cut n bytes xs ys e = cases (nat_lt (length (take n bytes)) n) refl e where
  cases : (b : Bool) → nat_lt (length (take n bytes)) n ≡ b → cond {A = Result (List ℕ × List ℕ) Fault} b (Err cut) (Ok (take n bytes, drop n bytes)) ≡ Ok (xs, ys) → (bytes ≡ xs ++ ys) × (length xs ≡ n)
  cases true is e = (let bad : ⊥ = cc in absurd bad)
  cases false is e =
      let parts = ok_parts _ _ _ _ e in
      let long : n ≤ length (take n bytes) = grind (arith, nat_tests) in
      let exact : length (take n bytes) ≡ n = omega (arith, long, length-take n bytes) in
      (sym (take-append-drop n bytes) ∙ ap (λ l. l ++ drop n bytes) parts.0 ∙ ap (λ l. xs ++ l) parts.1, subst (λ l. length l ≡ n) parts.0 exact)

abbrev Prefixed : Type 0
Prefixed = Result (Option (List ℕ) × List ℕ) Fault

pub prefix_split : (h : Bool) (p : ℕ) (bytes prefix rest : List ℕ) → prefix_at h p bytes ≡ Ok (Some prefix, rest) → (bytes ≡ prefix ++ rest) × (length prefix ≡ 4) × (big_number 4 prefix < HEADER_LIMIT)
unfolding prefix_at
prefix_split h p bytes prefix rest e = empty (length bytes == 0) e where
  long : (b : Bool) → nat_le HEADER_LIMIT (big_number 4 (take 4 bytes)) ≡ b → nat_lt (length (take 4 bytes)) 4 ≡ false → cond {A = Prefixed} b (Err (fault p HeaderLong)) (Ok (Some (take 4 bytes), drop 4 bytes)) ≡ Ok (Some prefix, rest) → (bytes ≡ prefix ++ rest) × (length prefix ≡ 4) × (big_number 4 prefix < HEADER_LIMIT)
  long true small low e = (let bad : ⊥ = cc in absurd bad)
  long false small low e =
      let parts = ok_parts _ _ _ _ e in
      let front = some_same _ _ parts.0 in
      let wide : 4 ≤ length (take 4 bytes) = grind (arith, low) in
      let exact : length (take 4 bytes) ≡ 4 = omega (arith, wide, length-take 4 bytes) in
      let below : big_number 4 (take 4 bytes) < HEADER_LIMIT = grind (arith, nat_tests, small) in
      (sym (take-append-drop 4 bytes) ∙ ap (λ l. l ++ drop 4 bytes) front ∙ ap (λ l. prefix ++ l) parts.1, subst (λ l. length l ≡ 4) front exact, subst (λ l. big_number 4 l < HEADER_LIMIT) front below)

  short : (b : Bool) → nat_lt (length (take 4 bytes)) 4 ≡ b → cond {A = Prefixed} b (Err (fault p PrefixCut)) (cond {A = Prefixed} (nat_le HEADER_LIMIT (big_number 4 (take 4 bytes))) (Err (fault p HeaderLong)) (Ok (Some (take 4 bytes), drop 4 bytes))) ≡ Ok (Some prefix, rest) → (bytes ≡ prefix ++ rest) × (length prefix ≡ 4) × (big_number 4 prefix < HEADER_LIMIT)
  short true low e = (let bad : ⊥ = cc in absurd bad)
  short false low e = long (nat_le HEADER_LIMIT (big_number 4 (take 4 bytes))) refl low e

  none : (h : Bool) → ◌≡◌ {A = Prefixed} (cond {A = Prefixed} h (Ok (None, [])) (Err (fault p NoHeader))) (Ok (Some prefix, rest)) → ⊥
  none true e = none_some _ _ refl (ok_parts None (Some prefix) [] rest e).0
  none false e = cc

  empty : (b : Bool) → cond {A = Prefixed} b (cond {A = Prefixed} h (Ok (None, [])) (Err (fault p NoHeader))) (cond {A = Prefixed} (nat_lt (length (take 4 bytes)) 4) (Err (fault p PrefixCut)) (cond {A = Prefixed} (nat_le HEADER_LIMIT (big_number 4 (take 4 bytes))) (Err (fault p HeaderLong)) (Ok (Some (take 4 bytes), drop 4 bytes)))) ≡ Ok (Some prefix, rest) → (bytes ≡ prefix ++ rest) × (length prefix ≡ 4) × (big_number 4 prefix < HEADER_LIMIT)
  empty true e = absurd (none h e)
  empty false e = short (nat_lt (length (take 4 bytes)) 4) refl e

-- at the end nothing is left
pub prefix_none : (h : Bool) (p : ℕ) (bytes rest : List ℕ) → prefix_at h p bytes ≡ Ok (None, rest) → (bytes ≡ []) × (rest ≡ []) × (h ≡ true)
unfolding prefix_at
prefix_none h p bytes rest e = ended (length bytes == 0) refl e where
  nil : (l : List ℕ) → length l == 0 ≡ true → l ≡ []
  nil [] e = refl
  nil (x ∷ xs) e = (let zero : length (x ∷ xs) ≡ 0 = grind (arith, e) in absurd (omega (arith, zero)))

  last : (h : Bool) → ◌≡◌ {A = Prefixed} (cond {A = Prefixed} h (Ok (None, [])) (Err (fault p NoHeader))) (Ok (None, rest)) → (rest ≡ []) × (h ≡ true)
  last true e = (sym (ok_parts _ _ _ _ e).1, refl)
  last false e = absurd (err_ok _ _ e)

  never : (a b : Bool) → ◌≡◌ {A = Prefixed} (cond {A = Prefixed} a (Err (fault p PrefixCut)) (cond {A = Prefixed} b (Err (fault p HeaderLong)) (Ok (Some (take 4 bytes), drop 4 bytes)))) (Ok (None, rest)) → ⊥
  never true b e = cc
  never false true e = cc
  never false false e = none_some _ _ refl (sym (ok_parts _ _ _ _ e).0)

  ended : (b : Bool) → length bytes == 0 ≡ b → cond {A = Prefixed} b (cond {A = Prefixed} h (Ok (None, [])) (Err (fault p NoHeader))) (cond {A = Prefixed} (nat_lt (length (take 4 bytes)) 4) (Err (fault p PrefixCut)) (cond {A = Prefixed} (nat_le HEADER_LIMIT (big_number 4 (take 4 bytes))) (Err (fault p HeaderLong)) (Ok (Some (take 4 bytes), drop 4 bytes)))) ≡ Ok (None, rest) → (bytes ≡ []) × (rest ≡ []) × (h ≡ true)
  ended true is e = (let closed = last h e in (nil bytes is, closed.0, closed.1))
  ended false is e = absurd (never (nat_lt (length (take 4 bytes)) 4) (nat_le HEADER_LIMIT (big_number 4 (take 4 bytes))) e)

-- ---- the header

abbrev Headed : Type 0
Headed = Result ((List ℕ × Head) × List ℕ) Fault

abbrev after_head : Bool → ℕ → List ℕ × List ℕ → Head → Headed
after_head h p header head = unless (least (order_faults (Some FILE_LIMIT) h p head.kind (p + 4 + length header.0 + head.size))) (Ok ((header.0, head), header.1))

abbrev after_bytes : Bool → ℕ → List ℕ × List ℕ → Headed
after_bytes h p header = head_of (p + 4) header.0 >>= after_head h p header

-- what holds if a header was read
pub record HeaderParts (h : Bool) (p : ℕ) (prefix bytes header rest : List ℕ) (head : Head) : Type 0 where
  pub split : bytes ≡ header ++ rest
  pub long : length header ≡ big_number 4 prefix
  pub says : head_of (p + 4) header ≡ Ok head
  pub ordered : least (order_faults (Some FILE_LIMIT) h p head.kind (p + 4 + length header + head.size)) ≡ None

pub header_parts : (h : Bool) (p : ℕ) (prefix bytes header rest : List ℕ) (head : Head) → header_after h p prefix bytes ≡ Ok ((header, head), rest) → HeaderParts h p prefix bytes header rest head
unfolding header_after
header_parts h p prefix bytes header rest head e =
    let (front, is_front, e1) = bind_inverse (bytes_at (fault p HeaderCut) (big_number 4 prefix) bytes) (after_bytes h p) _ e in
    let (said, is_said, e2) = bind_inverse (head_of (p + 4) front.0) (after_head h p front) _ e1 in
    let (ordered, e3) = unless_ok (least (order_faults (Some FILE_LIMIT) h p said.kind (p + 4 + length front.0 + said.size))) (Ok ((front.0, said), front.1)) _ e2 in
    let parts = ok_parts (front.0, said) (header, head) front.1 rest e3 in
    let same : front.0 ≡ header = ap (λ (x : List ℕ × Head). x.0) parts.0 in
    let same_head : said ≡ head = ap (λ (x : List ℕ × Head). x.1) parts.0 in
    let split = bytes_split (fault p HeaderCut) (big_number 4 prefix) bytes front.0 front.1 is_front in
    record {
      split = split.0 ∙ ap (λ l. l ++ front.1) same ∙ ap (λ l. header ++ l) parts.1;
      long = ap length (sym same) ∙ split.1;
      says = ap (λ l. head_of (p + 4) l) (sym same) ∙ is_said ∙ ap Ok same_head;
      ordered = subst (λ (x : List ℕ × Head). least (order_faults (Some FILE_LIMIT) h p x.1.kind (p + 4 + length x.0 + x.1.size)) ≡ None) parts.0 ordered;
    }

pub header_whole : (h : Bool) (p : ℕ) (prefix bytes header rest : List ℕ) (head : Head) → HeaderParts h p prefix bytes header rest head → header_after h p prefix bytes ≡ Ok ((header, head), rest)
unfolding header_after
header_whole h p prefix bytes header rest head parts = grind (arith, bytes_at_front)

-- ---- the blob

abbrev Blobbed : Type 0
Blobbed = Result (List ℕ × List ℕ) Fault

abbrev after_blob_bytes : ℕ → List ℕ × List ℕ → Blobbed
after_blob_bytes at blob = unless (blob_fault at blob.0) (Ok blob)

-- what holds if a blob was read
pub record BlobParts (k : FrameKind) (size at : ℕ) (bytes blob rest : List ℕ) : Type 0 where
  pub split : bytes ≡ blob ++ rest
  pub long : length blob ≡ size
  pub sound : IsSoundBlob k at blob

known_parts : (size at : ℕ) (bytes blob rest : List ℕ) → known_blob_of size at bytes ≡ Ok (blob, rest) → (bytes ≡ blob ++ rest) × (length blob ≡ size) × (blob_fault at blob ≡ None)
unfolding known_blob_of
known_parts size at bytes blob rest e =
    let (front, is_front, e1) = bind_inverse (bytes_at (fault at BlobCut) size bytes) (after_blob_bytes at) _ e in
    let (sound, e2) = unless_ok (blob_fault at front.0) (Ok front) _ e1 in
    let same : ◌≡◌ {A = List ℕ × List ℕ} front (blob, rest) = cc in
    let split = bytes_split (fault at BlobCut) size bytes front.0 front.1 is_front in
    (split.0 ∙ ap (λ (x : List ℕ × List ℕ). x.0 ++ x.1) same, ap (λ (x : List ℕ × List ℕ). length x.0) (sym same) ∙ split.1, ap (λ (x : List ℕ × List ℕ). blob_fault at x.0) (sym same) ∙ sound)

pub blob_parts : (k : FrameKind) (size at : ℕ) (bytes blob rest : List ℕ) → blob_of k size at bytes ≡ Ok (blob, rest) → BlobParts k size at bytes blob rest
blob_parts kind.Other size at bytes blob rest e = (let parts = bytes_split (fault at BlobCut) size bytes blob rest e in record { split = parts.0; long = parts.1; sound = tt })
blob_parts k size at bytes blob rest e = (let parts = known_parts size at bytes blob rest e in record { split = parts.0; long = parts.1; sound = parts.2 })

-- ---- the frame

-- what holds if a frame was read
pub record FrameParts (h : Bool) (p : ℕ) (bytes : List ℕ) (f : FrameSpec) (rest : List ℕ) : Type 0 where
  pub head : Head
  pub left : List ℕ
  pub last : List ℕ
  pub offset : f.offset ≡ p
  pub split : bytes ≡ f.prefix ++ left
  pub prefix_long : length f.prefix ≡ 4
  pub small : big_number 4 f.prefix < HEADER_LIMIT
  pub header_is : HeaderParts h p f.prefix left f.header last head
  pub blob_is : BlobParts head.kind head.size (p + 4 + length f.header) last f.blob rest

frame_parts_of : (h : Bool) (p : ℕ) (bytes prefix left : List ℕ) (f : FrameSpec) (rest : List ℕ) → (bytes ≡ prefix ++ left) × (length prefix ≡ 4) × (big_number 4 prefix < HEADER_LIMIT) → (header_after h p prefix left >>= after_header p prefix) ≡ Ok (f, rest) → FrameParts h p bytes f rest
frame_parts_of h p bytes prefix left f rest is_prefix e =
    let (front, is_front, e1) = bind_inverse (header_after h p prefix left) (after_header p prefix) _ e in
    let (blob, is_blob, e2) = bind_inverse (blob_of front.0.1.kind front.0.1.size (p + 4 + length front.0.0) front.1) (after_blob p prefix front) _ e1 in
    let whole : FrameSpec = record { offset = p; prefix = prefix; header = front.0.0; blob = blob.0 } in
    let parts = ok_parts whole f blob.1 rest e2 in
    let built : FrameParts h p bytes whole blob.1 = record {
      head = front.0.1;
      left = left;
      last = front.1;
      offset = refl;
      split = is_prefix.0;
      prefix_long = is_prefix.1;
      small = is_prefix.2;
      header_is = header_parts h p prefix left front.0.0 front.1 front.0.1 is_front;
      blob_is = blob_parts front.0.1.kind front.0.1.size (p + 4 + length front.0.0) front.1 blob.0 blob.1 is_blob;
    } in
    subst (λ (r : List ℕ). FrameParts h p bytes f r) parts.1 (subst (λ (g : FrameSpec). FrameParts h p bytes g blob.1) parts.0 built)

pub next_parts : (h : Bool) (p : ℕ) (bytes : List ℕ) (f : FrameSpec) (rest : List ℕ) → next_of h p bytes ≡ Ok (Some f, rest) → FrameParts h p bytes f rest
next_parts h p bytes f rest e = (let (x, is, e1) = bind_inverse (prefix_at h p bytes) (after_prefix h p) _ (sym (next_steps h p bytes) ∙ e) in after x is e1) where
  after : (x : Option (List ℕ) × List ℕ) → prefix_at h p bytes ≡ Ok x → after_prefix h p x ≡ Ok (Some f, rest) → FrameParts h p bytes f rest
  after (None, b) is e = absurd (none_some None f refl (ok_parts None (Some f) b rest (sym (after_none h p b) ∙ e)).0)
  after (Some prefix, b) is e =
      let (read, is_read, e1) = bind_inverse (header_after h p prefix b >>= after_header p prefix) as_some (Some f, rest) (ap (λ r. r >>= as_some) (sym (frame_steps h p prefix b)) ∙ sym (after_some h p prefix b) ∙ e) in
      let parts = ok_parts (Some read.0) (Some f) read.1 rest e1 in
      let same : read.0 ≡ f = some_same _ _ parts.0 in
      let built = frame_parts_of h p bytes prefix b read.0 read.1 (prefix_split h p bytes prefix b is) is_read in
      subst (λ (r : List ℕ). FrameParts h p bytes f r) parts.1 (subst (λ (g : FrameSpec). FrameParts h p bytes g read.1) same built)

-- a frame given spells the bytes that are gone, of which there are some
pub next_split : (h : Bool) (p : ℕ) (bytes : List ℕ) (f : FrameSpec) (rest : List ℕ) → next_of h p bytes ≡ Ok (Some f, rest) → (bytes ≡ frame_bytes f ++ rest) × (4 ≤ length (frame_bytes f))
next_split h p bytes f rest e =
    let parts = next_parts h p bytes f rest e in (
      parts.split ∙ ap (λ l. f.prefix ++ l) (parts.header_is.split ∙ ap (λ l. f.header ++ l) parts.blob_is.split) ∙ regroup f.prefix f.header f.blob rest,
      omega (arith, parts.prefix_long, length-append (f.prefix ++ f.header) f.blob, length-append f.prefix f.header),
    ) where
      regroup : (a b c d : List ℕ) → a ++ (b ++ (c ++ d)) ≡ ((a ++ b) ++ c) ++ d
      regroup a b c d = sym (append_assoc a b (c ++ d)) ∙ sym (append_assoc (a ++ b) c d)

-- at the end nothing is left
pub next_none : (h : Bool) (p : ℕ) (bytes rest : List ℕ) → next_of h p bytes ≡ Ok (None, rest) → (bytes ≡ []) × (rest ≡ [])
next_none h p bytes rest e = (let (x, is, e1) = bind_inverse (prefix_at h p bytes) (after_prefix h p) _ (sym (next_steps h p bytes) ∙ e) in after x is e1) where
  after : (x : Option (List ℕ) × List ℕ) → prefix_at h p bytes ≡ Ok x → after_prefix h p x ≡ Ok (None, rest) → (bytes ≡ []) × (rest ≡ [])
  after (None, b) is e =
      let same : b ≡ rest = (ok_parts _ _ _ _ (sym (after_none h p b) ∙ e)).1 in
      let nothing = prefix_none h p bytes b is in
      (nothing.0, sym same ∙ nothing.1)
  after (Some prefix, b) is e = absurd (some (header_after h p prefix b >>= after_header p prefix) (ap (λ r. r >>= as_some) (sym (frame_steps h p prefix b)) ∙ sym (after_some h p prefix b) ∙ e)) where
    some : (r : Result (FrameSpec × List ℕ) Fault) → ◌>>=◌ {A = FrameSpec × List ℕ} {B = Option FrameSpec × List ℕ} r as_some ≡ Ok (None, rest) → ⊥
    some (Ok read) e = none_some _ _ refl (sym (ok_parts (Some read.0) None read.1 rest e).0)
    some (Err stop) e = cc
