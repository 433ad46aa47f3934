-- The bytes of a raw frame that is taken bit by bit are those of a frame of the file, or none of one.
use Rattle.std.proofs.Common.{◌≡◌, ℕ, zero, suc, ◌+◌, ◌<◌, ◌≤◌, List, [], ◌∷◌, ◌++◌, length, take, drop, Bool, false, Option, None, Result, Ok, Err, refl, sym, ap, subst, ◌∙◌, append_assoc, length-append, arith}
use Rattle.std.specs.Prelude.{is_none}
use Rattle.std.specs.Option.{option_map}
use Rattle.std.proofs.lemmas.List.{append-nil, append_cancel_left, take-append-le, take_at, drop_at}
use Rattle.byteorder.specs.Endian.{big_number}
use Rattle.pbf_wire.specs.declared.fault.Fault.{Fault}
use Rattle.pbf_wire.specs.Occurrence.{Occurrence, items, items_past, found, without_places}
use Rattle.pbf_wire.specs.Reading.{last_of}
use Rattle.pbf_wire.proofs.PlaceLemmas.{last_moved}
use Rattle.pbf_wire.proofs.SoundLemmas.{both_none, no_least}
use Rattle.pbf_frame.specs.declared.blob.TheConstants.{RAW}
use Rattle.pbf_frame.specs.declared.frame.FrameKind.TheVariants as kind
use Rattle.pbf_frame.specs.Blob.{blob_fault}
use Rattle.pbf_frame.proofs.BlobLemmas.{blob_steps}
use Rattle.pbf_frame.specs.declared.frame.FrameKind.{FrameKind}
use Rattle.pbf_frame.specs.declared.header.Head.{Head}
use Rattle.pbf_frame.specs.Frames.{FrameSpec, blob_at, frame_bytes, frame_kind, header_at}
use Rattle.pbf_frame.specs.Header.{header_faults}
use Rattle.pbf_frame.specs.Sound.{IsFrame, IsSoundBlob}
use Rattle.pbf_frame.specs.Steps.{head_of}
use Rattle.pbf_frame.proofs.FrameLemmas.{head_parts}
use Rattle.pbf_frame.proofs.HeadPlaces.{head_moved}
use Rattle.pbf_unpack.specs.declared.frame.Part.{Part}
use Rattle.pbf_unpack.specs.declared.frame.Part.TheVariants.{Prefix, Header, Blob}
use Rattle.pbf_unpack.specs.declared.frame.RawFrame.{RawFrame}
use Rattle.pbf_unpack.specs.Packed.{HoldsPacked, packed_in}
use Rattle.pbf_unpack.specs.Packing.{frame_held}
use Rattle.pbf_unpack.specs.Parts.{header_length}
use Rattle.pbf_unpack.specs.RawFrames.{AreParts, IsCutRaw, IsFirst, IsFrameOf, IsNoRaw, IsOneFrame, IsPastLimit}
use Rattle.pbf_unpack.proofs.RawLemmas.{parts, says}

-- what follows four bytes doesn't change what they say
pub header_same : (front more : List ℕ) → 4 ≤ length front → header_length (front ++ more) ≡ header_length front
unfolding header_length
header_same front more four = ap (λ (l : List ℕ). big_number 4 l) (take-append-le 4 front more four)

same_front : (xs ys r s : List ℕ) → length xs ≡ length ys → xs ++ r ≡ ys ++ s → (xs ≡ ys) × (r ≡ s)
same_front xs ys r s long e =
    let first : xs ≡ ys = sym (take_at xs r (length xs) refl) ∙ ap (λ (l : List ℕ). take (length xs) l) e ∙ take_at ys s (length xs) (sym long) in
    (first, append_cancel_left ys r s (ap (λ (l : List ℕ). l ++ r) (sym first) ∙ e))

no_length : (xs : List ℕ) → length xs ≡ 0 → xs ≡ []
no_length [] e = refl
no_length (x ∷ xs) e = absurd (omega (arith, e))

same_head : (x y : Head) → ◌≡◌ {A = Result Head Fault} (Ok x) (Ok y) → x ≡ y
same_head x y e = cc

-- a header has a byte
empty_header : (at : ℕ) → header_faults at [] ≡ [] → ⊥
unfolding items_past
empty_header at e = cc

-- ---- a frame without a fault

module _ (f : FrameSpec) (had : Bool) (sound : IsFrame had f.offset f) where
  abbrev head : Head
  head = (parts had f.offset f sound).head

  head_there : (at : ℕ) → head_of at f.header ≡ Ok head
  head_there at = head_moved (header_at f) at f.header head (says had f.offset f sound)

  blob_long : length f.blob ≡ head.size
  blob_long = (parts had f.offset f sound).blob_is.long

  kind_is : head.kind ≡ frame_kind f
  kind_is = (head_parts (header_at f) f.header head (says had f.offset f sound)).2

  some_header : f.header ≡ [] → ⊥
  some_header none = empty_header (header_at f) (ap (λ (l : List ℕ). header_faults (header_at f) l) (sym none) ∙ no_least (header_faults (header_at f) f.header) sound.whole)

  -- of these parts
  module _ (front blob : List ℕ) (are : AreParts f front blob) where
    pub parts_header : drop 4 front ≡ f.header
    parts_header = ap (λ (l : List ℕ). drop 4 l) are.front_is ∙ drop_at f.prefix f.header 4 sound.prefix_long

    pub parts_say : (at : ℕ) → head_of at (drop 4 front) ≡ Ok head
    parts_say at = ap (λ (l : List ℕ). head_of at l) parts_header ∙ head_there at

    pub parts_size : (at : ℕ) (h : Head) → head_of at (drop 4 front) ≡ Ok h → length blob ≡ h.size
    parts_size at h told = ap length are.blob_is ∙ blob_long ∙ ap (λ (x : Head). x.size) (same_head head h (sym (parts_say at) ∙ told))

    pub parts_told : (at : ℕ) (e : Fault) → head_of at (drop 4 front) ≡ Err e → ⊥
    parts_told at e told = let said = parts_say at in cc

-- ---- one that comes first

module _ (f : FrameSpec) (front blob rest : List ℕ) (first : IsFirst f ((front ++ blob) ++ rest)) where
  regroup : front ++ (blob ++ rest) ≡ (f.prefix ++ f.header) ++ (f.blob ++ first.later)
  regroup = sym (append_assoc front blob rest) ∙ first.split ∙ append_assoc (f.prefix ++ f.header) f.blob first.later

  front_long : length (f.prefix ++ f.header) ≡ 4 + length f.header
  front_long = omega (arith, length-append f.prefix f.header, first.sound.prefix_long)

  total : length front + (length blob + length rest) ≡ 4 + length f.header + (length f.blob + length first.later)
  total = omega (arith, ap length regroup, length-append front (blob ++ rest), length-append blob rest, length-append (f.prefix ++ f.header) (f.blob ++ first.later), length-append f.blob first.later, front_long)

  all_same : length front ≡ 4 + length f.header → length blob ≡ length f.blob → AreParts f front blob
  all_same long sized =
      let two = same_front front (f.prefix ++ f.header) (blob ++ rest) (f.blob ++ first.later) (long ∙ sym front_long) regroup in
      record { front_is = two.0; blob_is = (same_front blob f.blob rest first.later sized two.1).0 }

  header_is : length front ≡ 4 + length f.header → drop 4 front ≡ f.header
  header_is long =
      ap (λ (l : List ℕ). drop 4 l) (same_front front (f.prefix ++ f.header) (blob ++ rest) (f.blob ++ first.later) (long ∙ sym front_long) regroup).0 ∙ drop_at f.prefix f.header 4 first.sound.prefix_long

  length_is : 4 ≤ length front → header_length front ≡ length f.header
  unfolding header_length
  length_is four =
      let all : front ++ (blob ++ rest) ≡ f.prefix ++ (f.header ++ (f.blob ++ first.later)) = regroup ∙ append_assoc f.prefix f.header (f.blob ++ first.later) in
      let same : take 4 front ≡ f.prefix = sym (take-append-le 4 front (blob ++ rest) four) ∙ ap (λ (l : List ℕ). take 4 l) all ∙ take_at f.prefix (f.header ++ (f.blob ++ first.later)) 4 first.sound.prefix_long in
      ap (λ (l : List ℕ). big_number 4 l) same ∙ first.sound.spelled

-- a whole frame is the one that comes first
pub whole_is_frame : (at : ℕ) (front blob : List ℕ) (h : Head) → 4 ≤ length front → length front ≡ 4 + header_length front → head_of at (drop 4 front) ≡ Ok h → length blob ≡ h.size → IsFrameOf h.kind front blob
whole_is_frame at front blob h four counted told sized f rest first =
    let long : length front ≡ 4 + length f.header = omega (arith, counted, length_is f front blob rest first four) in
    let same : h ≡ head f first.had first.sound = same_head h (head f first.had first.sound) (sym told ∙ ap (λ (l : List ℕ). head_of at l) (header_is f front blob rest first long) ∙ head_there f first.had first.sound at) in
    let is_long : length blob ≡ length f.blob = sized ∙ ap (λ (x : Head). x.size) same ∙ sym (blob_long f first.had first.sound) in
    (all_same f front blob rest first long is_long, ap (λ (x : Head). x.kind) same ∙ kind_is f first.had first.sound)

pub one_frame : (k : FrameKind) (front blob : List ℕ) → IsFrameOf k front blob → IsOneFrame (front ++ blob)
one_frame k front blob is f rest first =
    let are = (is f rest first).0 in
    ap (λ (l : List ℕ). l ++ blob) are.front_is ∙ ap (λ (l : List ℕ). (f.prefix ++ f.header) ++ l) are.blob_is

-- ---- a frame that has zlib data

raw_there : (at : ℕ) (blob : List ℕ) → blob_fault at blob ≡ None → is_none (last_of RAW (found (items at blob))) ≡ false
raw_there at blob sound = grind (arith, both_none, blob_steps, no_least)

there_too : (o p : Option Occurrence) → option_map without_places o ≡ option_map without_places p → is_none o ≡ false → is_none p ≡ false
there_too o p same there = grind arith

no_packed : (at : ℕ) (blob : List ℕ) → is_none (last_of RAW (found (items at blob))) ≡ false → packed_in at blob ≡ None
no_packed at blob there = grind arith

is_read : (k : FrameKind) (at : ℕ) (blob : List ℕ) → (k ≡ kind.Other → ⊥) → IsSoundBlob k at blob → blob_fault at blob ≡ None
is_read k at blob known sound = grind arith

-- is none of a raw file
pub packed_is_past : (k : FrameKind) (at place : ℕ) (front blob : List ℕ) → IsFrameOf k front blob → HoldsPacked k at blob → IsPastLimit place front blob
packed_is_past k at place front blob is has f had sound are =
    let whole : front ++ blob ≡ frame_bytes f = ap (λ (l : List ℕ). l ++ blob) are.front_is ∙ ap (λ (l : List ℕ). (f.prefix ++ f.header) ++ l) are.blob_is in
    let k_is : k ≡ frame_kind f = (is f [] record { had = had; sound = sound; later = []; split = ap (λ (l : List ℕ). l ++ []) whole }).1 in
    let none : blob_fault (blob_at f) f.blob ≡ None = is_read (frame_kind f) (blob_at f) f.blob (λ e. has.0 (k_is ∙ e)) sound.sound in
    let there = there_too _ _ (last_moved RAW (blob_at f) at f.blob) (raw_there (blob_at f) f.blob none) in
    absurd (has.1 (ap (λ (l : List ℕ). packed_in at l) are.blob_is ∙ no_packed at f.blob there))

-- ---- a frame that is held

-- it comes first, and nothing follows as long as bytes of it are to come
module _ (r : RawFrame) (f : FrameSpec) (rest : List ℕ) (ends : 0 < r.wanted → rest ≡ []) (first : IsFirst f (frame_held r ++ rest)) where
  abbrev front : List ℕ
  front = r.front.items

  abbrev blob : List ℕ
  blob = r.blob.items

  abbrev Whole : Type 0
  Whole = AreParts f front blob × (r.wanted ≡ 0)

  sum : length front + (length blob + length rest) ≡ 4 + length f.header + (length f.blob + length first.later)
  sum = total f front blob rest first

  -- nothing follows
  cut : 0 < r.wanted → length front + length blob ≡ 4 + length f.header + (length f.blob + length first.later)
  cut some = omega (arith, sum, ap length (ends some))

  no_blob : (r.part ≡ Blob → ⊥) → length blob ≡ 0
  no_blob other = omega (arith, r.blob_last other, r.blob.ok.0)

  in_prefix : r.part ≡ Prefix → ⊥
  in_prefix is = omega (arith, cut (r.prefix_begun is), r.prefix is, r.prefix_begun is, no_blob (λ e. (let bad : ⊥ = cc in bad)), r.front.ok.0)

  counted_header : 4 ≤ length front → r.part ≡ Header → length front + r.wanted ≡ 4 + length f.header
  counted_header four is = (let n = length_is f front blob rest first four in omega (arith, n, r.header_long is (omega (arith, n, first.sound.short, first.sound.spelled))))

  in_header : (w : ℕ) → r.wanted ≡ w → r.part ≡ Header → ⊥
  in_header zero none is =
      let four : length front ≡ 4 = omega (arith, r.header_begun is none, r.front.ok.0) in
      some_header f first.had first.sound (no_length f.header (omega (arith, counted_header (omega (arith, four)) is, four, none)))
  in_header (suc w) some is =
      let four : 4 ≤ length front = omega (arith, (r.header is).0, r.front.ok.0) in
      omega (arith, some, cut (omega (arith, some)), counted_header four is, no_blob (λ e. (let bad : ⊥ = cc in bad)))

  in_blob : r.part ≡ Blob → Whole
  in_blob is = by_wanted r.wanted refl where
    long : length front ≡ 4 + length f.header
    long = (let n = length_is f front blob rest first (r.blob_long is).four in omega (arith, n, (r.blob_long is).header (omega (arith, n, first.sound.short))))

    sized : length blob + r.wanted ≡ length f.blob
    sized =
        let there = head_there f first.had first.sound 0 in
        (r.blob_long is).sized (head f first.had first.sound) (ap (λ (l : List ℕ). head_of 0 l) (header_is f front blob rest first long) ∙ there) ∙ sym (blob_long f first.had first.sound)

    by_wanted : (n : ℕ) → r.wanted ≡ n → Whole
    by_wanted zero none = (all_same f front blob rest first long (omega (arith, sized, none)), none)
    by_wanted (suc n) some = absurd (omega (arith, some, sized, long, cut (omega (arith, some))))

  held_whole : (p : Part) → r.part ≡ p → Whole
  held_whole Prefix is = absurd (in_prefix is)
  held_whole Header is = absurd (in_header r.wanted refl is)
  held_whole Blob is = in_blob is

-- a complete one has a byte
some_held : (r : RawFrame) → r.wanted ≡ 0 → 0 < length (frame_held r)
some_held r none = (let front = four r.part refl in omega (arith, front, length-append r.front.items r.blob.items)) where
  four : (p : Part) → r.part ≡ p → 4 ≤ length r.front.items
  four Prefix is = omega (arith, r.prefix is, none, r.front.ok.0)
  four Header is = omega (arith, (r.header is).0, r.front.ok.0)
  four Blob is = (r.blob_long is).four

-- if no frame that has its parts ends within the limit, no raw file has it there
pub complete_is_none : (r : RawFrame) (place : ℕ) → r.wanted ≡ 0 → IsPastLimit place r.front.items r.blob.items → IsNoRaw place (frame_held r)
complete_is_none r place none past = record { some = some_held r none; none = λ f rest first. past f first.had first.sound (held_whole r f rest (λ some. absurd (omega (arith, none, some))) first r.part refl).0 }

-- no raw file ends with one that isn't complete
pub cut_is_none : (r : RawFrame) → (r.wanted ≡ 0 → ⊥) → 0 < length (frame_held r) → IsCutRaw (frame_held r)
cut_is_none r wants some = record { some = some; none = λ f first. wants (held_whole r f [] (λ _. refl) (subst (IsFirst f) (sym (append-nil (frame_held r))) first) r.part refl).1 }
