-- The steps of a reader come to the next frame: the fault of a step is the least of the first phase that has one.
use Rattle.std.proofs.Common.{◌≡◌, ℕ, ◌+◌, ◌==◌, nat_lt, nat_le, Bool, true, false, List, [], ◌∷◌, ◌++◌, length, take, drop, Option, Some, None, Result, Ok, Err, refl, sym, ap, ◌∙◌, length-append, arith}
use Rattle.std.specs.Option.{option_or, option_map_or}
use Rattle.std.proofs.lemmas.List.{length-take, drop-drop, drop_min}
use Rattle.byteorder.specs.Endian.{big_number}
use Rattle.pbf_wire.specs.declared.fault.Fault.{Fault}
use Rattle.pbf_wire.specs.declared.fault.Reason.TheVariants.{PrefixCut, HeaderLong, HeaderCut, BlobCut}
use Rattle.pbf_wire.specs.Faults.{fault, fault_where, leaf_faults}
use Rattle.pbf_wire.specs.Least.{least}
use Rattle.pbf_wire.specs.Occurrence.{◌>>=◌, items}
use Rattle.pbf_wire.specs.Phases.{first_fault}
use Rattle.pbf_wire.specs.Wire.{wire}
use Rattle.pbf_wire.proofs.FaultLemmas.{leaf_is_wire}
use Rattle.pbf_frame.specs.declared.frame.FrameKind.{FrameKind}
use Rattle.pbf_frame.specs.declared.header.Head.{Head}
use Rattle.pbf_frame.specs.declared.header.TheConstants.{HEADER_KINDS, HEADER_LIMIT}
use Rattle.pbf_frame.specs.Header.{header_faults, head_says}
use Rattle.pbf_frame.specs.Blob.{blob_fault}
use Rattle.pbf_frame.specs.declared.frame.TheConstants.{FILE_LIMIT}
use Rattle.pbf_frame.specs.Frames.{FrameSpec, header_at, blob_at, frame_bytes, frame_kind, frame_at, cut_faults, order_faults, phases_of_blob, next_within, next_of}
use Rattle.pbf_frame.specs.Steps.{unless, head_of, bytes_at, prefix_at, header_after, known_blob_of, blob_of, frame_of, after_prefix, steps_of}

-- ---- what follows each part

abbrev pub ReadFrame : Type 0
ReadFrame = Result (FrameSpec × List ℕ) Fault

abbrev pub after_blob : ℕ → List ℕ → (List ℕ × Head) × List ℕ → List ℕ × List ℕ → ReadFrame
after_blob p prefix front blob = Ok (record { offset = p; prefix = prefix; header = front.0.0; blob = blob.0 }, blob.1)

abbrev pub after_header : ℕ → List ℕ → (List ℕ × Head) × List ℕ → ReadFrame
after_header p prefix front = blob_of front.0.1.kind front.0.1.size (p + 4 + length front.0.0) front.1 >>= after_blob p prefix front

abbrev pub as_some : FrameSpec × List ℕ → Result (Option FrameSpec × List ℕ) Fault
as_some read = Ok (Some read.0, read.1)

pub frame_steps : (h : Bool) (p : ℕ) (prefix bytes : List ℕ) → frame_of h p prefix bytes ≡ (header_after h p prefix bytes >>= after_header p prefix)
unfolding frame_of
frame_steps h p prefix bytes = refl

pub after_some : (h : Bool) (p : ℕ) (prefix bytes : List ℕ) → after_prefix h p (Some prefix, bytes) ≡ (frame_of h p prefix bytes >>= as_some)
unfolding after_prefix
after_some h p prefix bytes = refl

pub after_none : (h : Bool) (p : ℕ) (bytes : List ℕ) → after_prefix h p (None, bytes) ≡ Ok (None, bytes)
unfolding after_prefix
after_none h p bytes = refl

-- ---- the blob

-- the phases from the blob's bytes on
abbrev late : FrameKind → ℕ → ℕ → List ℕ → List (List Fault)
late k size at blob = fault_where (nat_lt (length blob) size) at BlobCut ∷ phases_of_blob k at blob

known_is : (size at : ℕ) (bytes : List ℕ) → known_blob_of size at bytes ≡ unless (option_or (least (fault_where (nat_lt (length (take size bytes)) size) at BlobCut)) (blob_fault at (take size bytes))) (Ok (take size bytes, drop size bytes))
unfolding known_blob_of bytes_at
known_is size at bytes = grind arith

blob_is : (k : FrameKind) (size at : ℕ) (bytes : List ℕ) → blob_of k size at bytes ≡ unless (first_fault (late k size at (take size bytes))) (Ok (take size bytes, drop size bytes))
unfolding blob_fault bytes_at
blob_is k size at bytes = grind (arith, known_is)

-- ---- the next frame

ended : (h : Bool) (p : ℕ) (bytes : List ℕ) → length bytes == 0 ≡ true → next_of h p bytes ≡ steps_of h p bytes
unfolding next_within steps_of prefix_at after_prefix
ended h p bytes is = grind arith

-- a frame, and the bytes after it; or its fault
abbrev pub given_or : Option Fault → FrameSpec → List ℕ → Result (Option FrameSpec × List ℕ) Fault
given_or fault f bytes = option_map_or Err fault (Ok (Some f, drop (length (frame_bytes f)) bytes))

given_is : (o : Option Fault) (f : FrameSpec) (bytes : List ℕ) → given_or o f bytes ≡ unless o (Ok (Some f, drop (length (frame_bytes f)) bytes))
given_is o f bytes = grind arith

drop_front : (n : ℕ) (xs : List ℕ) → drop (length (take n xs)) xs ≡ drop n xs
drop_front n xs = ap (λ m. drop m xs) (length-take n xs) ∙ drop_min n xs

module _ (h : Bool) (p : ℕ) (bytes : List ℕ) (some : length bytes == 0 ≡ false) where
  abbrev f : FrameSpec
  f = frame_at p bytes

  abbrev n : ℕ
  n = big_number 4 (take 4 bytes)

  abbrev head : Head
  head = head_says (p + 4) f.header

  abbrev after_cut : List (List Fault)
  after_cut = leaf_faults HEADER_KINDS f.offset (header_at f) f.header ∷ header_faults (header_at f) f.header ∷ order_faults (Some FILE_LIMIT) h f.offset (frame_kind f) (blob_at f + head.size) ∷ late (frame_kind f) head.size (blob_at f) f.blob

  cut_first : (x : Fault) → cut_faults f ≡ x ∷ [] → next_of h p bytes ≡ Err x
  unfolding next_within
  cut_first x is = rw some (ap (λ c. given_or (first_fault (c ∷ after_cut)) f bytes) is)

  after_it : cut_faults f ≡ [] → next_of h p bytes ≡ given_or (first_fault after_cut) f bytes
  unfolding next_within
  after_it is = rw some (ap (λ c. given_or (first_fault (c ∷ after_cut)) f bytes) is)

  -- what follows the frame
  rest_is : drop (length (frame_bytes f)) bytes ≡ drop head.size (drop (length f.header) (drop 4 bytes))
  rest_is = cc (length-append (f.prefix ++ f.header) f.blob, length-append f.prefix f.header, drop-drop (length f.blob) (length f.prefix + length f.header) bytes, drop-drop (length f.header) (length f.prefix) bytes, drop_front 4 bytes, drop_front head.size (drop (length f.header) (drop 4 bytes)))

  -- the header has all of its bytes
  module _ (long : nat_lt (length (take 4 bytes)) 4 ≡ false) (small : nat_le HEADER_LIMIT n ≡ false) (whole : nat_lt (length f.header) n ≡ false) where
    by_options : (w a o : Option Fault) → wire HEADER_KINDS (items (p + 4) f.header) ≡ w → least (header_faults (p + 4) f.header) ≡ a → least (order_faults (Some FILE_LIMIT) h p head.kind (p + 4 + length f.header + head.size)) ≡ o
        → steps_of h p bytes ≡ unless (option_or w (option_or a (option_or o (first_fault (late head.kind head.size (blob_at f) f.blob))))) (Ok (Some f, drop (length (frame_bytes f)) bytes))
    unfolding steps_of prefix_at after_prefix frame_of header_after bytes_at head_of
    by_options w a o ew ea eo = grind (arith, drop_front, blob_is, rest_is)

    sound_cut : steps_of h p bytes ≡ given_or (first_fault after_cut) f bytes
    sound_cut =
        by_options (wire HEADER_KINDS (items (p + 4) f.header)) (least (header_faults (p + 4) f.header)) (least (order_faults (Some FILE_LIMIT) h p head.kind (p + 4 + length f.header + head.size))) refl refl refl
        ∙ ap (λ (w : Option Fault). unless (option_or w (first_fault (header_faults (p + 4) f.header ∷ order_faults (Some FILE_LIMIT) h p head.kind (p + 4 + length f.header + head.size) ∷ late head.kind head.size (blob_at f) f.blob))) (Ok (Some f, drop (length (frame_bytes f)) bytes))) (sym (leaf_is_wire HEADER_KINDS (items (p + 4) f.header)))
        ∙ sym (given_is (first_fault after_cut) f bytes)

  steps_short : nat_lt (length (take 4 bytes)) 4 ≡ true → steps_of h p bytes ≡ Err (fault p PrefixCut)
  unfolding steps_of prefix_at
  steps_short is = rw (some, is) refl

  steps_large : nat_lt (length (take 4 bytes)) 4 ≡ false → nat_le HEADER_LIMIT n ≡ true → steps_of h p bytes ≡ Err (fault p HeaderLong)
  unfolding steps_of prefix_at
  steps_large long is = rw (some, long, is) refl

  steps_cut : nat_lt (length (take 4 bytes)) 4 ≡ false → nat_le HEADER_LIMIT n ≡ false → nat_lt (length f.header) n ≡ true → steps_of h p bytes ≡ Err (fault p HeaderCut)
  unfolding steps_of prefix_at after_prefix frame_of header_after bytes_at
  steps_cut long small is = rw (some, long, small, is) refl

  going_on : next_of h p bytes ≡ steps_of h p bytes
  going_on = grind (arith, cut_first, steps_cut, after_it, sound_cut, steps_large, steps_short)

pub next_is_steps : (h : Bool) (p : ℕ) (bytes : List ℕ) → next_of h p bytes ≡ steps_of h p bytes
next_is_steps h p bytes = grind (arith, ended, going_on)
