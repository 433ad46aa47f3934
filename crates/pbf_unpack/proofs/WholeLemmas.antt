-- Frames put together from the parts that were read.
use Rattle.std.proofs.Common.{◌≡◌, ℕ, ◌+◌, ◌<◌, ◌≤◌, ◌^◌, true, List, [], ◌++◌, length, take, drop, Option, Result, Err, refl, ap, ◌∙◌, append_assoc, length-append, arith}
use Rattle.std.specs.Prelude.{is_ok}
use Rattle.std.proofs.lemmas.List.{append-nil, take_at, drop_at, take_all}
use Rattle.std.proofs.lemmas.Bool.Decides.{nat_tests}
use Rattle.byteorder.specs.Endian.{big_number}
use Rattle.pbf_wire.specs.declared.fault.Fault.{Fault}
use Rattle.pbf_frame.specs.declared.header.Head.{Head}
use Rattle.pbf_frame.specs.declared.header.TheConstants.{HEADER_LIMIT}
use Rattle.pbf_frame.specs.Devices.{prepend, Passes, IsAtEnd}
use Rattle.pbf_frame.specs.Frames.{FrameSpec, frame_at}
use Rattle.pbf_frame.specs.Header.{head_says}
use Rattle.pbf_frame.specs.Steps.{head_of}
use Rattle.pbf_frame.proofs.FrameLemmas.{head_parts}
use Rattle.pbf_frame.proofs.KnownBytes.{prepend_more}
use Rattle.pbf_frame.proofs.Passed.{passes_more}
use Rattle.pbf_unpack.specs.Unpacked.{then_unpacked, unpacked_frame, is_whole, unpacked_from}
use Rattle.pbf_unpack.specs.Stored.{none_stored, stored_from, stored_in_frame, together}
use Rattle.pbf_unpack.specs.Whole.{TookBytes, IsUnfit, IsCutShort, HasHead}
use Rattle.pbf_unpack.proofs.StoredLemmas.{unfit_stored, whole_stored}
use Rattle.pbf_unpack.proofs.UnpackedLemmas.{without_prefix, with_long_header, without_header, without_head, too_far, without_blob, whole_parts, unfit, whole_then}

-- these bytes were read in two parts
pub took_two : (before mid now : ℕ → List ℕ → Type 0) (old between new : Option (List ℕ)) (xs ys read : List ℕ) → read ≡ xs ++ ys → old ≡ prepend xs between → Passes before xs mid → between ≡ prepend ys new → Passes mid ys now → TookBytes read before now old new
took_two before mid now old between new xs ys read e first first_logged then then_logged = grind (arith, prepend_more old between new xs ys first then, passes_more before mid now xs ys first_logged then_logged)

-- ---- the frame that begins with these parts

abbrev from_header : ℕ → (prefix header after : List ℕ) → FrameSpec
from_header place prefix header after = record { offset = place; prefix = prefix; header = header; blob = take (head_says (place + 4) header).size (drop (length header) after) }

abbrev from_prefix : ℕ → (prefix after : List ℕ) → FrameSpec
from_prefix place prefix after = from_header place prefix (take (big_number 4 prefix) after) after

at_prefix : (place : ℕ) (prefix after : List ℕ) → length prefix ≡ 4 → frame_at place (prefix ++ after) ≡ from_prefix place prefix after
at_prefix place prefix after four = grind (arith, take_at prefix after 4 four, drop_at prefix after 4 four)

pub at_header : (place : ℕ) (prefix header after : List ℕ) → length prefix ≡ 4 → length header ≡ big_number 4 prefix
    → frame_at place (prefix ++ (header ++ after)) ≡ record { offset = place; prefix = prefix; header = header; blob = take (head_says (place + 4) header).size after }
at_header place prefix header after four counted = grind (arith, at_prefix place prefix (header ++ after) four, take_at header after (big_number 4 prefix) counted, drop_at header after (length header) refl)

-- ---- bytes that begin no whole frame

module _ (place : ℕ) (read : List ℕ) (left : Option (List ℕ)) where
  abbrev f : FrameSpec
  f = frame_at place read

  pub cut_prefix : length read < 4 → IsAtEnd left → IsCutShort place read left
  cut_prefix short ended = grind (arith, nat_tests, take_all 4 read, unfit place read, without_prefix f)

  pub cut_prefix_stored : length read < 4 → stored_from place read ≡ none_stored
  cut_prefix_stored short = grind (arith, nat_tests, take_all 4 read, unfit_stored place read, without_prefix f)

pub long_header : (place : ℕ) (read : List ℕ) → length read ≡ 4 → HEADER_LIMIT ≤ big_number 4 read → IsUnfit place read
long_header place read four long = grind (arith, nat_tests, with_long_header, long, unfit place, at_prefix place read)

pub cut_header : (place : ℕ) (prefix header : List ℕ) (left : Option (List ℕ)) → length prefix ≡ 4 → big_number 4 prefix < HEADER_LIMIT → length header < big_number 4 prefix → IsAtEnd left → IsCutShort place (prefix ++ header) left
cut_header place prefix header left four small short ended = grind (arith, nat_tests, take_all (big_number 4 prefix) header, without_header (from_prefix place prefix header), unfit place (prefix ++ header), at_prefix place prefix header four)

pub no_head : (place : ℕ) (prefix header : List ℕ) (e : Fault) → length prefix ≡ 4 → length header ≡ big_number 4 prefix → head_of (place + 4) header ≡ Err e → IsUnfit place (prefix ++ header)
no_head place prefix header e four counted says = grind (arith, length-append prefix header, without_head, append_assoc prefix header, unfit place, at_header place prefix header)

-- the same of how they are stored

pub long_header_stored : (place : ℕ) (read : List ℕ) → length read ≡ 4 → HEADER_LIMIT ≤ big_number 4 read → (rest : List ℕ) → stored_from place (read ++ rest) ≡ none_stored
long_header_stored place read four long rest = grind (arith, nat_tests, with_long_header, long, unfit_stored place, at_prefix place read)

pub cut_header_stored : (place : ℕ) (prefix header : List ℕ) → length prefix ≡ 4 → big_number 4 prefix < HEADER_LIMIT → length header < big_number 4 prefix → stored_from place (prefix ++ header) ≡ none_stored
cut_header_stored place prefix header four small short = grind (arith, nat_tests, take_all (big_number 4 prefix) header, without_header (from_prefix place prefix header), unfit_stored place (prefix ++ header), at_prefix place prefix header four)

pub no_head_stored : (place : ℕ) (prefix header : List ℕ) (e : Fault) → length prefix ≡ 4 → length header ≡ big_number 4 prefix → head_of (place + 4) header ≡ Err e → (rest : List ℕ) → stored_from place ((prefix ++ header) ++ rest) ≡ none_stored
no_head_stored place prefix header e four counted says rest = grind (arith, length-append prefix header, without_head, append_assoc prefix header, unfit_stored place, at_header place prefix header)

-- ---- a header that says where its frame ends

module _ (place : ℕ) (read header : List ℕ) (head : Head) (has : HasHead place read header head) where
  abbrev parts : List ℕ → FrameSpec
  parts after = record { offset = place; prefix = has.prefix; header = header; blob = take (head_says (place + 4) header).size after }

  size_is : head.size ≡ (head_says (place + 4) header).size
  size_is = (head_parts (place + 4) header head has.says).3

  kind_is : head.kind ≡ (head_says (place + 4) header).kind
  kind_is = (head_parts (place + 4) header head has.says).2

  regroup : (after : List ℕ) → read ++ after ≡ has.prefix ++ (header ++ after)
  regroup after = ap (λ (l : List ℕ). l ++ after) has.split ∙ append_assoc has.prefix header after

  begins : (after : List ℕ) → frame_at place (read ++ after) ≡ parts after
  begins after = ap (frame_at place) (regroup after) ∙ at_header place has.prefix header after has.four has.counted

  long : length read ≡ 4 + length header
  long = ap (λ (l : List ℕ). length l) has.split ∙ length-append has.prefix header ∙ ap (λ (n : ℕ). n + length header) has.four

  pub ends_too_far : 2 ^ 62 < place + length read + head.size → IsUnfit place (read ++ [])
  ends_too_far far = grind (arith, nat_tests, long, length-append read [], too_far, size_is, append-nil read, unfit place, begins)

  pub cut_blob : (blob : List ℕ) (left : Option (List ℕ)) → length blob < head.size → IsAtEnd left → IsCutShort place (read ++ blob) left
  cut_blob blob left short ended = grind (arith, nat_tests, take_all (head_says (place + 4) header).size blob, size_is, unfit place (read ++ blob), begins blob, without_blob (parts blob))

  pub ends_too_far_stored : 2 ^ 62 < place + length read + head.size → (rest : List ℕ) → stored_from place ((read ++ []) ++ rest) ≡ none_stored
  ends_too_far_stored far rest = grind (arith, nat_tests, long, length-append read [], too_far, size_is, append-nil read, unfit_stored place, begins)

  pub cut_blob_stored : (blob : List ℕ) → length blob < head.size → stored_from place (read ++ blob) ≡ none_stored
  cut_blob_stored blob short = grind (arith, nat_tests, take_all (head_says (place + 4) header).size blob, size_is, unfit_stored place (read ++ blob), begins blob, without_blob (parts blob))

  pub whole_stores : (blob : List ℕ) → length blob ≡ head.size → (at end : ℕ) → at ≡ place + length read → end ≡ place + length read + head.size → end ≤ 2 ^ 62
      → (rest : List ℕ) → stored_from place ((read ++ blob) ++ rest) ≡ together (stored_in_frame head.kind at blob) (stored_from end rest)
  whole_stores blob sized at end at_is end_is fits rest =
      let f : FrameSpec = record { offset = place; prefix = has.prefix; header = header; blob = blob } in
      let whole : is_whole f ≡ true = whole_parts f has.four has.small has.counted (ap (λ (r : Result Head Fault). is_ok r) has.says) (omega (arith, fits, end_is, long, size_is)) (sized ∙ size_is) in
      grind (arith, append_assoc read blob rest, take_at blob rest (head_says (place + 4) header).size, begins (blob ++ rest), whole_stored place (read ++ (blob ++ rest)), drop_at (read ++ blob) rest (length (read ++ blob)), size_is, kind_is, long)

  whole_frame : (blob : List ℕ) → length blob ≡ head.size → place + length read + head.size ≤ 2 ^ 62 → (rest : List ℕ)
      → unpacked_from place ((read ++ blob) ++ rest) ≡ then_unpacked (unpacked_frame head.kind (place + length read) (read ++ blob) blob) (unpacked_from (place + length read + head.size) rest)
  whole_frame blob sized fits rest =
      let f : FrameSpec = record { offset = place; prefix = has.prefix; header = header; blob = blob } in
      let whole : is_whole f ≡ true = whole_parts f has.four has.small has.counted (ap (λ (r : Result Head Fault). is_ok r) has.says) (omega (arith, fits, long, size_is)) (sized ∙ size_is) in
      grind (arith, append_assoc read blob rest, take_at blob rest (head_says (place + 4) header).size, begins (blob ++ rest), whole_then place (read ++ (blob ++ rest)), drop_at (read ++ blob) rest (length (read ++ blob)), size_is, kind_is, long)

  -- the same, as the code has the numbers
  pub whole_means : (blob : List ℕ) → length blob ≡ head.size → (at end : ℕ) → at ≡ place + length read → end ≡ place + length read + head.size → end ≤ 2 ^ 62
      → (0 < length (read ++ blob)) × ((rest : List ℕ) → unpacked_from place ((read ++ blob) ++ rest) ≡ then_unpacked (unpacked_frame head.kind at (read ++ blob) blob) (unpacked_from end rest))
  whole_means blob sized at end at_is end_is fits = grind (arith, long, length-append read blob, whole_frame blob sized)
