-- A table that is written, and read back.
use Rattle.std.proofs.Common.{◌≡◌, ℕ, ◌+◌, ◌^◌, ◌<◌, ◌≤◌, List, [], ◌∷◌, ◌++◌, Option, None, false, map, length, take, get_or, refl, ap, ◌∙◌, append_assoc, arith}
use Rattle.std.specs.Prelude.{nat_lt}
use Rattle.std.specs.Option.{option_or}
use Rattle.std.proofs.lemmas.List.{append-nil, take_more, map-append}
use Rattle.std.proofs.lemmas.Bool.{le-ltb}
use Rattle.pbf_wire.specs.declared.fault.Fault.{Fault}
use Rattle.pbf_wire.specs.Occurrence.{items}
use Rattle.pbf_wire.specs.Message.{Each, slot_bytes}
use Rattle.pbf_wire.proofs.WritingLemmas.{message_one, each_joined}
use Rattle.pbf_wire.proofs.MessageLemmas.{each_written, no_wire_fault}
use Rattle.pbf_strings.specs.Texts.{texts, table_kinds, count_fault, table_fault}
use Rattle.pbf_strings.specs.TableOut.{table_of, table_message}

-- one more text is written
pub one_text_more : {K : Type 0} (items : K → List ℕ) (keys : List K) (i : ℕ) (key : K) (old so_far all : List ℕ) → i < length keys → key ≡ get_or keys i key
    → so_far ≡ old ++ slot_bytes (Each 1 (map items (take i keys))) → all ≡ so_far ++ slot_bytes (Each 1 (items key ∷ [])) → all ≡ old ++ slot_bytes (Each 1 (map items (take (i + 1) keys)))
one_text_more {K = K} items keys i key old so_far all lt is e h =
    let done = slot_bytes (Each 1 (map items (take i keys))) in
    let more = each_joined 1 (map items (take i keys)) (items key ∷ []) in
    grind (arith, h, e, is, take_more keys i key lt, map-append items (take i keys) (key ∷ []), more, append_assoc old done (slot_bytes (Each 1 (items key ∷ []))))

-- the empty text and then the others are written
pub table_written : (texts : List (List ℕ)) (old first all : List ℕ) → first ≡ old ++ slot_bytes (Each 1 ([] ∷ [])) → all ≡ first ++ slot_bytes (Each 1 texts) → all ≡ old ++ table_message texts
table_written texts old first all e h =
    grind (arith, h, e, append_assoc old (slot_bytes (Each 1 ([] ∷ []))) (slot_bytes (Each 1 texts)), message_one (Each 1 (table_of texts)), each_joined 1 ([] ∷ []) texts)

pub written_texts : (written : List (List ℕ)) → length (table_message written) < 2 ^ 64 → texts (table_message written) ≡ table_of written
written_texts written lt = each_written 1 0 (Each 1 (table_of written) ∷ []) ((omega arith, omega arith), tt) lt ∙ append-nil (table_of written)

pub written_sound : (at place : ℕ) (written : List (List ℕ)) → length (table_message written) < 2 ^ 64 → length written ≤ 1048575 → table_fault at place (table_message written) ≡ None
written_sound at place written lt few =
    let wire_none = no_wire_fault table_kinds at (Each 1 (table_of written) ∷ []) (refl, tt) ((omega arith, omega arith), tt) lt in
    let count : nat_lt 1048576 (length (texts (table_message written))) ≡ false = le-ltb _ _ (omega (arith, ap (λ (ts : List (List ℕ)). length ts) (written_texts written lt))) in
    ap (λ (f : Option Fault). option_or f (count_fault place (table_message written))) wire_none ∙ rw count refl
