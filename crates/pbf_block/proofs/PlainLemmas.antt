-- Messages whose fields come once each, in the order of their numbers: what they begin with, and that they have no faults.
use Rattle.std.proofs.Common.{◌≡◌, ℕ, ◌+◌, ◌-◌, ◌/◌, ◌^◌, ◌<◌, ◌≤◌, ltb, eqb, Bool, true, false, pos, List, [], ◌∷◌, ◌++◌, length, take, drop, get_or, refl, sym, ap, subst, ◌∙◌, arith, append-nil, eq-eqb, ◌==◌, filter, ap₂}
use Rattle.std.specs.Prelude.{Ok, None, Some, not, Result, Err, Option}
use Rattle.std.specs.List.{AllByRecursion, flat_map}
use Rattle.std.proofs.lemmas.Bool.{lt-ltb, le-ltb}
use Rattle.std.proofs.lemmas.List.{take_rest, drop-drop, length-drop, get_or-drop}
use Rattle.pbf_wire.specs.declared.fault.Reason.{Reason}
use Rattle.pbf_wire.specs.declared.fault.Reason.TheVariants.{OutOfRange, StringIndex, Granularity, DateGranularity}
use Rattle.pbf_wire.specs.declared.fields.Fields.{Fields}
use Rattle.pbf_wire.specs.declared.message.Message.{Message}
use Rattle.pbf_wire.specs.Cursors.{fields_left}
use Rattle.pbf_wire.specs.Varint.{varint_at, moved_by}
use Rattle.pbf_wire.specs.Columns.{entries, entry_fault, read_entries, placed, joined, column}
use Rattle.pbf_wire.specs.Occurrence.{Number, Bytes, Item, body_at, occurrence_at, items, found, Content, Occurrence}
use Rattle.pbf_wire.specs.Faults.{embedded, fault_where, index_faults, nested_faults, sum_faults, ends_in, fields_in, found_in, below_fault, in_last, message_faults, missing, or_more, twice}
use Rattle.pbf_wire.specs.Least.{least}
use Rattle.pbf_wire.specs.Short.{IsShort}
use Rattle.pbf_wire.specs.Signed.{low_i32, low_i64, is_within}
use Rattle.pbf_wire.proofs.Columns.{placed_numbers, entries_none, entries_ok}
use Rattle.pbf_wire.proofs.Items.{items_none, items_ok}
use Rattle.pbf_wire.proofs.Varints.{one_byte}
use Rattle.pbf_wire.proofs.ShortLemmas.{short_numbers, small_sums, short_column}
use Rattle.osm_entity.specs.Entity.{MetaSpec}
use Rattle.osm_entity.specs.Sources.{named}
use Rattle.pbf_block.specs.declared.plain.PlainWay.{PlainWay}
use Rattle.pbf_block.specs.declared.plain.PlainInfo.{PlainInfo}
use Rattle.pbf_block.specs.declared.entity.TheConstants.{ID, KEYS, VALS, INFO}
use Rattle.pbf_block.specs.declared.way.TheConstants.{WAY_KINDS, REFS}
use Rattle.pbf_block.specs.declared.info.TheConstants.{INFO_KINDS}
use Rattle.pbf_block.specs.Info.{info_in, info_values, out_of_range}
use Rattle.pbf_block.specs.Plain.{IsTag, number_field, bytes_field, BeginsWithNumber, BeginsWithBytes, IsPlainWay, IsPlainInfo}
use Rattle.pbf_block.specs.Way.{way_structure, way_values}
use Rattle.pbf_wire.specs.declared.fault.Fault.{Fault}
use Rattle.pbf_wire.specs.Wire.{kind_of, reason_in}
use Rattle.pbf_wire.proofs.SoundLemmas.{both_nil, ends_are_numbers, fields_sound, no_least, IsSound}
use Rattle.pbf_block.specs.declared.group.TheConstants.{DENSE, WAYS, GROUP_KINDS}
use Rattle.pbf_block.specs.declared.primitive_block.TheConstants.{BLOCK_KINDS, GRANULARITY, DATE_GRANULARITY, PRIMITIVEGROUP, STRINGTABLE}
use Rattle.pbf_block.specs.Clean.{AreCleanWays, AreTags, HoldsCleanWay, IsCleanBlock, IsCleanMember, IsCleanWay, NamesTexts, part_faults}
use Rattle.pbf_block.specs.Group.{entities_structure, first_member, group_structure, in_group, member_structure, member_values, member_wire}
use Rattle.pbf_block.specs.PrimitiveBlock.{part_structure, part_wire, positive, structure_faults, value_faults, wire_faults}
use Rattle.pbf_wire.proofs.AllLemmas.{all_weaker}
use Rattle.pbf_block.proofs.GroupLaw.{not_mixed}

-- ---- what a message begins with

small : (tag : ℕ) → tag < 128 → ltb tag (2 ^ 32) ≡ true
small tag lt = lt-ltb _ _ (omega (arith, lt))

numbered : (tag : ℕ) → 8 ≤ tag → eqb (tag / 8) 0 ≡ false
numbered tag le = grind (arith, le)

number_at : (at tag v k : ℕ) (m : List ℕ) → IsTag 0 tag → varint_at m ≡ Ok (tag, 1) → varint_at (drop 1 m) ≡ Ok (v, k) → occurrence_at at m ≡ Ok (record { place = at; number = tag / 8; content = Number v }, 1 + k)
unfolding occurrence_at body_at
number_at at tag v k m is one read = rw (one, small tag is.1, numbered tag is.0, is.2, read) refl

bytes_at : (at tag v k : ℕ) (m : List ℕ) → IsTag 2 tag → varint_at m ≡ Ok (tag, 1) → varint_at (drop 1 m) ≡ Ok (v, k) → ltb (length (drop k (drop 1 m))) v ≡ false → occurrence_at at m ≡ Ok (record { place = at; number = tag / 8; content = Bytes (take v (drop k (drop 1 m))) (at + 1 + k) }, 1 + (k + v))
unfolding occurrence_at body_at
bytes_at at tag v k m is one read room = rw (one, small tag is.1, numbered tag is.0, is.2, read, room) refl

pub number_begins : (at tag v after : ℕ) (m : List ℕ) → IsTag 0 tag → 0 < length m → get_or m 0 0 ≡ tag → varint_at (drop 1 m) ≡ Ok (v, after - 1) → 1 < after → after ≤ length m
    → BeginsWithNumber at m (tag / 8) v (take (length m - after) (drop after m))
number_begins at tag v after m is some first read lt le =
    let one : varint_at m ≡ Ok (tag, 1) = one_byte m some (omega (arith, first, is.1)) ∙ ap (λ b. Ok (b, 1)) first in
    let size : 1 + (after - 1) ≡ after = omega (arith, lt) in
    let front = number_at at tag v (after - 1) m is one read ∙ ap (λ n. Ok (record { place = at; number = tag / 8; content = Number v }, n)) size in
    record { next = at + after; is = rw take_rest (items_ok at m _ after (omega (arith, lt)) le front) }

pub bytes_begins : (at tag v after : ℕ) (m : List ℕ) → IsTag 2 tag → 0 < length m → get_or m 0 0 ≡ tag → varint_at (drop 1 m) ≡ Ok (v, after - 1) → 1 < after → after ≤ length m → v ≤ length m - after
    → BeginsWithBytes at m (tag / 8) (take v (drop after m)) (drop v (drop after m))
bytes_begins at tag v after m is some first read lt le room =
    let one : varint_at m ≡ Ok (tag, 1) = one_byte m some (omega (arith, first, is.1)) ∙ ap (λ b. Ok (b, 1)) first in
    let rest : drop (after - 1) (drop 1 m) ≡ drop after m = drop-drop (after - 1) 1 m ∙ ap (λ n. drop n m) (omega (arith, lt)) in
    let fits : ltb (length (drop (after - 1) (drop 1 m))) v ≡ false = le-ltb _ _ (omega (arith, room, ap length rest, length-drop after m)) in
    let size : 1 + (after - 1 + v) ≡ after + v = omega (arith, lt) in
    let front = bytes_at at tag v (after - 1) m is one read fits ∙ ap (λ n. Ok (record { place = at; number = tag / 8; content = Bytes (take v (drop (after - 1) (drop 1 m))) (at + 1 + (after - 1)) }, n)) size in
    record {
      held_at = at + 1 + (after - 1);
      next = at + (after + v);
      is = items_ok at m _ (after + v) (omega (arith, lt)) (omega (arith, le, room)) front
          ∙ ap (λ (b : List ℕ). bytes_field at (tag / 8) (at + 1 + (after - 1)) (take v b) ∷ items (at + (after + v)) (drop (after + v) m)) rest
          ∙ ap (λ (r : List ℕ). bytes_field at (tag / 8) (at + 1 + (after - 1)) (take v (drop after m)) ∷ items (at + (after + v)) r) (sym (drop-drop v after m));
    }

-- ---- fields one after another

pub way_fields : (at : ℕ) (m m1 m2 m3 m4 m5 : List ℕ) (way : PlainWay)
    → ((at : ℕ) → BeginsWithNumber at m 1 way.id m1) → ((at : ℕ) → BeginsWithBytes at m1 2 way.keys.now m2) → ((at : ℕ) → BeginsWithBytes at m2 3 way.vals.now m3)
    → ((at : ℕ) → BeginsWithBytes at m3 4 way.info.now m4) → ((at : ℕ) → BeginsWithBytes at m4 8 way.refs.now m5) → length m5 ≡ 0 → IsPlainWay way at m
way_fields at m m1 m2 m3 m4 m5 way a b c d e none =
    let one = a at in
    let two = b one.next in
    let three = c two.next in
    let four = d three.next in
    let five = e four.next in
    record {
      keys = one.next;
      keys_at = two.held_at;
      vals = two.next;
      vals_at = three.held_at;
      info = three.next;
      info_at = four.held_at;
      refs = four.next;
      refs_at = five.held_at;
      is = one.is ∙ ap (λ r. number_field at ID way.id ∷ r) (two.is ∙ ap (λ r. bytes_field one.next 2 two.held_at way.keys.now ∷ r) (three.is ∙ ap (λ r. bytes_field two.next 3 three.held_at way.vals.now ∷ r) (four.is ∙ ap (λ r. bytes_field three.next 4 four.held_at way.info.now ∷ r) (five.is ∙ ap (λ r. bytes_field four.next 8 five.held_at way.refs.now ∷ r) (items_none five.next m5 none)))));
    }

pub info_fields : (at : ℕ) (m m1 m2 m3 m4 m5 : List ℕ) (info : PlainInfo)
    → ((at : ℕ) → BeginsWithNumber at m 1 info.version m1) → ((at : ℕ) → BeginsWithNumber at m1 2 info.timestamp m2) → ((at : ℕ) → BeginsWithNumber at m2 3 info.changeset m3)
    → ((at : ℕ) → BeginsWithNumber at m3 4 info.uid m4) → ((at : ℕ) → BeginsWithNumber at m4 5 info.user m5) → length m5 ≡ 0 → IsPlainInfo info at m
info_fields at m m1 m2 m3 m4 m5 info a b c d e none =
    let one = a at in
    let two = b one.next in
    let three = c two.next in
    let four = d three.next in
    let five = e four.next in
    record {
      timestamp = one.next;
      changeset = two.next;
      uid = three.next;
      user = four.next;
      is = one.is ∙ ap (λ r. number_field at 1 info.version ∷ r) (two.is ∙ ap (λ r. number_field one.next 2 info.timestamp ∷ r) (three.is ∙ ap (λ r. number_field two.next 3 info.changeset ∷ r) (four.is ∙ ap (λ r. number_field three.next 4 info.uid ∷ r) (five.is ∙ ap (λ r. number_field four.next 5 info.user ∷ r) (items_none five.next m5 none)))));
    }

-- ---- no wire fault

pub formed : (way : PlainWay) (info : PlainInfo) (at : ℕ) (m : List ℕ) → IsPlainWay way at m → ((at : ℕ) → IsPlainInfo info at way.info.now) → entry_fault (entries way.keys.now) ≡ None → entry_fault (entries way.vals.now) ≡ None → entry_fault (entries way.refs.now) ≡ None
    → nested_faults WAY_KINDS INFO INFO_KINDS 0 at m ≡ []
formed way info at m p q keys vals refs = rw (p.is, keys, vals, (q p.info_at).is, refs) refl

-- ---- no fault of structure

pub built : (way : PlainWay) (place at : ℕ) (m : List ℕ) → IsPlainWay way at m → length (ends_in (Bytes way.keys.now 0)) ≡ length (ends_in (Bytes way.vals.now 0)) → way_structure place at m ≡ []
built way place at m p same =
    let long : length (ends_in (Bytes way.keys.now 0) ++ []) ≡ length (ends_in (Bytes way.vals.now 0) ++ []) = ap length (append-nil (ends_in (Bytes way.keys.now 0))) ∙ same ∙ sym (ap length (append-nil (ends_in (Bytes way.vals.now 0)))) in
    rw (p.is, eq-eqb _ _ long) refl

-- ---- no fault of values

pub none_where : (b : Bool) (p q : ℕ) (r : Reason) → None ≡ least (fault_where b p r) → fault_where b q r ≡ []
none_where true p q r e = absurd (cc)
none_where false p q r e = refl

all_placed : (place : ℕ) (ns : List ℕ) → AllByRecursion (λ v. v < 2 ^ 35) ns → AllByRecursion (λ (x : ℕ × ℕ). x.0 < 2 ^ 35) (placed place ns ++ [])
all_placed place [] h = tt
all_placed place (n ∷ ns) h = (h.0, all_placed place ns h.1)

refs_small : (message : Message) (way : PlainWay) → IsPlainWay way message.at message.bytes.now → length message.bytes.now ≤ 2 ^ 26 → IsShort way.refs.now → sum_faults (pos (2 ^ 62)) false (joined REFS (found_in message)) ≡ []
unfolding fields_left
refs_small message way p few short =
    let fields : Fields = record { rest = message.bytes; at = message.at; fits = message.fits } in
    small_sums REFS fields few
    (subst (λ (is : List Item). AllByRecursion (λ (x : ℕ × ℕ). x.0 < 2 ^ 35) (joined REFS (found is))) (sym p.is) (all_placed p.refs (read_entries (entries way.refs.now)) (short_numbers way.refs.now short)))

pub valued : (message : Message) (way : PlainWay) (limit : ℕ) (p : IsPlainWay way message.at message.bytes.now) → None ≡ least (out_of_range 62 low_i64 0 way.id)
    → index_faults limit (placed p.keys (read_entries (entries way.keys.now)) ++ []) ≡ [] → index_faults limit (placed p.vals (read_entries (entries way.vals.now)) ++ []) ≡ []
    → info_values limit p.info p.info_at way.info.now ≡ [] → length message.bytes.now ≤ 2 ^ 26 → IsShort way.refs.now → way_values limit 0 message.at message.bytes.now ≡ []
valued message way limit p id keys vals info few short =
    let one = none_where (not (is_within (pos (2 ^ 62)) (low_i64 way.id))) 0 message.at OutOfRange id in
    let refs = subst (λ (is : List Item). sum_faults (pos (2 ^ 62)) false (joined REFS (found is)) ≡ []) p.is (refs_small message way p few short) in
    rw (p.is, one, keys, vals, info, refs) refl

-- ---- what is read

abbrev pub info_said : List (List ℕ) → PlainInfo → MetaSpec
info_said table info = record {
  version = Some (low_i32 info.version);
  timestamp = Some (low_i64 info.timestamp);
  changeset = Some (low_i64 info.changeset);
  uid = Some (low_i32 info.uid);
  user = Some (named table info.user);
  visible = None;
}

pub plain_refs : (way : PlainWay) (at : ℕ) (m : List ℕ) → IsPlainWay way at m → read_entries (entries way.refs.now) ≡ column REFS (fields_in at m)
plain_refs way at m p = rw p.is (sym (placed_numbers p.refs (read_entries (entries way.refs.now))))

pub plain_keys : (way : PlainWay) (at : ℕ) (m : List ℕ) → IsPlainWay way at m → read_entries (entries way.keys.now) ≡ column KEYS (fields_in at m)
plain_keys way at m p = rw p.is (sym (placed_numbers p.keys (read_entries (entries way.keys.now))))

pub plain_vals : (way : PlainWay) (at : ℕ) (m : List ℕ) → IsPlainWay way at m → read_entries (entries way.vals.now) ≡ column VALS (fields_in at m)
plain_vals way at m p = rw p.is (sym (placed_numbers p.vals (read_entries (entries way.vals.now))))

-- what an Info says of which each number is there once
pub plain_meta : (way : PlainWay) (info : PlainInfo) (table : List (List ℕ)) (at : ℕ) (m : List ℕ) → IsPlainWay way at m → ((at : ℕ) → IsPlainInfo info at way.info.now)
    → info_said table info ≡ info_in table (embedded INFO (fields_in at m))
plain_meta way info table at m p q = rw (p.is, (q p.info_at).is) refl

-- the second byte is a whole varint
pub short_after : (m : List ℕ) → 1 < length m → get_or m 1 0 < 128 → varint_at (drop 1 m) ≡ Ok (get_or m 1 0, 1)
short_after m lt small =
    one_byte (drop 1 m) (omega (arith, lt, length-drop 1 m)) (omega (arith, small, get_or-drop 1 m 0 0)) ∙ ap (λ b. Ok (b, 1)) (get_or-drop 1 m 0 0)

-- ---- a column whose numbers are counted and tested one by one

-- what was counted, and what is left
pub record NamedSoFar (limit count : ℕ) (left all : List ℕ) : Type 0 where
  pub whole : entry_fault (entries left) ≡ entry_fault (entries all)
  pub counted : count + length (read_entries (entries left)) ≡ length (read_entries (entries all))
  pub named : (place : ℕ) → index_faults limit (placed place (read_entries (entries left)) ++ []) ≡ index_faults limit (placed place (read_entries (entries all)) ++ [])
  pub room : count + length left ≤ length all

-- a varint from the first byte on
pub varint_here : (m : List ℕ) (v n : ℕ) → moved_by 0 (varint_at m) ≡ Ok (v, n) → varint_at m ≡ Ok (v, n)
varint_here m v n e = by (varint_at m) e where
  by : (r : Result (ℕ × ℕ) Reason) → moved_by 0 r ≡ Ok (v, n) → r ≡ Ok (v, n)
  by (Ok p) e = let same : p.1 ≡ 0 + p.1 = omega arith in ap (λ k. Ok (p.0, k)) same ∙ e
  by (Err r) e = absurd (cc)

pub named_more : (limit count v n : ℕ) (left all : List ℕ) → NamedSoFar limit count left all → 0 < n → n ≤ length left → varint_at left ≡ Ok (v, n) → None ≡ least (below_fault StringIndex limit (v, 0))
    → NamedSoFar limit (count + 1) (drop n left) all
named_more limit count v n left all h some within read below =
    let e = entries_ok left v n some within read in
    record {
      whole = sym (ap entry_fault e) ∙ h.whole;
      counted = omega (arith, ap (λ es. length (read_entries es)) e, h.counted);
      named = λ place.
          sym (ap (λ es. index_faults limit (placed place (read_entries es) ++ [])) e
          ∙ ap (λ (fs : List Fault). fs ++ index_faults limit (placed place (read_entries (entries (drop n left))) ++ [])) (none_where _ 0 place StringIndex below)) ∙ h.named place;
      room = omega (arith, h.room, some, within, length-drop n left);
    }

pub named_all : (limit count : ℕ) (left all : List ℕ) → NamedSoFar limit count left all → length left ≡ 0 → NamesTexts limit count all
named_all limit count left all h none =
    let e = entries_none left none in
    record {
      whole = sym h.whole ∙ ap entry_fault e;
      counted = omega (arith, h.counted, ap (λ es. length (read_entries es)) e);
      named = λ place. sym (h.named place) ∙ ap (λ es. index_faults limit (placed place (read_entries es) ++ [])) e;
    }

-- ---- a way

pub clean_way : (message : Message) (way : PlainWay) (info : PlainInfo) (limit place : ℕ) → IsPlainWay way message.at message.bytes.now → ((at : ℕ) → IsPlainInfo info at way.info.now)
    → None ≡ least (out_of_range 62 low_i64 0 way.id) → ((place at : ℕ) (m : List ℕ) → IsPlainInfo info at m → info_values limit place at m ≡ []) → AreTags limit way.keys.now way.vals.now
    → length message.bytes.now ≤ 2 ^ 26 → IsShort way.refs.now → IsCleanWay limit place message.at message.bytes.now
clean_way message way info limit place p q id meta tags few short =
    let keys = tags.keys_named in
    let vals = tags.vals_named in
    record {
      form = formed way info message.at message.bytes.now p q keys.whole vals.whole (short_column way.refs.now short);
      structure = built way place message.at message.bytes.now p (ends_are_numbers way.keys.now keys.whole ∙ (sym keys.counted ∙ (vals.counted ∙ sym (ends_are_numbers way.vals.now vals.whole))));
      values = valued message way limit p id (keys.named p.keys) (vals.named p.vals) (meta p.info p.info_at way.info.now (q p.info_at)) few short;
    }

-- ---- a group of ways

-- a field in which nothing is wrong
record IsQuiet (limit : ℕ) (o : Occurrence) : Type 0 where
  number : o.number ≡ WAYS
  kind : reason_in (kind_of GROUP_KINDS o.number) o.content ≡ None
  wire : member_wire o ≡ []
  structure : entities_structure o ≡ []
  values : member_values limit o ≡ []

none_given : {X : Type 0} (f : X → List Fault) (xs : List X) → AllByRecursion (λ x. f x ≡ []) xs → flat_map f xs ≡ []
none_given f [] h = refl
none_given f (x ∷ xs) h = ap₂ (λ (a b : List Fault). a ++ b) h.0 (none_given f xs h.1)

none_at : (k : ℕ) (os : List Occurrence) → ¬ (WAYS ≡ k) → AllByRecursion (λ o. o.number ≡ WAYS) os → filter (λ (o : Occurrence). o.number == k) os ≡ []
none_at k [] other h = refl
none_at k (o ∷ os) other h = let no : (o.number == k) ≡ false = grind (arith, h.0, other) in rw no (none_at k os other h.1)

module _ (limit : ℕ) where
  way_quiet : (place k : ℕ) (c : Content) → k ≡ WAYS → HoldsCleanWay limit place c → IsQuiet limit (record { place = place; number = k; content = c })
  way_quiet place k (Bytes bytes at) same h = record { number = same; kind = rw same refl; wire = rw (same, h.form) refl; structure = rw (same, h.structure) refl; values = rw (same, h.values) refl }
  way_quiet place k c same h = absurd h

  all_quiet : (is : List Item) → AllByRecursion (IsCleanMember limit) is → AllByRecursion (IsQuiet limit) (found is)
  all_quiet [] h = tt
  all_quiet (Ok o ∷ is) h = (way_quiet o.place o.number o.content h.0.0 h.0.1, all_quiet is h.1)
  all_quiet (Err e ∷ is) h = absurd h.0

  ways_form : (is : List Item) → AllByRecursion (IsCleanMember limit) is → message_faults GROUP_KINDS member_wire is ≡ []
  ways_form [] h = refl
  ways_form (Ok o ∷ is) h = let q = way_quiet o.place o.number o.content h.0.0 h.0.1 in rw (q.kind, q.wire) (ways_form is h.1)
  ways_form (Err e ∷ is) h = absurd h.0

  ways_structure : (place at : ℕ) (m : List ℕ) → AreCleanWays limit at m → group_structure place at m ≡ []
  ways_structure place at m h =
      let os = fields_in at m in
      let quiet = all_quiet (items at m) h in
      let numbered = all_weaker (IsQuiet limit) (λ o. o.number ≡ WAYS) (λ o q. q.number) os quiet in
      let f = member_structure (first_member os) in
      rw (none_at DENSE os (λ n. omega (arith, n)) numbered)
      (none_given f os (all_weaker (IsQuiet limit) (λ o. f o ≡ []) (λ o q. rw (q.structure, q.number, not_mixed WAYS os numbered) refl) os quiet))

  ways_values : (at : ℕ) (m : List ℕ) → AreCleanWays limit at m → flat_map (member_values limit) (fields_in at m) ≡ []
  ways_values at m h = none_given (member_values limit) (fields_in at m) (all_weaker (IsQuiet limit) _ (λ o q. q.values) (fields_in at m) (all_quiet (items at m) h))

  -- ---- the field of a payload that holds it

  pub clean_group : (place k at : ℕ) (m : List ℕ) → k ≡ PRIMITIVEGROUP → AreCleanWays limit at m → part_faults limit (record { place = place; number = k; content = Bytes m at }) ≡ []
  clean_group place k at m same h = rw (same, ways_form (items at m) h, ways_structure place at m h, ways_values at m h) refl

  -- ---- a payload

  form_left : (is : List Item) → message_faults BLOCK_KINDS (part_faults limit) is ≡ [] → message_faults BLOCK_KINDS part_wire is ≡ []
  form_left [] e = refl
  form_left (Ok o ∷ is) e = by (reason_in (kind_of BLOCK_KINDS o.number) o.content) e (form_left is) where
    by : (r : Option Reason) → or_more o.place r (part_faults limit o ++ message_faults BLOCK_KINDS (part_faults limit) is) ≡ []
        → (message_faults BLOCK_KINDS (part_faults limit) is ≡ [] → message_faults BLOCK_KINDS part_wire is ≡ [])
        → or_more o.place r (part_wire o ++ message_faults BLOCK_KINDS part_wire is) ≡ []
    by (Some reason) e more = absurd (cc)
    by None e more =
        let both = both_nil (part_faults limit o) _ e in
        let early = both_nil (part_wire o ++ part_structure o) (in_group (member_values limit) o) both.0 in
        ap₂ (λ (a b : List Fault). a ++ b) (both_nil (part_wire o) (part_structure o) early.0).0 (more both.1)
  form_left (Err e ∷ is) h = absurd (cc)

  -- what a field without a fault shows
  apart : (o : Occurrence) → IsSound BLOCK_KINDS (part_faults limit) o → (part_structure o ≡ []) × (in_group (member_values limit) o ≡ [])
  apart o h =
      let early = both_nil (part_wire o ++ part_structure o) (in_group (member_values limit) o) h.1 in
      ((both_nil (part_wire o) (part_structure o) early.0).1, early.1)

  pub clean_block : (at : ℕ) (m : List ℕ) → None ≡ least (missing STRINGTABLE at (fields_in at m) ++ twice STRINGTABLE (fields_in at m))
      → None ≡ least (in_last GRANULARITY (positive Granularity) (fields_in at m) ++ in_last DATE_GRANULARITY (positive DateGranularity) (fields_in at m))
      → None ≡ least (message_faults BLOCK_KINDS (part_faults limit) (items at m)) → IsCleanBlock limit at m
  unfolding wire_faults structure_faults value_faults
  clean_block at m table scale parts =
      let none = no_least _ (sym parts) in
      let os = fields_in at m in
      let sound = all_weaker _ _ apart os (fields_sound BLOCK_KINDS (part_faults limit) (items at m) none) in
      record {
        form = form_left (items at m) none;
        structure = ap₂ (λ (a b : List Fault). a ++ b) (no_least _ (sym table)) (none_given part_structure os (all_weaker _ _ (λ o p. p.0) os sound));
        values = ap₂ (λ (a b : List Fault). a ++ b) (no_least _ (sym scale)) (none_given (in_group (member_values limit)) os (all_weaker _ _ (λ o p. p.1) os sound));
      }
