-- The nodes of a dense message, if their ids decide which are picked.
use Rattle.std.proofs.Common.{◌≡◌, ℕ, zero, suc, ◌+◌, ◌<◌, length, length-append, arith, ℤ, Bool, true, false, cond, Ok, Err, List, [], ◌∷◌, ◌++◌, map, append_assoc, append-nil, take-append-drop, take, drop, add-one, Option, subst, refl, sym, ap, ◌∙◌}
use Rattle.std.specs.List.{AllByRecursion, filter}
use Rattle.std.proofs.Math.Seq.{take-add}
use Rattle.std.proofs.lemmas.List.{map-append, drop-drop, length-drop}
use Rattle.pbf_wire.specs.declared.span.Span.{Span}
use Rattle.pbf_wire.specs.Spans.{is_in, AreAlike}
use Rattle.pbf_wire.proofs.AllLemmas.{all_append}
use Rattle.osm_entity.specs.Entity.{NodeSpec, EntitySpec, node}
use Rattle.pbf_dense.specs.Places.{BeginWithIds}
use Rattle.pbf_frame.specs.declared.device.Drain as drain
use Rattle.pbf_frame.specs.declared.stop.Stop.{Stop}
use Rattle.osm_pack.specs.Packing.{Packing, IsPacking, has_header}
use Rattle.pbfcut.specs.declared.pick.EntityPacker.{EntityPacker}
use Rattle.pbfcut.specs.declared.picker.Picker.{Picker}
use Rattle.osm_ways.specs.Phases.{KeptSets}
use Rattle.pbfcut.specs.Many.{PacksSome}
use Rattle.pbfcut.specs.Pick.{everything, picks_by, id_picked, picks_of, picks_id, PacksEach, KeepsPacker}
use Rattle.pbfcut.proofs.PackingLemmas.{PackedEach, each_left, each_picked, each_more, each_later}

some_by_id : (by_ids : Bool) (sets : Option KeptSets) (n : NodeSpec) → picks_by by_ids sets (node n) ≡ id_picked sets n.id
some_by_id by_ids sets n = grind arith

pub picked_by_id : (p : Picker) (n : NodeSpec) → picks_of p (node n) ≡ picks_id p n.id
unfolding picks_of picks_id
picked_by_id p n = some_by_id p.by_ids p.chooser n

-- ---- what comes next, and how many are left

-- an id that comes next is that of the next node, if there is one
pub first_id : (id : ℤ) (ids : List ℤ) (n : NodeSpec) (ns : List NodeSpec) → BeginWithIds (id ∷ ids) (n ∷ ns) → (id ≡ n.id) × BeginWithIds ids ns
first_id id ids n ns (more, is) = (cc, (more, cc))

pub no_node : (ids : List ℤ) (ns : List NodeSpec) → ids ≡ [] → BeginWithIds ids ns → ns ≡ []
no_node ids [] ended begin = refl
no_node ids (n ∷ ns) ended (more, is) = absurd cc

-- an id that is read after some were skipped leaves fewer
pub fewer_left : (all left : List ℤ) (id : ℤ) (m : ℕ) → drop m all ≡ id ∷ left → length left < length all
fewer_left all left id m turn = grind (arith, length-drop m all)

-- nodes that are skipped after one that was made leave fewer
pub passed_left : (left ns rest : List NodeSpec) (n : NodeSpec) (count : ℕ) → left ≡ n ∷ ns → rest ≡ drop count ns → length rest < length left
passed_left left ns rest n count is passed = grind (arith, length-drop count ns)

-- nodes that are taken together after one that was made leave no more
pub taken_left : (left ns gone others rest : List NodeSpec) (n : NodeSpec) → left ≡ n ∷ ns → gone ++ others ≡ ns → rest ≡ others → length rest < length left
taken_left left ns gone others rest n is split same = grind (arith, length-append gone others)

no_first : (n : NodeSpec) (ns : List NodeSpec) → n ∷ ns ≡ [] → ⊥
no_first n ns e = absurd cc

-- ---- nodes as their ids come, of which all are picked, or none is

module _ (p : Picker) (picked : Bool) where
  abbrev pub ArePicked : List NodeSpec → Type 0
  ArePicked ns = AllByRecursion (λ (n : NodeSpec). picks_id p n.id ≡ picked) ns

  one_on : (id : ℤ) (ids : List ℤ) (k : ℕ) (ns : List NodeSpec) → picks_id p id ≡ picked → BeginWithIds (id ∷ ids) (drop k ns) → ArePicked (take k ns) → ArePicked (take (suc k) ns) × BeginWithIds ids (drop (suc k) ns)
  one_on id ids zero [] is begin all = (tt, (ids, refl))
  one_on id ids zero (x ∷ xs) is begin all = let at = first_id id ids x xs begin in ((ap (picks_id p) (sym at.0) ∙ is, tt), at.1)
  one_on id ids (suc k) [] is begin all = (tt, (ids, refl))
  one_on id ids (suc k) (x ∷ xs) is begin all = let rest = one_on id ids k xs is begin all.1 in ((all.0, rest.0), rest.1)

  pub one_more : (id : ℤ) (ids : List ℤ) (k : ℕ) (ns : List NodeSpec) → picks_id p id ≡ picked → BeginWithIds (id ∷ ids) (drop k ns) → ArePicked (take k ns) → ArePicked (take (k + 1) ns) × BeginWithIds ids (drop (k + 1) ns)
  one_more id ids k ns is begin all = rw add-one (one_on id ids k ns is begin all)

  -- all ids that a span has are picked, or none is
  abbrev pub AreInside : Span → Type 0
  AreInside span = (id : ℤ) → is_in span id ≡ true → picks_id p id ≡ picked

  inside_on : (ns : List NodeSpec) (ids : List ℤ) (m : ℕ) (span : Span) → AreInside span → BeginWithIds ids ns → AreAlike span true (take m ids) → ArePicked (take m ns) × BeginWithIds (drop m ids) (drop m ns)
  inside_on [] ids zero span all begin inside = (tt, begin)
  inside_on [] ids (suc m) span all begin inside = (tt, (drop (suc m) ids, refl))
  inside_on (x ∷ xs) ids zero span all begin inside = (tt, begin)
  inside_on (x ∷ xs) [] (suc m) span all begin inside = absurd (no_first x xs (no_node [] (x ∷ xs) refl begin))
  inside_on (x ∷ xs) (id ∷ ids) (suc m) span all begin inside = grind (arith, first_id id ids x xs begin, inside_on xs ids m span all ((first_id id ids x xs begin).1) inside.1, all id inside.0)

  pub more_inside : (k m : ℕ) (ids : List ℤ) (ns : List NodeSpec) (span : Span) → AreInside span → AreAlike span true (take m ids) → BeginWithIds ids (drop k ns) → ArePicked (take k ns) → ArePicked (take (k + m) ns) × BeginWithIds (drop m ids) (drop (k + m) ns)
  more_inside k m ids ns span all inside begin are = grind (arith, inside_on (drop k ns) ids m span all begin inside, take-add k m ns, all_append, drop-drop m k ns)

-- of the first n nodes none is picked
abbrev pub NonePicked : Picker → ℕ → List NodeSpec → Type 0
NonePicked p n ns = filter (picks_of p) (map node (take n ns)) ≡ []

pub none_picked_of : (p : Picker) (ns : List NodeSpec) → ArePicked p false ns → filter (picks_of p) (map node ns) ≡ []
none_picked_of p [] none = refl
none_picked_of p (n ∷ ns) none = grind (arith, picked_by_id p n, none_picked_of p ns none.1)

-- if no node follows them, none at all is picked
pub none_more : (p : Picker) (n : ℕ) (ids : List ℤ) (ns : List NodeSpec) → ids ≡ [] → BeginWithIds ids (drop n ns) → ArePicked p false (take n ns) → filter (picks_of p) (map node ns) ≡ []
none_more p n ids ns ended begin none = grind (arith, take-append-drop n ns, no_node ids (drop n ns) ended begin, append-nil (take n ns), none_picked_of p (take n ns) none)

-- ---- in a dense message

module _ {D S H : Type 0} (d : drain.Ghosts D) (first : EntityPacker) (all : List NodeSpec) (old : Packing D S H) where
  -- what is picked of the nodes that are gone was packed and counted
  pub record OnNodes (left : List NodeSpec) (now : EntityPacker) (new : Packing D S H) : Type 0 where
    pub gone : List NodeSpec
    pub split : gone ++ left ≡ all
    pub each : PackedEach d (picks_of first.picker) (map node gone) first now old new

  pub at_first : has_header old ≡ true → IsPacking old → OnNodes all first old
  at_first begun going = record { gone = []; split = refl; each = each_left d (picks_of first.picker) [] first first old tt refl refl begun going }

  -- more nodes are gone
  more_gone : {X Y : Type 0} (gone more : List NodeSpec) (mid now : EntityPacker) (packer next : Packing D S H) (x : X) (y : Y) → PackedEach d (picks_of first.picker) (map node gone) first mid old packer
      → PacksEach d (picks_of mid.picker) (map node more) mid now packer next (Ok x) → PacksEach d (picks_of first.picker) (map node (gone ++ more)) first now old next (Ok y)
  more_gone gone more mid now packer next x y so_far then = grind (arith, map-append node gone more, each_more d (map node gone) (map node more) first mid now old packer next tt x y so_far then)

  -- nodes that aren't picked
  none_gone : (more : List NodeSpec) (mid now : EntityPacker) (packer : Packing D S H) → now ≡ mid → filter (picks_of mid.picker) (map node more) ≡ [] → KeepsPacker d old packer → IsPacking packer
      → PackedEach d (picks_of mid.picker) (map node more) mid now packer packer
  none_gone more mid now packer same none keeps going = each_left d (picks_of mid.picker) (map node more) mid now packer tt same none keeps.header going

  -- the next isn't picked, and so many after it aren't either
  pub some_passed : (left ns rest : List NodeSpec) (n : NodeSpec) (count : ℕ) (mid now : EntityPacker) (packer : Packing D S H) → left ≡ n ∷ ns → rest ≡ drop count ns → picks_id mid.picker n.id ≡ false → NonePicked mid.picker count ns → now ≡ mid → OnNodes left mid packer → OnNodes rest now packer
  some_passed left ns rest n count mid now packer is passed here later same on =
      let p = mid.picker in
      let none : filter (picks_of p) (map node (n ∷ take count ns)) ≡ [] = ap (λ (b : Bool). cond b (node n ∷ filter (picks_of p) (map node (take count ns))) (filter (picks_of p) (map node (take count ns)))) (picked_by_id p n ∙ here) ∙ later in
      record {
        gone = on.gone ++ (n ∷ take count ns);
        split = ap (λ (l : List NodeSpec). (on.gone ++ (n ∷ take count ns)) ++ l) passed ∙ (append_assoc on.gone (n ∷ take count ns) (drop count ns) ∙ (ap (λ (l : List NodeSpec). on.gone ++ (n ∷ l)) (take-append-drop count ns) ∙ (ap (λ (l : List NodeSpec). on.gone ++ l) (sym is) ∙ on.split)));
        each = more_gone on.gone (n ∷ take count ns) mid now packer packer tt tt on.each (none_gone (n ∷ take count ns) mid now packer same none on.each.keeps on.each.packed.going);
      }

  -- the next isn't picked, and none after it is either
  pub rest_passed : {Y : Type 0} (left ns : List NodeSpec) (n : NodeSpec) (mid now : EntityPacker) (packer : Packing D S H) (y : Y) → left ≡ n ∷ ns → picks_id mid.picker n.id ≡ false → filter (picks_of mid.picker) (map node ns) ≡ [] → now ≡ mid → OnNodes left mid packer
      → PacksEach d (picks_of first.picker) (map node all) first now old packer (Ok y)
  rest_passed left ns n mid now packer y is here later same on =
      let p = mid.picker in
      let none : filter (picks_of p) (map node (n ∷ ns)) ≡ [] = ap (λ (b : Bool). cond b (node n ∷ filter (picks_of p) (map node ns)) (filter (picks_of p) (map node ns))) (picked_by_id p n ∙ here) ∙ later in
      subst (λ (l : List NodeSpec). PacksEach d (picks_of first.picker) (map node l) first now old packer (Ok y)) (ap (λ (l : List NodeSpec). on.gone ++ l) (sym is) ∙ on.split)
      (more_gone on.gone (n ∷ ns) mid now packer packer tt y on.each (none_gone (n ∷ ns) mid now packer same none on.each.keeps on.each.packed.going))

  -- the next is picked
  pub one_packed : {X : Type 0} (left ns : List NodeSpec) (n : NodeSpec) (mid then now : EntityPacker) (packer next : Packing D S H) (x : X) → left ≡ n ∷ ns → picks_id mid.picker n.id ≡ true → then ≡ mid → OnNodes left mid packer
      → PacksEach d everything (node n ∷ []) then now packer next (Ok x) → OnNodes ns now next
  one_packed left ns n mid then now packer next x is picked same on one = record {
    gone = on.gone ++ n ∷ [];
    split = append_assoc on.gone (n ∷ []) ns ∙ (ap (λ (l : List NodeSpec). on.gone ++ l) (sym is) ∙ on.split);
    each = more_gone on.gone (n ∷ []) mid now packer next x tt on.each (each_picked d (picks_of mid.picker) (node n) mid then now packer next (Ok x) same (picked_by_id mid.picker n ∙ picked) one);
  }

  pub one_stops : {X : Type 0} (left ns : List NodeSpec) (n : NodeSpec) (mid then now : EntityPacker) (packer next : Packing D S H) (s : Stop) → left ≡ n ∷ ns → picks_id mid.picker n.id ≡ true → then ≡ mid → OnNodes left mid packer
      → PacksEach {X = X} d everything (node n ∷ []) then now packer next (Err s) → PacksEach {X = X} d (picks_of first.picker) (map node all) first now old next (Err s)
  one_stops {X} left ns n mid then now packer next s is picked same on stops =
      let split = sym (map-append node on.gone (n ∷ ns)) ∙ ap (map node) (ap (λ (l : List NodeSpec). on.gone ++ l) (sym is) ∙ on.split) in
      each_later d (map node on.gone) (node n ∷ []) (map node ns) (map node all) first mid now old packer next tt s split on.each
      (each_picked d (picks_of mid.picker) (node n) mid then now packer next (Err s) same (picked_by_id mid.picker n ∙ picked) stops)

  -- some of those after the next were packed with it
  pub many_packed : {X : Type 0} (ns left : List NodeSpec) (mid now : EntityPacker) (packer next : Packing D S H) (x : X) → OnNodes ns mid packer → PacksSome d ns left mid now packer next (Ok x) → OnNodes left now next
  many_packed ns left mid now packer next x on some = record {
    gone = on.gone ++ some.gone;
    split = ap (λ (l : List NodeSpec). (on.gone ++ some.gone) ++ l) some.rest ∙ (append_assoc on.gone some.gone some.others ∙ (ap (λ (l : List NodeSpec). on.gone ++ l) some.split ∙ on.split));
    each = more_gone on.gone some.gone mid now packer next x tt on.each some.each;
  }

  pub many_stop : {X : Type 0} (ns left : List NodeSpec) (mid now : EntityPacker) (packer next : Packing D S H) (s : Stop) → OnNodes ns mid packer → PacksSome {X = X} d ns left mid now packer next (Err s)
      → PacksEach {X = X} d (picks_of first.picker) (map node all) first now old next (Err s)
  many_stop {X} ns left mid now packer next s on some =
      let parts = sym (map-append node on.gone (some.gone ++ some.others) ∙ ap (λ (l : List EntitySpec). map node on.gone ++ l) (map-append node some.gone some.others)) in
      let split = parts ∙ ap (map node) (ap (λ (l : List NodeSpec). on.gone ++ l) some.split ∙ on.split) in
      each_later d (map node on.gone) (map node some.gone) (map node some.others) (map node all) first mid now old packer next tt s split on.each some.each

  -- no node is left
  pub all_gone : {Y : Type 0} (left : List NodeSpec) (now : EntityPacker) (new : Packing D S H) (y : Y) → left ≡ [] → OnNodes left now new → PacksEach d (picks_of first.picker) (map node all) first now old new (Ok y)
  all_gone left now new y none on = grind (arith, append-nil on.gone)
