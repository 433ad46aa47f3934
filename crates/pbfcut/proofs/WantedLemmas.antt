-- What several areas want of a block.
use Rattle.std.proofs.Common.{◌≡◌, ◌<◌, ◌+◌, ◌||◌, inl, inr, ℕ, ℤ, suc, List, [], ◌∷◌, ◌++◌, Bool, true, false, true≢false, if◌then◌else◌, length, take, drop, get_or, map, nat_eq, append-nil, append_assoc, sym, ap, subst, ◌∙◌, refl, arith}
use Rattle.std.specs.List.{AllByRecursion, AllZip, filter, flat_map, list_any}
use Rattle.std.specs.Global.{Vec}
use Rattle.std.proofs.lemmas.Bool.{or_cases, or_left, or_parts, or_right}
use Rattle.std.proofs.lemmas.List.{length-take-le, take_more, take-append-drop}
use Rattle.std.proofs.lemmas.List.Elements.{filter-append}
use Rattle.std.proofs.lemmas.List.Concat.{flat_map-append}
use Rattle.osm_entity.specs.Entity.{EntitySpec, NodeSpec, WaySpec, RelationSpec, node, way, relation}
use Rattle.osm_entity.specs.Ranges.{EntityFits}
use Rattle.osm_ids.specs.Strips.{IsNamed, MarksNamed, NamesAny, named_at, names_any}
use Rattle.osm_ids.proofs.StripLemmas.{marks_fewer}
use Rattle.osm_ways.specs.declared.choice_strips.ChoiceStrips.{ChoiceStrips}
use Rattle.osm_ways.specs.ChoiceStrips.{MarksKeepers, MayKeep, NamesChoice, StillNamesChoices}
use Rattle.pbfcut.specs.declared.carrying.AreaChoice.{AreaChoice}
use Rattle.osm_ways.specs.Phases.{KeptSets, is_taken}
use Rattle.osm_ways.specs.Seen.{seen_relation}
use Rattle.osm_ways.proofs.ChoiceStripLemmas.{named_node, named_way}
use Rattle.pbf_block.specs.declared.runs.Run.{Run}
use Rattle.pbf_block.specs.Runs.{run_entities}
use Rattle.pbf_dense.specs.Places.{BeginWithIds, id_of}
use Rattle.pbfcut.specs.Pick.{Pick, taken_by}
use Rattle.pbfcut.proofs.SeveralLemmas.{three_length}
use Rattle.pbfcut.specs.Several.{AllThree}
use Rattle.pbfcut.specs.Wanted.{AllFrom, AreWanted, AreWantedEach, IsShared, MarksTakers, WantedLists, listed_entities}

-- one run more
pub listed_more : (runs : List Run) (i : ℕ) (one : Run) → i < length runs → one ≡ get_or runs i one → listed_entities (take (i + 1) runs) ≡ listed_entities (take i runs) ++ run_entities one
listed_more runs i one lt is =
    ap listed_entities (take_more runs i one lt)
    ∙ (flat_map-append run_entities (take i runs) (get_or runs i one ∷ [])
    ∙ (ap (λ l. listed_entities (take i runs) ++ l) (append-nil (run_entities (get_or runs i one))) ∙ ap (λ r. listed_entities (take i runs) ++ run_entities r) (sym is)))

-- with those that are left
pub listed_split : (runs : List Run) (i : ℕ) (one : Run) → i < length runs → one ≡ get_or runs i one → listed_entities (take i runs) ++ (run_entities one ++ listed_entities (drop (i + 1) runs)) ≡ listed_entities runs
listed_split runs i one lt is =
    sym (append_assoc (listed_entities (take i runs)) (run_entities one) (listed_entities (drop (i + 1) runs)))
    ∙ (ap (λ l. l ++ listed_entities (drop (i + 1) runs)) (sym (listed_more runs i one lt is))
    ∙ (sym (flat_map-append run_entities (take (i + 1) runs) (drop (i + 1) runs)) ∙ ap listed_entities (take-append-drop (i + 1) runs)))

-- ---- which are wanted

all_both : {X : Type 0} (P : X → Type 0) (xs ys : List X) → AllByRecursion P xs → AllByRecursion P ys → AllByRecursion P (xs ++ ys)
all_both P [] ys all more = more
all_both P (x ∷ xs) ys all more = (all.0, all_both P xs ys all.1 more)

all_parts : {X : Type 0} (P : X → Type 0) (xs ys : List X) → AllByRecursion P (xs ++ ys) → AllByRecursion P xs × AllByRecursion P ys
all_parts P [] ys all = (tt, all)
all_parts P (x ∷ xs) ys all = let rest = all_parts P xs ys all.1 in ((all.0, rest.0), rest.1)

-- a run of which nothing is picked
wanted_none : (pick : Pick) (es run wanted : List EntitySpec) → filter pick run ≡ [] → AreWanted pick es wanted → AreWanted pick (es ++ run) wanted
wanted_none pick es run wanted none are = record {
  same = are.same ∙ (sym (append-nil (filter pick es)) ∙ (ap (λ l. filter pick es ++ l) (sym none) ∙ sym (filter-append pick es run)));
  fit = λ all. are.fit (all_parts EntityFits es run all).0;
}

-- a run that is wanted
wanted_more : (pick : Pick) (es run wanted : List EntitySpec) → AreWanted pick es wanted → AreWanted pick (es ++ run) (wanted ++ run)
wanted_more pick es run wanted are = record {
  same = filter-append pick wanted run ∙ (ap (λ l. l ++ filter pick run) are.same ∙ sym (filter-append pick es run));
  fit = λ all. let parts = all_parts EntityFits es run all in all_both EntityFits wanted run (are.fit parts.0) parts.1;
}

-- ---- which choices are marked

-- nothing of these is kept by a choice
abbrev TakesNone : List EntitySpec → KeptSets → Type 0
TakesNone es sets = filter (taken_by sets) es ≡ []

takes_none : (sets : KeptSets) (es : List EntitySpec) → list_any (taken_by sets) es ≡ false → TakesNone es sets
takes_none sets [] none = refl
takes_none sets (e ∷ es) none =
    let parts = or_parts (taken_by sets e) (list_any (taken_by sets) es) none in
    ap (λ (b : Bool). if b then e ∷ filter (taken_by sets) es else filter (taken_by sets) es) parts.0 ∙ takes_none sets es parts.1

-- a choice that keeps one of these nodes is named for one of the ids that they begin with
node_among : (strips : ChoiceStrips) (number : ℕ) (sets : KeptSets) (ids : List ℤ) (ns : List NodeSpec) → BeginWithIds ids ns → NamesChoice strips number sets → list_any (taken_by sets) (map node ns) ≡ true → NamesAny strips.nodes ids number
node_among strips number sets ids [] begin named kept = absurd (true≢false (sym kept))
node_among strips number sets ids (n ∷ ns) begin named kept =
    let more = map id_of ns ++ begin.0 in
    subst (λ (l : List ℤ). NamesAny strips.nodes l number) (sym begin.1) (elim (or_cases (taken_by sets (node n)) (list_any (taken_by sets) (map node ns)) kept) [
      | inl e ↦ or_left (list_any (nat_eq number) (named_at strips.nodes n.id)) (names_any strips.nodes more number) (named_node strips number sets n.id named e)
      | inr e ↦ or_right (list_any (nat_eq number) (named_at strips.nodes n.id)) (names_any strips.nodes more number) (node_among strips number sets more ns (begin.0, refl) named e)
    ])

-- the marks of nodes by ids that they begin with
pub dense_takers : (strips : ChoiceStrips) (ids : List ℤ) (ns : List NodeSpec) (old new : List Bool) (some : Bool) → BeginWithIds ids ns → MarksNamed (NamesAny strips.nodes ids) old new some → MarksTakers strips (map node ns) old new some
dense_takers strips ids ns old new some begin m = marks_fewer _ (NamesAny strips.nodes ids) old new some (λ number keeps. node_among strips number keeps.0 ids ns begin keeps.1 keeps.2) m

-- one entity
one_takers : (strips : ChoiceStrips) (e : EntitySpec) (old new : List Bool) (some : Bool) (Named : ℕ → Type 0)
    → ((number : ℕ) (sets : KeptSets) → NamesChoice strips number sets → taken_by sets e ≡ true → Named number)
    → MarksNamed Named old new some → MarksTakers strips (e ∷ []) old new some
one_takers strips e old new some Named h m = marks_fewer _ Named old new some (λ number keeps. h number keeps.0 keeps.1 (alone (taken_by keeps.0 e) keeps.2)) m where
  alone : (b : Bool) → (b || false) ≡ true → b ≡ true
  alone true is = refl
  alone false is = is

pub node_takers : (strips : ChoiceStrips) (n : NodeSpec) (old new : List Bool) (some : Bool) → MarksNamed (IsNamed strips.nodes n.id) old new some → MarksTakers strips (node n ∷ []) old new some
node_takers strips n old new some m = one_takers strips (node n) old new some (IsNamed strips.nodes n.id) (λ number sets named is. named_node strips number sets n.id named is) m

pub way_takers : (strips : ChoiceStrips) (w : WaySpec) (old new : List Bool) (some : Bool) → MarksNamed (IsNamed strips.ways w.id) old new some → MarksTakers strips (way w ∷ []) old new some
way_takers strips w old new some m = one_takers strips (way w) old new some (IsNamed strips.ways w.id) (λ number sets named is. named_way strips number sets w.id w.refs named is) m

pub relation_takers : (strips : ChoiceStrips) (r : RelationSpec) (old new : List Bool) (some : Bool) → MarksKeepers strips (λ sets. is_taken sets (seen_relation r)) old new some → MarksTakers strips (relation r ∷ []) old new some
relation_takers strips r old new some m = one_takers strips (relation r) old new some (MayKeep strips (λ sets. is_taken sets (seen_relation r))) (λ number sets named is. (sets, named, is)) m

pub no_takers : (strips : ChoiceStrips) (marks : List Bool) → MarksTakers strips [] marks marks false
no_takers strips marks = record {
  marked = record { set = λ number keeps. absurd (true≢false (sym keeps.2)); kept = λ number is. is; as_many = refl };
  none = λ told number keeps. absurd (true≢false (sym keeps.2));
}

-- ---- lists

-- a choice whose mark is not set keeps nothing
pub zip_left : (strips : ChoiceStrips) (es : List EntitySpec) (choices : List KeptSets) (marks : List Bool) (k : ℕ) → length choices ≡ length marks → AllFrom (NamesChoice strips) k choices
    → ((i : ℕ) (sets : KeptSets) → i < length marks → NamesChoice strips (k + i) sets → get_or marks i false ≡ false → TakesNone es sets)
    → AllZip (λ sets mark. mark ≡ false → TakesNone es sets) choices marks
zip_left strips es [] [] k same named h = tt
zip_left strips es (c ∷ cs) (m ∷ ms) k same named h = (
  λ is. h 0 c (omega arith) (subst (λ n. NamesChoice strips n c) (omega arith) named.0) is,
  zip_left strips es cs ms (k + 1) (omega (arith, same)) named.1 (λ i sets lt is left. h (i + 1) sets (omega (arith, lt)) (subst (λ n. NamesChoice strips n sets) (omega arith) is) (suc_get m ms i left)),
) where
  suc_get : (m : Bool) (ms : List Bool) (i : ℕ) → get_or ms i false ≡ false → get_or (m ∷ ms) (i + 1) false ≡ false
  suc_get m ms i is = grind (arith, is)
zip_left strips es [] (m ∷ ms) k same named h = (let bad : ⊥ = omega (arith, same) in absurd bad)
zip_left strips es (c ∷ cs) [] k same named h = (let bad : ⊥ = omega (arith, same) in absurd bad)

-- the same from what was marked
unmarked : (strips : ChoiceStrips) (es : List EntitySpec) (old new : List Bool) (some : Bool) → MarksTakers strips es old new some → (i : ℕ) (sets : KeptSets) → i < length new → NamesChoice strips i sets → get_or new i false ≡ false → TakesNone es sets
unmarked strips es old new some m i sets lt named left = takes_none sets es (by (list_any (taken_by sets) es) refl) where
  by : (b : Bool) → list_any (taken_by sets) es ≡ b → b ≡ false
  by false is = refl
  by true is = (let marked = m.marked.set i (sets, named, is) lt in absurd (true≢false (sym marked ∙ left)))

pub left_out : (strips : ChoiceStrips) (es : List EntitySpec) (choices : List KeptSets) (old new : List Bool) (some : Bool) → length choices ≡ length new → AllFrom (NamesChoice strips) 0 choices → MarksTakers strips es old new some → AllZip (λ sets mark. mark ≡ false → TakesNone es sets) choices new
left_out strips es choices old new some same named m = zip_left strips es choices new 0 same named (λ i sets lt is left. unmarked strips es old new some m i sets lt (subst (λ n. NamesChoice strips n sets) (omega arith) is) left)

-- a run that was shared
shared_one : (sets : KeptSets) (gone : List EntitySpec) (run : Run) (mark : Bool) (old new : Vec Run) → AreWanted (taken_by sets) gone (listed_entities old.items) → (mark ≡ false → TakesNone (run_entities run) sets) → IsShared run mark old new → AreWanted (taken_by sets) (gone ++ run_entities run) (listed_entities new.items)
shared_one sets gone run true old new are left is =
    let listed = ap listed_entities is ∙ (flat_map-append run_entities old.items (run ∷ []) ∙ ap (λ l. listed_entities old.items ++ l) (append-nil (run_entities run))) in
    subst (λ l. AreWanted (taken_by sets) (gone ++ run_entities run) l) (sym listed) (wanted_more (taken_by sets) gone (run_entities run) (listed_entities old.items) are)
shared_one sets gone run false old new are left is =
    subst (λ l. AreWanted (taken_by sets) (gone ++ run_entities run) (listed_entities l)) (sym is) (wanted_none (taken_by sets) gone (run_entities run) (listed_entities old.items) (left refl) are)

shared_each : (gone : List EntitySpec) (run : Run) (choices : List KeptSets) (marks : List Bool) (olds news : List (Vec Run)) → AreWantedEach gone choices olds → AllZip (λ sets mark. mark ≡ false → TakesNone (run_entities run) sets) choices marks → AllThree (IsShared run) marks olds news → AreWantedEach (gone ++ run_entities run) choices news
shared_each gone run [] [] [] [] are left shared = tt
shared_each gone run (c ∷ cs) (m ∷ ms) (o ∷ os) (n ∷ ns) are left shared = (shared_one c gone run m o n are.0 left.0 shared.0, shared_each gone run cs ms os ns are.1 left.1 shared.1)
shared_each gone run [] [] [] (n ∷ ns) are left shared = absurd shared
shared_each gone run [] [] (o ∷ os) news are left shared = absurd are
shared_each gone run [] (m ∷ ms) olds news are left shared = absurd left
shared_each gone run (c ∷ cs) marks [] news are left shared = absurd are
shared_each gone run (c ∷ cs) [] (o ∷ os) news are left shared = absurd left
shared_each gone run (c ∷ cs) (m ∷ ms) (o ∷ os) [] are left shared = absurd shared

pub wanted_shared : (strips : ChoiceStrips) (gone : List EntitySpec) (run : Run) (start marks : List Bool) (some : Bool) (olds news : List (Vec Run)) → length marks ≡ length olds → MarksTakers strips (run_entities run) start marks some → AllThree (IsShared run) marks olds news → WantedLists strips gone olds → WantedLists strips (gone ++ run_entities run) news
wanted_shared strips gone run start marks some olds news many m shared are choices same named =
    let all : length choices ≡ length olds = omega (arith, same, three_length (IsShared run) marks olds news shared) in
    shared_each gone run choices marks olds news (are choices all named) (left_out strips (run_entities run) choices start marks some (all ∙ sym many) named m) shared

-- a run that nobody wants
nobody_each : (strips : ChoiceStrips) (gone es : List EntitySpec) (choices : List KeptSets) (lists : List (Vec Run)) (k : ℕ) → AllFrom (NamesChoice strips) k choices → ((number : ℕ) (sets : KeptSets) → NamesChoice strips number sets → TakesNone es sets) → AreWantedEach gone choices lists → AreWantedEach (gone ++ es) choices lists
nobody_each strips gone es [] [] k named none are = tt
nobody_each strips gone es (c ∷ cs) (l ∷ ls) k named none are = (wanted_none (taken_by c) gone es (listed_entities l.items) (none k c named.0) are.0, nobody_each strips gone es cs ls (k + 1) named.1 none are.1)
nobody_each strips gone es [] (l ∷ ls) k named none are = absurd are
nobody_each strips gone es (c ∷ cs) [] k named none are = absurd are

pub wanted_nobody : (strips : ChoiceStrips) (gone es : List EntitySpec) (start marks : List Bool) (some : Bool) (lists : List (Vec Run)) → some ≡ false → MarksTakers strips es start marks some → WantedLists strips gone lists → WantedLists strips (gone ++ es) lists
wanted_nobody strips gone es start marks some lists is m are choices same named = nobody_each strips gone es choices lists 0 named none (are choices same named) where
  none : (number : ℕ) (sets : KeptSets) → NamesChoice strips number sets → TakesNone es sets
  none number sets named = takes_none sets es (by (list_any (taken_by sets) es) refl) where
    by : (b : Bool) → list_any (taken_by sets) es ≡ b → b ≡ false
    by false kept = refl
    by true kept = absurd (m.none is number (sets, named, kept))

-- of no runs nothing is wanted
pub wanted_empty : (strips : ChoiceStrips) (lists : List (Vec Run)) → AllByRecursion (λ list. list.items ≡ []) lists → WantedLists strips [] lists
wanted_empty strips lists empty choices same named = each choices lists same empty where
  each : (choices : List KeptSets) (lists : List (Vec Run)) → length choices ≡ length lists → AllByRecursion (λ list. list.items ≡ []) lists → AreWantedEach [] choices lists
  each [] [] same empty = tt
  each (c ∷ cs) (l ∷ ls) same empty = (subst (λ m. AreWanted (taken_by c) [] (listed_entities m)) (sym empty.0) (record { same = refl; fit = λ all. tt }), each cs ls (omega (arith, same)) empty.1)
  each [] (l ∷ ls) same empty = (let bad : ⊥ = omega (arith, same) in absurd bad)
  each (c ∷ cs) [] same empty = (let bad : ⊥ = omega (arith, same) in absurd bad)

-- ---- strips

still_from : (old new : ChoiceStrips) (k : ℕ) (choices : List AreaChoice) → StillNamesChoices old new → AllFrom (λ n choice. NamesChoice old n choice.chosen) k choices → AllFrom (λ n choice. NamesChoice new n choice.chosen) k choices
still_from old new k [] still named = tt
still_from old new k (c ∷ cs) still named = (still k c.chosen named.0, still_from old new (k + 1) cs still named.1)

one_from : (strips : ChoiceStrips) (k n : ℕ) (choices : List AreaChoice) (c : AreaChoice) → n ≡ k + length choices → AllFrom (λ n choice. NamesChoice strips n choice.chosen) k choices → NamesChoice strips n c.chosen → AllFrom (λ n choice. NamesChoice strips n choice.chosen) k (choices ++ c ∷ [])
one_from strips k n [] c is named one = (subst (λ m. NamesChoice strips m c.chosen) (omega (arith, is)) one, tt)
one_from strips k n (d ∷ ds) c is named one = (named.0, one_from strips (k + 1) n ds c (omega (arith, is)) named.1 one)

pub named_more : (old new : ChoiceStrips) (n : ℕ) (choices : List AreaChoice) (c : AreaChoice) → n < length choices → c ≡ get_or choices n c → StillNamesChoices old new → NamesChoice new n c.chosen → AllFrom (λ n choice. NamesChoice old n choice.chosen) 0 (take n choices) → AllFrom (λ n choice. NamesChoice new n choice.chosen) 0 (take (n + 1) choices)
named_more old new n choices c lt is still one named =
    let many : n ≡ 0 + length (take n choices) = omega (arith, lt, length-take-le n choices (omega (arith, lt))) in
    subst (λ l. AllFrom (λ m choice. NamesChoice new m choice.chosen) 0 l) (ap (λ x. take n choices ++ x ∷ []) is ∙ sym (take_more choices n c lt)) (one_from new 0 n (take n choices) c many (still_from old new 0 (take n choices) still named) one)
