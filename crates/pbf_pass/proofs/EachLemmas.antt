-- Several visitors or gatherers in one pass.
use Rattle.std.proofs.Common.{◌≡◌, ◌∙◌, ◌⊎◌, inl, inr, ℕ, List, [], ◌∷◌, ◌++◌, length, take, drop, map, Option, refl, sym, ap, subst, arith}
use Rattle.std.specs.List.{AllZip, fold}
use Rattle.std.proofs.lemmas.List.{append-nil, drop_all, map-id, take_all}
use Rattle.osm_entity.specs.Entity.{EntitySpec}
use Rattle.pbf_frame.proofs.VerdictLemmas.{gone_more}
use Rattle.pbf_frame.specs.declared.stop.Stop.{Stop}
use Rattle.pbf_frame.specs.Frames.{FrameSpec}
use Rattle.pbf_frame.specs.Verdict.{Verdict}
use Rattle.pbf_pass.specs.declared.pass.Pass.{Pass}
use Rattle.pbf_pass.specs.Counting.{stored_entities}
use Rattle.pbf_pass.specs.Pass.{TakesFile}
use Rattle.pbf_pass.proofs.VisitLemmas.{visited_more}
use Rattle.pbf_pass.specs.Each.{EachStops, EachTakesFile, EachTook, EachVisitsAll, OneFailed, VisitsFront, each_gathered}
use Rattle.pbf_pass.specs.Visit.{Takes, StopRule, Visited, VisitsAll, StopsVisit}

-- a list that is written back whole
pub all_back : {T : Type 0} (n : ℕ) (olds news : List T) → n ≡ length olds → length news ≡ length olds → take n (news ++ drop (length news) olds) ≡ news
all_back n olds news is same = grind (arith, append-nil news, drop_all, take_all)

-- ---- what holds of two lists, place by place

all_same : {X : Type 0} (R : X → X → Type 0) → ((x : X) → R x x) → (xs : List X) → AllZip R xs xs
all_same R h [] = tt
all_same R h (x ∷ xs) = (h x, all_same R h xs)

pub all_mapped : {X : Type 0} (f : X → X) (xs : List X) → AllZip (λ x y. y ≡ f x) xs (map f xs)
all_mapped f [] = tt
all_mapped f (x ∷ xs) = (refl, all_mapped f xs)

all_then : {X : Type 0} (R Q P : X → X → Type 0) → ((x y z : X) → R x y → Q y z → P x z) → (xs ys zs : List X) → AllZip R xs ys → AllZip Q ys zs → AllZip P xs zs
all_then R Q P h [] [] [] all more = tt
all_then R Q P h (x ∷ xs) (y ∷ ys) (z ∷ zs) all more = (h x y z all.0 more.0, all_then R Q P h xs ys zs all.1 more.1)
all_then R Q P h [] [] (z ∷ zs) all more = absurd more
all_then R Q P h (x ∷ xs) (y ∷ ys) [] all more = absurd more
all_then R Q P h [] (y ∷ ys) zs all more = absurd all
all_then R Q P h (x ∷ xs) [] zs all more = absurd all

all_weaker : {X : Type 0} (R Q : X → X → Type 0) → ((x y : X) → R x y → Q x y) → (xs ys : List X) → AllZip R xs ys → AllZip Q xs ys
all_weaker R Q h xs ys all = all_then (λ x y. x ≡ y) R Q (λ x y z same one. h x z (subst (λ w. R w z) (sym same) one)) xs xs ys (all_same _ (λ x. refl) xs) all

-- ---- gatherers

-- an entity that leaves each as it is leaves all of them so
pub none_gathered : {G : Type 0} (f : G → G) (each : List G) → ((g : G) → f g ≡ g) → map f each ≡ each
none_gathered f each same = ap (λ h. map h each) (λ i g. same g i) ∙ map-id each

map_twice : {A B C : Type 0} (f : A → B) (g : B → C) (xs : List A) → map g (map f xs) ≡ map (λ (x : A). g (f x)) xs
map_twice f g [] = refl
map_twice f g (x ∷ xs) = ap (λ rest. g (f x) ∷ rest) (map_twice f g xs)

-- a fold over several is several folds
pub fold_each : {S E : Type 0} (step : S → E → S) (each : List S) (es : List E) → fold (λ some e. map (λ (s : S). step s e) some) each es ≡ map (λ (s : S). fold step s es) each
fold_each step each [] = sym (map-id each)
fold_each {S} step each (e ∷ es) = fold_each step (map (λ (s : S). step s e) each) es ∙ map_twice (λ (s : S). step s e) (λ (s : S). fold step s es) each

pub each_takes_file : {G : Type 0} (gathered : G → EntitySpec → G) (known : Option Verdict) (befores nows : List G) (pass : Pass) → TakesFile (each_gathered gathered) known befores nows pass → EachTakesFile gathered known befores nows pass
each_takes_file gathered known befores nows pass t = subst (λ l. EachTakesFile gathered known befores l pass) (sym (t.gathered_all ∙ fold_each gathered befores es))
    (all_weaker _ _ (λ before now is. record { frames = t.frames; says = t.says; counted = t.counted; header = t.header; gathered_all = is }) befores _ (all_mapped (λ g. fold gathered g es) befores)) where
      es : List EntitySpec
      es = stored_entities t.frames

-- ---- visitors

module _ {V : Type 0} (took : Takes V) where
  pub each_visited : (fs : List FrameSpec) (olds news : List V) → Visited (EachTook took) olds fs news → AllZip (λ old new. Visited took old fs new) olds news
  each_visited [] olds news same = subst (λ l. AllZip (λ old new. Visited took old [] new) olds l) (sym same) (all_same _ (λ v. refl) olds)
  each_visited (f ∷ fs) olds news v = all_then (λ old mid. took old f mid) (λ mid new. Visited took mid fs new) (λ old new. Visited took old (f ∷ fs) new) (λ old mid new one more. (mid, one, more)) olds v.0 news v.1 (each_visited fs v.0 news v.2)

  pub each_visits : (known : Option Verdict) (count : ℕ) (olds news : List V) → VisitsAll (EachTook took) known count olds news → EachVisitsAll took known count olds news
  each_visits known count olds news v = all_weaker _ _ (λ old new visited. record { frames = v.frames; says = v.says; counted = v.counted; visited = visited }) olds news (each_visited v.frames olds news v.visited)

  module _ (failed : StopRule V) (stop : Stop) where
    -- what one of them did with the frame at which one stopped
    abbrev Ended : FrameSpec → V → V → Type 0
    Ended f old new = took old f new ⊎ failed old f new stop ⊎ (new ≡ old)

    each_ended : (f : FrameSpec) (olds news : List V) → OneFailed took failed olds f news stop → AllZip (Ended f) olds news
    each_ended f (old ∷ olds) (new ∷ news) (inl here) = (inr (inl here.0), subst (λ l. AllZip (Ended f) olds l) (sym here.1) (all_same (Ended f) (λ v. inr (inr refl)) olds))
    each_ended f (old ∷ olds) (new ∷ news) (inr later) = (inl later.0, each_ended f olds news later.1)
    each_ended f [] news one = absurd one
    each_ended f (old ∷ olds) [] one = absurd one

    pub each_stops : (known : Option Verdict) (read : Type 0) (olds news : List V) → StopsVisit (EachTook took) (OneFailed took failed) known read olds news stop → EachStops took failed known read olds news stop
    each_stops known read olds news (inl s) = all_weaker _ _ (λ old new visited. inl (inl (record { frames = s.frames; rest = s.rest; gone = s.gone; visited = visited; caused = s.caused }))) olds news (each_visited s.frames olds news s.visited)
    each_stops known read olds news (inr s) = all_then _ (Ended s.frame) _ step olds s.mid news (each_visited s.frames olds s.mid s.visited) (each_ended s.frame s.mid news s.failing) where
      step : (old mid new : V) → Visited took old s.frames mid → Ended s.frame mid new → StopsVisit took failed known read old new stop ⊎ VisitsFront took known old new
      step old mid new visited (inl one) = inr (record { frames = s.frames ++ s.frame ∷ []; rest = s.rest; gone = gone_more known _ s.rest s.frames s.frame s.gone refl; visited = visited_more took s.frames s.frame old mid new visited one })
      step old mid new visited (inr (inl here)) = inl (inr (record { frames = s.frames; frame = s.frame; rest = s.rest; gone = s.gone; mid = mid; visited = visited; failing = here }))
      step old mid new visited (inr (inr same)) = inr (record { frames = s.frames; rest = _; gone = s.gone; visited = subst (λ v. Visited took old s.frames v) (sym same) visited })
