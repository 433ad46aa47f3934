use Rattle.std.proofs.Common.{◌≡◌, pos, true, [], ◌∷◌, length}
use Rattle.osm_ways.specs.Selection.{way_member, a_node, a_way, a_relation, complete_ways, smart, extract}
use Rattle.osm_ways.proofs.laws.larger_strategy_is_needed.Goals as goal

-- a node inside, a way through it, a way elsewhere, and a relation of both: the cut by complete ways drops the way that the smart one adds
pub returns : goal.returns
returns c law =
    let town = a_node (pos 1) true ∷ a_way (pos 1) (pos 1 ∷ []) ∷ a_way (pos 2) (pos 2 ∷ []) ∷ a_relation (pos 1) true (way_member (pos 1) ∷ way_member (pos 2) ∷ []) ∷ [] in
    let three_is_four : length (extract (smart (λ _. true)) (λ e. e) (extract complete_ways (λ e. e) town)) ≡ length (extract (smart (λ _. true)) (λ e. e) town) = λ i. length (law (λ _. true) (λ e. e) town i) in
    absurd (cc)
