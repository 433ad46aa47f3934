use Rattle.std.proofs.Common.{◌≡◌, pos, true, false, List, [], ◌∷◌}
use Rattle.osm_ways.specs.Selection.{Seen, a_node}
use Rattle.osm_ways.proofs.laws.larger_look_is_needed.Goals as goal

-- a node that is inside by the small look only
pub returns : goal.returns
returns c law =
    let empty_is_one : ◌≡◌ {A = List Seen} [] (a_node (pos 1) true ∷ []) = law (λ _. a_node (pos 1) true) (λ _. a_node (pos 1) false) (a_node (pos 1) true ∷ []) in
    absurd (cc)
