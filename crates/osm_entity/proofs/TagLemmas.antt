-- Runs of keys and values, step by step.
use Rattle.std.proofs.Common.{◌≡◌, ℕ, ◌<◌, zero, suc, List, [], ◌∷◌, refl, arith}
use Rattle.std.specs.List.{zip}
use Rattle.osm_entity.specs.Sources.{run}
pub use Rattle.pbf_wire.specs.Occurrence.{items_past}

pub run_ends : (key : ℕ) (rest : List ℕ) → key ≡ 0 → run (key ∷ rest) ≡ []
run_ends zero rest h = refl
run_ends (suc key) rest h = absurd (omega arith)

pub run_cut : (key : ℕ) → run (key ∷ []) ≡ []
run_cut zero = refl
run_cut (suc key) = refl

pub run_goes_on : (key value : ℕ) (rest : List ℕ) → 0 < key → run (key ∷ value ∷ rest) ≡ (key, value) ∷ run rest
run_goes_on zero value rest h = absurd (omega arith)
run_goes_on (suc key) value rest h = refl

pub ruleset run_steps = (run_ends, run_cut, run_goes_on)

-- ---- columns side by side

pub zip_nothing : {X Y : Type 0} (xs : List X) → zip {K = X} {X = Y} xs [] ≡ []
zip_nothing [] = refl
zip_nothing (x ∷ xs) = refl
