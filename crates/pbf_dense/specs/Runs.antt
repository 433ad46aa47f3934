-- The tags of dense nodes: runs of keys and values, each with a 0 in key place after it.
use Rattle.std.specs.Prelude.{ℕ, zero, suc, List, [], ◌∷◌, map, slice_index_or}
use Rattle.osm_entity.specs.Entity.{TagSpec}
use Rattle.osm_entity.specs.Sources.{tag_of}

-- the runs with this pair added at the start of the first; if there is none, a run of only this pair
abbrev pub with_pair : ℕ × ℕ → List (List (ℕ × ℕ)) → List (List (ℕ × ℕ))
with_pair pair [] = (pair ∷ []) ∷ []
with_pair pair (run ∷ later) = (pair ∷ run) ∷ later

-- the runs in a column: a run is pairs of a key and its value, and a 0 in key place ends it; a last key that has no value counts for nothing
abbrev pub runs_in : List ℕ → List (List (ℕ × ℕ))
runs_in [] = []
runs_in (zero ∷ rest) = [] ∷ runs_in rest
runs_in (suc key ∷ []) = []
runs_in (suc key ∷ value ∷ rest) = with_pair (suc key, value) (runs_in rest)

-- the tags of node i: run i, and none if there are fewer runs
unfoldable pub tags_at : List (List ℕ) → List ℕ → ℕ → List TagSpec
tags_at table column i = map (tag_of table) (slice_index_or (runs_in column) i [])

-- what comes after the next 0 in key place
abbrev pub after_run : List ℕ → List ℕ
after_run [] = []
after_run (zero ∷ rest) = rest
after_run (suc key ∷ []) = []
after_run (suc key ∷ value ∷ rest) = after_run rest

-- what comes after the next n of them
abbrev pub after_runs : ℕ → List ℕ → List ℕ
after_runs zero column = column
after_runs (suc n) column = after_run (after_runs n column)
