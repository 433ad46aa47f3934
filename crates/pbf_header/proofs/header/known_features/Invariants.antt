use Rattle.std.proofs.Common.{◌≡◌, ◌++◌, map, drop}
use Rattle.pbf_header.specs.Header.{text_of}
use Rattle.pbf_header.specs.WrittenHeader.{known_features}
use Rattle.pbf_header.proofs.header.known_features.Given as goal

-- the features so far and those that are left are all
abbrev pub invariant-loop-feature : goal.invariant-loop-feature
invariant-loop-feature l = map text_of l.features.items ++ map (λ f. f.now) (drop l.feature-index l.feature-items) ≡ known_features
