use Rattle.std.proofs.Common.{◌≡◌, ◌++◌, map, drop}
use Rattle.std.specs.Prelude.{filter}
use Rattle.pbf_strings.specs.TableOut.{has_text}
use Rattle.pbf_header.specs.Header.{text_of}
use Rattle.pbf_header.specs.WrittenHeader.{kept_features}
use Rattle.pbf_header.proofs.header.kept_features.Given as goal

-- the features so far and those that are kept of the others are all
abbrev pub invariant-loop-feature : goal.invariant-loop-feature
invariant-loop-feature l =
    map text_of l.features.items ++ filter (has_text (map text_of l.fn.optional)) (map (λ f. f.now) (drop l.feature-index l.feature-items)) ≡ kept_features (map text_of l.fn.optional)
