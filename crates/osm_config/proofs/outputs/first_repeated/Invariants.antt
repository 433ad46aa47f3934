use Rattle.std.proofs.Common.{◌≡◌, ◌+◌, map, length}
use Rattle.std.specs.String.{string_bytes}
use Rattle.osm_config.proofs.OutputLemmas.{IsSeen}
use Rattle.osm_config.proofs.outputs.first_repeated.Given as goal

-- the outputs that were counted were seen
abbrev pub invariant-extracts : goal.invariant-extracts
invariant-extracts l = record {
  seen : IsSeen l.seen.keys l.count (map (λ e. string_bytes e.output) l.rest) (map (λ e. string_bytes e.output) l.fn.extracts);
  all : l.count + length l.rest ≡ length l.fn.extracts;
}

abbrev pub decreases-extracts : goal.decreases-extracts
decreases-extracts l = length l.rest
