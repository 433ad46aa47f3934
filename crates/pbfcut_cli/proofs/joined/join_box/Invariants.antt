use Rattle.std.proofs.Common.{◌≡◌, ◌++◌, length, map, string_bytes}
use Rattle.pbfcut_cli.specs.Joined.{box_joined}
use Rattle.pbfcut_cli.proofs.joined.join_box.Given as goal

-- the words that are gone were joined
abbrev pub invariant-loop-first : goal.invariant-loop-first
invariant-loop-first l = map string_bytes l.joined.items ++ box_joined (map string_bytes l.rest) ≡ box_joined (map string_bytes l.words)

abbrev pub decreases-loop-first : goal.decreases-loop-first
decreases-loop-first l = length l.rest
