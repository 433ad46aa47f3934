use Rattle.std.proofs.Common.{◌≡◌, [], map, drop}
use Rattle.json.specs.Value.{members_view}
use Rattle.osm_config.specs.Members.{names_after}
use Rattle.osm_config.proofs.names.judge_names.Given as goal

-- the members that are left give from here what all give from the start
abbrev pub invariant-loop-member : goal.invariant-loop-member
invariant-loop-member l = names_after l.fn.extract l.fn.object (map (λ n. n.now) l.seen.items) (members_view (drop l.member-index l.member-items)) ≡ names_after l.fn.extract l.fn.object [] (members_view l.member-items)
