use Rattle.std.proofs.Common.{arith, rules}
use Rattle.std.proofs.lemmas.List.{length_push}
use Rattle.osm_polygon.proofs.StripLemmas.{no_edges, none_held}
use Rattle.osm_polygon.proofs.strips.empty_strips.Goals as goal

pub loop-number-preserved : goal.loop-number-preserved
loop-number-preserved c =
    let so_far = c.loop-number.invariant in
    let none = c.new.ensures.items in
    rw c.in_ok-push.ensures.items (record {
      are = no_edges c.args.cut.axis c.args.cut.shift c.args.cut.first c.loop-number.strips.items (record { edges = c.new.result }) so_far.are none;
      number = omega (arith, so_far.number, length_push c.loop-number.strips.items (record { edges = c.new.result }));
      ends = search (rules, so_far.ends);
      none = none_held c.loop-number.strips.items (record { edges = c.new.result }) so_far.none none;
    })
