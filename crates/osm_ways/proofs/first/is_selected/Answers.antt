use Rattle.std.proofs.Common.{arith, rules, ◌≡◌, true, sym, ap, ◌∙◌, to_z, of_z, w64}
use Rattle.std.specs.FinSet as set
use Rattle.osm_ways.proofs.Shown.{in_other, in_union}
use Rattle.osm_ways.proofs.first.is_selected.Goals as goal
use Rattle.osm_ways.proofs.first.is_selected.Goals.{in-Node+then-has_near, in-Node+else-has_near, in-Way, in-Relation}

pub loop-member-init : goal.loop-member-init
loop-member-init c = record {
  can = tt;
  ends = tt;
  nodes = c.new-in_box.ensures c.args.box_ids.now;
  others = c.new-in_refs.ensures c.args.refs.now;
  ways = c.new-in_ways.ensures c.args.way_ids.now;
  left = search rules;
}

pub returns-then-is_selecting : goal.returns-then-is_selecting
returns-then-is_selecting c =
    elim c.match-member.branch [
      | in-Node+then-has_near w ↦
          let same : to_z w64 (of_z w64 c.in-Some.member.id) ≡ c.in-Some.member.id = search rules in
          let there : set.contains (set.union c.args.box_ids.now c.args.refs.now) c.in-Some.member.id ≡ true = in_union c.args.box_ids.now c.args.refs.now c.in-Some.member.id (ap (λ id. set.contains c.args.box_ids.now id) (sym same) ∙ (sym w.has_near.ensures.has ∙ w.if-has_near.true)) in
          grind (arith, there)
      | in-Node+else-has_near w ↦
          let same : to_z w64 (of_z w64 c.in-Some.member.id) ≡ c.in-Some.member.id = search rules in
          let other : set.contains (set.union c.args.box_ids.now c.args.refs.now) c.in-Some.member.id ≡ set.contains c.args.refs.now c.in-Some.member.id = in_other c.args.box_ids.now c.args.refs.now c.in-Some.member.id (ap (λ id. set.contains c.args.box_ids.now id) (sym same) ∙ (sym w.has_near.ensures.has ∙ w.if-has_near.false)) in
          grind (arith, other)
      | in-Way w ↦ grind arith
      | in-Relation w ↦ grind arith
    ]

pub loop-member-preserved : goal.loop-member-preserved
loop-member-preserved c =
    elim c.match-member.branch [
      | in-Node+then-has_near w ↦
          let same : to_z w64 (of_z w64 c.in-Some.member.id) ≡ c.in-Some.member.id = search rules in
          let there : set.contains (set.union c.args.box_ids.now c.args.refs.now) c.in-Some.member.id ≡ true = in_union c.args.box_ids.now c.args.refs.now c.in-Some.member.id (ap (λ id. set.contains c.args.box_ids.now id) (sym same) ∙ (sym w.has_near.ensures.has ∙ w.if-has_near.true)) in
          grind (arith, there)
      | in-Node+else-has_near w ↦
          let same : to_z w64 (of_z w64 c.in-Some.member.id) ≡ c.in-Some.member.id = search rules in
          let other : set.contains (set.union c.args.box_ids.now c.args.refs.now) c.in-Some.member.id ≡ set.contains c.args.refs.now c.in-Some.member.id = in_other c.args.box_ids.now c.args.refs.now c.in-Some.member.id (ap (λ id. set.contains c.args.box_ids.now id) (sym same) ∙ (sym w.has_near.ensures.has ∙ w.if-has_near.false)) in
          grind (arith, other)
      | in-Way w ↦ grind arith
      | in-Relation w ↦ grind arith
    ]
