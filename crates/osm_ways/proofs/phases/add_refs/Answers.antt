use Rattle.std.proofs.Common.{arith}
use Rattle.std.proofs.Common.{◌≡◌, ◌∷◌, true, ap, sym, ◌∙◌, rules, w64}
use mir.Val.{SFits}
use Rattle.std.specs.List.{fold}
use Rattle.std.specs.FinSet as set
use Rattle.std.proofs.lemmas.Int.{to_z-of_z}
use Rattle.osm_entity.specs.Sources.{refs_left}
use Rattle.osm_ways.specs.Phases.{Ids}
use Rattle.osm_ways.proofs.Shown.{union-insert, insert_known}
use Rattle.osm_ways.proofs.phases.add_refs.Goals as goal

pub loop-id-preserved-then-has_near : goal.loop-id-preserved-then-has_near
loop-id-preserved-then-has_near g c =
    let l = c.loop-id in
    let known = g.I.IdLookup.ids c.args.known.now in
    let id = c.in-Some.id in
    let rest = refs_left c.next.new.self in
    let fits : SFits w64 id = search rules in
    let turn : refs_left l.id-iterator ≡ id ∷ rest = c.in-Some.ensures.steps in
    let here : set.contains known id ≡ true = ap (set.contains known) (sym (to_z-of_z w64 id fits)) ∙ sym c.has_near.ensures.has ∙ c.if-has_near.true in
    record {
      can = tt;
      ends = tt;
      of = c.has_near.ensures.of;
      so_far = ap (λ (s : Ids). fold set.insert s rest) (sym (insert_known known l.ids id here)) ∙ ap (fold set.insert (set.union known l.ids)) (sym turn) ∙ l.invariant.so_far;
    }

pub loop-id-preserved : goal.loop-id-preserved
loop-id-preserved g c = grind (arith, c.in-Some.ensures.steps, c.in_ok-add.ensures.ok, to_z-of_z w64 c.in-Some.id (search rules), c.has_near.ensures.of, union-insert (g.I.IdLookup.ids c.args.known.now) c.loop-id.ids c.in-Some.id, c.loop-id.invariant.so_far)
