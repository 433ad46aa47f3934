use Rattle.std.proofs.Common.{length, ◌≡◌, ◌∷◌, [], ◌++◌, sym, subst, arith, length-append, rules, w64}
use mir.Val.{SFits}
use Rattle.std.proofs.lemmas.Int.{to_z-of_z}
use Rattle.pbf_wire.specs.Varint.{shortest}
use Rattle.osm_ids.specs.declared.pages.SealedIds.TheInside.{Inside}
use Rattle.osm_ids.specs.Order.{IsAbove}
use Rattle.osm_ids.specs.Pages.{IsSealed, gap}
use Rattle.osm_ids.proofs.Sets.{Ids}
use Rattle.osm_ids.proofs.Places.{last_push}
use Rattle.osm_ids.proofs.Sealing.{new_page, longer_page, inserted, few_ids, sealed_ids}
use Rattle.osm_ids.proofs.pages.SealedIds.push.Goals as goal
use Rattle.osm_ids.proofs.pages.SealedIds.push.Goals.{Joined-self-eq0, then-self-eq0+in_ok-push, else-self-eq0+in_ok-put_varint}

-- either way there is one more id
after : (c : Joined-self-eq0) → IsSealed c.if-self-eq0.self-inside.index.items c.if-self-eq0.self-inside.bytes.items (c.self.invariant.0 ++ c.args.id ∷ [])
after c =
    let index = c.self.inside.index.items in
    let bytes = c.self.inside.bytes.items in
    let ids = c.self.invariant.0 in
    let sealed = c.self.invariant.1 in
    let id = c.args.id in
    let last = c.self.inside.last in
    let same = to_z-of_z w64 id c.ranges.id in
    let fits : SFits w64 last = search rules in
    let above = subst (λ (s : Ids). IsAbove s id) (sym c.self.view_is) c.requires in
    elim c.if-self-eq0.branch [
      | then-self-eq0+in_ok-push w ↦
          let place : w.len.result ≡ length bytes = omega (arith, w.len.ensures, c.self.inside.bytes.ok.0) in
          let begins : w.push.new.self.items ≡ index ++ record { first = id; place = length bytes } ∷ [] = grind (arith, w.in_ok-push.ensures.items, same, place) in
          let a = new_page index bytes ids sealed id above c.ranges.id (omega (arith, c.self.invariant.2, w.if-self-eq0.true)) in
          subst (λ (v : Inside). IsSealed v.index.items v.bytes.items (ids ++ id ∷ [])) (sym w.self-inside-is) (subst (λ i. IsSealed i bytes (ids ++ id ∷ [])) (sym begins) a)
      | else-self-eq0+in_ok-put_varint w ↦
          let more : w.put_varint.new.out.items ≡ bytes ++ shortest (gap last id) = grind (arith, w.in_ok-put_varint.ensures.ok, w.abs_diff.ensures, same, to_z-of_z w64 last fits) in
          let a = longer_page index bytes ids sealed id above c.ranges.id last c.self.invariant.3 (omega (arith, c.self.invariant.2, w.if-self-eq0.false)) in
          subst (λ (v : Inside). IsSealed v.index.items v.bytes.items (ids ++ id ∷ [])) (sym w.self-inside-is) (subst (λ b. IsSealed index b (ids ++ id ∷ [])) (sym more) a)
    ]

count : (c : Joined-self-eq0) → c.if-self-eq0.self-inside.count ≡ c.self.inside.count
count c = grind arith

pub overflow_add-self : goal.overflow_add-self
overflow_add-self c = grind (arith, few_ids, count c, c.self.invariant.2, length-append c.self.invariant.0 (c.args.id ∷ []))

pub invariant_of-self-2 : goal.invariant_of-self-2
invariant_of-self-2 c = grind (arith, after c.before.before, count c.before.before, length-append c.self.invariant.0 (c.args.id ∷ []), to_z-of_z w64 c.args.id c.ranges.id, last_push)

pub returns-clause-ok : goal.returns-clause-ok
returns-clause-ok c = grind (arith, inserted, sealed_ids, after c.before.before)
