use Rattle.std.proofs.Common.{map, refl, rules, w64}
use mir.Val.{SFits}
use Rattle.std.proofs.lemmas.Int.{to_z-of_z}
use Rattle.pbf_wire.specs.Cursors.{numbers_left}
use Rattle.osm_entity.specs.Sources.{low_32}
use Rattle.pbf_dense.specs.Cursors.{dense_left, info_left}
use Rattle.pbf_dense.proofs.MovingLemmas.{no_lats, one_node}
use Rattle.pbf_dense.proofs.dense.Dense.next_in.Goals as goal

pub returns-in_default-next : goal.returns-in_default-next
unfolding dense_left
returns-in_default-next c =
    let none = c.in_default-next.ensures.steps in (rw none.0 (no_lats _ _ _ _ _ _), rw none.1 (no_lats _ _ _ _ _ _))

pub returns : goal.returns
unfolding dense_left
returns c =
    let dense = c.args.self.now in
    let table = dense.table.now in
    let before = map low_32 (numbers_left dense.keys_vals) in
    let id : SFits w64 c.in-Some.id = search rules in
    let lat : SFits w64 c.in-Some-next.lat = search rules in
    let lon : SFits w64 c.in-Some-next-2.lon = search rules in
    one_node table dense.scale _ _ _ _ _ _ _ _ _ _ _ _ (info_left dense.info) _ before (map low_32 (numbers_left c.take_tags.new.numbers)) _ _ _ c.in-Some.ensures.steps c.in-Some-next.ensures.steps c.in-Some-next-2.ensures.steps
    (to_z-of_z w64 c.in-Some.id id) (to_z-of_z w64 c.in-Some-next.lat lat) (to_z-of_z w64 c.in-Some-next-2.lon lon)
    c.take_in.ensures.meta c.take_in.ensures.rest c.take_tags.ensures.tags c.take_tags.ensures.rest refl
