use Rattle.std.proofs.Common.{◌≡◌, ◌++◌, rules}
use Rattle.osm_text.specs.EntityText.{ref_text, location_text}
use Rattle.osm_text.proofs.TextLemmas.{refs_located}
use Rattle.osm_text.proofs.entity_text.put_refs.Goals as goal

pub loop-id-preserved-in-Continue-branch-2 : goal.loop-id-preserved-in-Continue-branch-2
loop-id-preserved-in-Continue-branch-2 c =
    let ref : c.put_ref.new.out.items ≡ c.loop-id.out.items ++ ref_text c.in-Some.id = search rules in
    let place : c.put_location.new.out.items ≡ c.put_ref.new.out.items ++ location_text (c.in-Some-next.lat, c.in-Some-next.lon) = search rules in
    record {
      can = search rules;
      ends = search rules;
      so_far = refs_located _ _ _ _ c.in-Some.id (c.in-Some-next.lat, c.in-Some-next.lon) _ _ _ _ c.in-Some.ensures.steps c.in-Some-next.ensures.steps c.loop-id.invariant.so_far ref place;
    }
