use Rattle.std.proofs.Common.{rules, ◌++◌, ◌∷◌, [], List, subst}
use Rattle.std.proofs.lemmas.Result.{err_from_is_err_and}
use Rattle.osm_entity.specs.Entity.{EntitySpec}
use Rattle.pbf_block.specs.WrittenBlock.{is_block}
use Rattle.osm_pack.specs.Open.{Holds, IsJoining}
use Rattle.osm_pack.specs.View.{entity_shown}
use Rattle.osm_pack.proofs.OpenLemmas.{after_room}
use Rattle.osm_pack.proofs.frames.push_into.Goals as goal

pub add-requires-clause-is : goal.add-requires-clause-is
add-requires-clause-is g c = record { likeness = c.of.ensures; weight = c.requires.weighs }

pub add-requires-clause-may : goal.add-requires-clause-may
add-requires-clause-may g c =
    let is : IsJoining _ (entity_shown c.args.weighed.entity) = record { likeness = c.of.ensures; weight = c.requires.weighs } in
    record {
      «open» = c.in_ok-make_room.ensures.«open»;
      fits = c.requires.fits;
      joins = (c.in_ok-make_room.ensures.made (entity_shown c.args.weighed.entity) is c.requires.fits).joins;
    }

pub returns-clause-pending : goal.returns-clause-pending
returns-clause-pending g c = λ es h.
    let is : IsJoining _ (entity_shown c.args.weighed.entity) = record { likeness = c.of.ensures; weight = c.requires.weighs } in
    let made = c.in_ok-make_room.ensures.made (entity_shown c.args.weighed.entity) is c.requires.fits in
    subst (λ (now : List EntitySpec). Holds c.add.new.self now) (after_room (is_block (es ++ entity_shown c.args.weighed.entity ∷ [])) es (entity_shown c.args.weighed.entity)) (c.in_ok-add.ensures _ (made.pending es h))

pub returns-clause-open : goal.returns-clause-open
returns-clause-open g c =
    let was = c.requires.«open» in
    record { entities = _; held = returns-clause-pending g c was.entities was.held }

pub returns-clause-writes : goal.returns-clause-writes
returns-clause-writes g c = λ es h.
    let is : IsJoining _ (entity_shown c.args.weighed.entity) = record { likeness = c.of.ensures; weight = c.requires.weighs } in
    let made = (c.in_ok-make_room.ensures.made (entity_shown c.args.weighed.entity) is c.requires.fits).writes es h in
    record { written = made.written; front = made.front }

pub returns-in_err-make_room-clause-writes : goal.returns-in_err-make_room-clause-writes
returns-in_err-make_room-clause-writes g c = λ es h.
    let is : IsJoining _ (entity_shown c.args.weighed.entity) = record { likeness = c.of.ensures; weight = c.requires.weighs } in
    let p = err_from_is_err_and c.from_residual.result c.from_residual.ensures.1 in
    rw (p.1, p.2) (record { written = tt; front = ((c.in_err-make_room.ensures.made (entity_shown c.args.weighed.entity) is c.requires.fits).writes es h).front })

pub returns-in_err-add-clause-writes : goal.returns-in_err-add-clause-writes
returns-in_err-add-clause-writes g c = λ es h.
    let is : IsJoining _ (entity_shown c.args.weighed.entity) = record { likeness = c.of.ensures; weight = c.requires.weighs } in
    record { written = search rules; front = ((c.in_ok-make_room.ensures.made (entity_shown c.args.weighed.entity) is c.requires.fits).writes es h).front }
