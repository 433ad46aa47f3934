use Rattle.std.proofs.Common.{◌≡◌, ◌++◌, map}
use Rattle.std.specs.List.{AllByRecursion}
use Rattle.osm_entity.specs.Sources.{members_left}
use Rattle.osm_entity.specs.Ranges.{MemberFits}
use Rattle.pbf_block.specs.WrittenEntity.{kind_number}
use Rattle.pbf_block.proofs.EntityLemmas.{RolesPut}
use Rattle.pbf_block.proofs.entity_write.put_member_fields.Given as goal

-- the numbers so far and those that are left are all
abbrev pub invariant-loop-member : goal.invariant-loop-member
invariant-loop-member g l = record {
  can : (goal.iterator-loop-member g).can_next l.member-iterator;
  ends : (goal.iterator-loop-member g).is_finite l.member-iterator;
  fits : AllByRecursion MemberFits (members_left l.member-iterator);
  roles : RolesPut l.fn.table (members_left l.fn.members) l.table l.roles (members_left l.member-iterator);
  ids : l.ids ++ map (λ m. m.id) (members_left l.member-iterator) ≡ map (λ m. m.id) (members_left l.fn.members);
  kinds : l.kinds ++ map (λ m. kind_number m.kind) (members_left l.member-iterator) ≡ map (λ m. kind_number m.kind) (members_left l.fn.members);
}
