-- What all entities of a block have in common.
use Rattle.std.specs.Prelude.{◌≡◌, Bool, true, false, ◌&&◌, Option, Some, None}
use Rattle.std.specs.Option.{is_some}
use Rattle.osm_entity.specs.declared.member.MemberKind.{MemberKind}
use Rattle.osm_entity.specs.declared.member.MemberKind.TheVariants as kind
use Rattle.osm_entity.specs.Entity.{MetaSpec, NodeSpec, EntitySpec, node, way, relation}
use Rattle.pbf_block.specs.WrittenBlock.{iff, same_scale}
use Rattle.osm_pack.specs.declared.likeness.PresentFields.{PresentFields}
use Rattle.osm_pack.specs.declared.likeness.Likeness.{Likeness}

-- which fields of metadata are present
abbrev pub present_fields : MetaSpec → PresentFields
present_fields m = record {
  version = is_some m.version;
  timestamp = is_some m.timestamp;
  changeset = is_some m.changeset;
  uid = is_some m.uid;
  user = is_some m.user;
  visible = is_some m.visible;
}

-- ways and relations have messages of their own, where it doesn't matter which fields others have
abbrev pub no_fields : PresentFields
no_fields = record { version = false; timestamp = false; changeset = false; uid = false; user = false; visible = false }

abbrev pub likeness_of : EntitySpec → Likeness
likeness_of (node n) = record { kind = kind.Node; scale = n.scale; fields = present_fields n.meta }
likeness_of (way w) = record { kind = kind.Way; scale = w.scale; fields = no_fields }
likeness_of (relation r) = record { kind = kind.Relation; scale = r.scale; fields = no_fields }

-- two nodes are of one scale, and have the same fields
abbrev pub IsLikeNode : NodeSpec → NodeSpec → Type 0
IsLikeNode other n = likeness_of (node n) ≡ likeness_of (node other)

abbrev pub same_kind : MemberKind → MemberKind → Bool
same_kind kind.Node kind.Node = true
same_kind kind.Way kind.Way = true
same_kind kind.Relation kind.Relation = true
same_kind _ _ = false

abbrev pub same_present : PresentFields → PresentFields → Bool
same_present f g =
    iff f.version g.version && iff f.timestamp g.timestamp && iff f.changeset g.changeset
    && iff f.uid g.uid && iff f.user g.user && iff f.visible g.visible

abbrev pub same_likeness : Likeness → Likeness → Bool
same_likeness s t = same_kind s.kind t.kind && (same_scale s.scale t.scale && same_present s.fields t.fields)

-- if there are entities, it is like theirs
abbrev pub is_like : Option Likeness → Likeness → Bool
is_like None other = true
is_like (Some likeness) other = same_likeness likeness other

-- there are entities, and it is like theirs
abbrev pub has_like : Option Likeness → Likeness → Bool
has_like None other = false
has_like (Some likeness) other = same_likeness likeness other
