-- What the fields of all groups give, one after the other, is what the groups give.
use Rattle.std.proofs.Common.{◌≡◌, Bool, true, List, [], ◌∷◌, ◌++◌, refl, ap₂, ◌∙◌}
use Rattle.std.specs.Prelude.{if◌then◌else◌, ◌==◌}
use Rattle.std.specs.List.{flat_map}
use Rattle.std.proofs.lemmas.Grind.{flat_map-append}
use Rattle.pbf_wire.specs.Faults.{inside, fields_in}
use Rattle.pbf_wire.specs.Occurrence.{Content, Bytes, Occurrence}
use Rattle.pbf_block.specs.declared.primitive_block.TheConstants.{PRIMITIVEGROUP}
use Rattle.pbf_block.specs.Group.{in_group}
use Rattle.pbf_block.specs.Runs.{group_members}

module _ {X : Type 0} (f : Occurrence → List X) where
  content_gives : (b : Bool) (c : Content) → flat_map f (if b then inside fields_in c else []) ≡ (if b then inside (λ at m. flat_map f (fields_in at m)) c else [])
  content_gives true (Bytes bytes at) = refl
  content_gives b c = refl

  pub members_give : (os : List Occurrence) → flat_map f (flat_map group_members os) ≡ flat_map (in_group f) os
  members_give [] = refl
  members_give (o ∷ os) = flat_map-append f (group_members o) (flat_map group_members os) ∙ ap₂ (λ (a b : List X). a ++ b) (content_gives (o.number == PRIMITIVEGROUP) o.content) (members_give os)
