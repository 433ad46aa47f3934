-- What is gathered for one of several areas, in a pass that it may not need.
use Rattle.std.specs.Prelude.{Bool, true, false}
use Rattle.osm_entity.specs.Entity.{EntitySpec}

-- what was gathered with an entity more, unless all were gathered before
abbrev pub gathered_unless : {S : Type 0} → (is_done : Bool) → (S → EntitySpec → S) → S → EntitySpec → S
gathered_unless true with_one so_far e = so_far
gathered_unless false with_one so_far e = with_one so_far e
