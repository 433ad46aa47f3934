-- A phase that takes nodes, with the area in which they have to lie.
use Rattle.osm_ways.specs.declared.in_area.InArea.{InArea}
use Rattle.osm_ways.specs.Selection.{Seen}

-- the phase takes what was seen of an entity, and the area stays
abbrev pub stepped : {A S : Type 0} → (S → Seen → S) → InArea A S → Seen → InArea A S
stepped step of seen = record of { phase = step of.phase seen }
