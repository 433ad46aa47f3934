-- The edges of a box, as texts.
use Rattle.osm_box.specs.Degrees.{Parts}
use Rattle.osm_config.specs.declared.area.EdgeTexts.{EdgeTexts}

abbrev pub edge_parts : EdgeTexts → Parts
edge_parts e = record {
  left = e.left.now;
  bottom = e.bottom.now;
  right = e.right.now;
  top = e.top.now;
}
