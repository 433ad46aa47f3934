-- The parts of a box's text, as bytes.
use Rattle.osm_box.specs.Degrees as degrees
use Rattle.osm_box.specs.declared.degrees.Parts.{Parts}

abbrev pub texts_of : Parts → degrees.Parts
texts_of p = record {
  left = p.left.now;
  bottom = p.bottom.now;
  right = p.right.now;
  top = p.top.now;
}
