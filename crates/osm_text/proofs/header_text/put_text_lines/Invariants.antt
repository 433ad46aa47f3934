use Rattle.std.proofs.Common.{◌≡◌, ◌++◌, map, take}
use Rattle.pbf_header.specs.Header.{text_of}
use Rattle.osm_text.specs.HeaderText.{text_lines}
use Rattle.osm_text.proofs.header_text.put_text_lines.Given as goal

-- the lines of the texts that are gone were put
abbrev pub invariant-loop-text : goal.invariant-loop-text
invariant-loop-text l = l.out.items ≡ l.fn.out.items ++ text_lines l.word (map text_of (take l.text-index l.texts))
