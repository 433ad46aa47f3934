use Rattle.std.proofs.Common.{◌≡◌, ◌++◌, map, drop}
use Rattle.pbf_wire.specs.Message.{Each, slot_bytes}
use Rattle.pbf_header.specs.Header.{text_of}
use Rattle.pbf_header.proofs.write.put_each_text.Given as goal

-- what was put and the texts that are left are all
abbrev pub invariant-loop-text : goal.invariant-loop-text
invariant-loop-text l = l.out.items ++ slot_bytes (Each l.number (map text_of (drop l.text-index l.texts))) ≡ l.fn.out.items ++ slot_bytes (Each l.fn.number (map text_of l.fn.texts))
