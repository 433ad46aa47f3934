use Rattle.std.proofs.Common.{◌≡◌, ◌++◌, take, map}
use Rattle.pbf_wire.specs.Message.{Each, slot_bytes}
use Rattle.pbf_strings.proofs.table_out.put_texts.Given as goal

abbrev pub invariant-loop-text : goal.invariant-loop-text
invariant-loop-text l = l.out.items ≡ l.fn.out.items ++ slot_bytes (Each 1 (map (λ text. text.items) (take l.text-index l.texts)))
