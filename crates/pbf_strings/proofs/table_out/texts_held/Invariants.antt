use Rattle.std.proofs.Common.{◌≡◌, ◌-◌, ◌^◌, min, take, map}
use Rattle.std.specs.List.{sum_by}
use Rattle.pbf_strings.specs.TableOut.{text_held}
use Rattle.pbf_strings.proofs.table_out.texts_held.Given as goal

abbrev pub invariant-loop-text : goal.invariant-loop-text
invariant-loop-text l = l.held ≡ min (2 ^ 64 - 1) (sum_by text_held (map (λ text. text.items) (take l.text-index l.texts)))
