use Rattle.std.proofs.Common.{◌∙◌, ◌++◌, List, ℕ, ap}
use Rattle.pbf_strings.specs.TableOut.{table_message}
use Rattle.osm_pack.proofs.OpenLemmas.{table_held}
use Rattle.osm_pack.proofs.open_block.OpenBlock.table.Goals as goal

pub returns-clause-room : goal.returns-clause-room
returns-clause-room g c =
    table_held c.args.self.now c.write.new.out.items c.requires (c.in_ok-write.ensures ∙ ap (λ (bs : List ℕ). bs ++ table_message c.args.self.now.texts) c.new-table.ensures.items)
