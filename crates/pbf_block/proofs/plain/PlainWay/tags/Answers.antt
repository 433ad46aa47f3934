use Rattle.std.proofs.Common.{List, ℕ, ap, ◌∙◌}
use Rattle.pbf_wire.specs.Columns.{column}
use Rattle.pbf_wire.specs.Cursors.{numbers_left}
use Rattle.pbf_wire.specs.Faults.{fields_in}
use Rattle.osm_entity.specs.Sources.{paired_tags}
use Rattle.pbf_block.specs.declared.entity.TheConstants.{KEYS}
use Rattle.pbf_block.proofs.PlainLemmas.{plain_keys, plain_vals}
use Rattle.pbf_block.proofs.plain.PlainWay.tags.Goals as goal

pub returns : goal.returns
returns c = λ at m p.
    let way = c.args.self.now in
    let table = c.args.table.now in
    c.new.ensures
    ∙ ap (λ (ns : List ℕ). paired_tags table ns (numbers_left c.packed-vals.result)) (c.packed-keys.ensures ∙ plain_keys way at m p)
    ∙ ap (λ (ns : List ℕ). paired_tags table (column KEYS (fields_in at m)) ns) (c.packed-vals.ensures ∙ plain_vals way at m p)
