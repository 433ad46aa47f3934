use Rattle.std.proofs.Common.{◌∙◌, [], ap, subst, sym}
use Rattle.pbf_strings.specs.TableOut.{table_message}
use Rattle.pbf_dense.specs.WrittenDense.{HoldsNodes}
use Rattle.pbf_block.specs.WrittenBlock.{texts_of_all, nodes_among}
use Rattle.osm_pack.proofs.OpenLemmas.{group_whole, nothing_else, group_held}
use Rattle.osm_pack.proofs.open_block.OpenBlock.end_group.Goals as goal

pub returns-clause-closing : goal.returns-clause-closing
returns-clause-closing g c = λ es h.
    let nodes = subst (λ out. HoldsNodes out (texts_of_all es) (nodes_among es)) (sym c.replace.ensures.value) h.nodes in
    let dense = c.deref.ensures.value ∙ c.in_ok-dense.ensures (texts_of_all es) [] (nodes_among es) nodes in
    record {
      block = h.block;
      table = ap table_message h.texts;
      group = group_whole c.args.self.now es c.deref.result.now c.put_dense.new.group.items h dense c.in_ok-put_dense.ensures;
      rest = nothing_else c.args.self.now es c.clear.new.self c.replace.new.dest h c.clear.ensures (subst (λ out. HoldsNodes out [] []) (sym c.replace.ensures.after) (c.new.ensures []));
    }

pub returns-clause-room : goal.returns-clause-room
returns-clause-room g c = λ es h. group_held c.args.self.now es c.put_dense.new.group.items h (returns-clause-closing g c es h).group
