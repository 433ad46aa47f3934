use Rattle.std.proofs.Common.{List, ℕ, map, ap, ◌∙◌}
use Rattle.pbf_wire.specs.Signed.{unzigzag}
use Rattle.pbf_block.specs.PrimitiveBlock.{streaming}
use Rattle.pbf_block.proofs.PlainLemmas.{plain_refs}
use Rattle.pbf_block.proofs.plain.PlainWay.refs.Goals as goal

pub returns : goal.returns
returns c = λ at m p.
    c.new.ensures ∙ ap (λ (ns : List ℕ). streaming.values (map unzigzag ns)) (c.packed.ensures ∙ plain_refs c.args.self.now at m p)
