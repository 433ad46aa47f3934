use Rattle.std.proofs.Common.{rules, tests, ◌∙◌, ℕ, nat_eq}
use Rattle.std.specs.Cmp.Lexicographic.{pointwise}
use Rattle.std.specs.Global.{Vec}
use Rattle.std.proofs.lemmas.Iterator.{YieldsList-from_slice}
use Rattle.std.proofs.lemmas.Iterator.Search.{any_from_yields_List}
use Rattle.pbf_header.proofs.HeaderLemmas.{has_held}
use Rattle.pbf_header.proofs.header.has.Goals as goal

pub returns : goal.returns
returns c =
    any_from_yields_List (λ (t : Vec ℕ). pointwise nat_eq c.args.text.now t.items) _ _ _ c.any.ensures.ran (YieldsList-from_slice c.args.texts.now c.iter.ensures.rest) (λ x b q k. search (rules, tests))
    ∙ has_held c.args.text.now c.args.texts.now
