use Rattle.std.proofs.Common.{rules, tests, ◌∙◌, ℕ, nat_eq}
use Rattle.std.specs.Cmp.Lexicographic.{pointwise}
use Rattle.std.specs.Global.{Vec}
use Rattle.std.proofs.lemmas.Iterator.{YieldsList-from_slice}
use Rattle.std.proofs.lemmas.Iterator.Search.{any_from_yields_List}
use Rattle.osm_ways.specs.Whole.{name_of}
use Rattle.osm_ways.proofs.Shown.{list_any-map}
use Rattle.osm_ways.proofs.whole.has_name.Goals as goal

pub returns : goal.returns
returns c =
    any_from_yields_List (λ (t : Vec ℕ). pointwise nat_eq c.args.name.now t.items) _ _ _ c.any.ensures.ran (YieldsList-from_slice c.args.names.now c.iter.ensures.rest) (λ x b q k. search (rules, tests))
    ∙ list_any-map (pointwise nat_eq c.args.name.now) name_of c.args.names.now
