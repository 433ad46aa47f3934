use Rattle.std.proofs.Common.{arith, rules, subst, sym}
use Rattle.osm_ways.specs.ChoiceStrips.{NamesChoice}
use Rattle.pbfcut.specs.declared.carrying.AreaChoice.{AreaChoice}
use Rattle.pbfcut.proofs.WantedLemmas.{named_more}
use Rattle.pbfcut.proofs.wanted.name_choices.Goals as goal

pub choices-preserved : goal.choices-preserved
choices-preserved c =
    let so_far = c.choices.invariant in
    let n = c.choices.number in
    let is = c.index-choices-number.is in
    let one = subst (λ (a : AreaChoice). NamesChoice c.add.new.self n a.chosen) (sym is) c.in_ok-add.ensures.named in
    record {
      named = named_more c.choices.strips c.add.new.self n c.args.choices.now c.index-choices-number.result (omega (arith, c.choices-test.true, so_far.all)) is c.in_ok-add.ensures.still one so_far.named;
      ends = search rules;
      all = search rules;
    }
