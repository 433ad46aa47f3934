use Rattle.std.proofs.Common.{rules}
use Rattle.osm_box.proofs.Numbers.{scaled_small}
use Rattle.osm_box.proofs.degrees.nanos.Goals as goal

pub overflow_add-result : goal.overflow_add-result
overflow_add-result c =
    let small = scaled_small c.args.rest c.args.count c.requires.few c.requires.fits in
    search (rules, small)

pub overflow_cast-result : goal.overflow_cast-result
overflow_cast-result c =
    let small = scaled_small c.args.rest c.args.count c.requires.few c.requires.fits in
    search (rules, small)

pub returns-clause-value : goal.returns-clause-value
returns-clause-value c =
    let small = scaled_small c.args.rest c.args.count c.requires.few c.requires.fits in
    search (rules, small)

pub returns-clause-small : goal.returns-clause-small
returns-clause-small c =
    let small = scaled_small c.args.rest c.args.count c.requires.few c.requires.fits in
    search (rules, small)
