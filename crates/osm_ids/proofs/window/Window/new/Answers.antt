use Rattle.std.proofs.Common.{arith}
use Rattle.std.proofs.lemmas.Int.{ints}
use Rattle.osm_ids.proofs.window.Window.new.Goals as goal

pub returns : goal.returns
returns c = λ ids.
    let page = c.new.ensures.kept ids in
    record {
      pages = (page, (page, (page, (page, (page, (page, (page, (page, tt))))))));
      next = omega arith;
      known = λ id above below. absurd (omega (arith, ints));
    }
