use Rattle.std.proofs.Common.{rules, w64}
use mir.Val.{SFits}
use Rattle.std.proofs.lemmas.Int.{to_z-of_z}
use Rattle.pbf_wire.proofs.NextLemmas.{next_is}
use Rattle.pbf_wire.proofs.sums.Sums.next_near.Goals as goal

pub returns : goal.returns
returns c =
    let old = c.args.self.now in
    let new = c.add_near.new.self in
    let e = c.in-Some.ensures.number in
    let fits : SFits w64 new.total = search rules in
    rw (to_z-of_z w64 new.total fits) (next_is old new _ c.args.narrow c.in-Some.number c.requires e.1 e.0 c.add_near.ensures.total c.add_near.ensures.entries c.add_near.ensures.same.0 c.add_near.ensures.same.1)
