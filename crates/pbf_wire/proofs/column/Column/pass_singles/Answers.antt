use Rattle.std.proofs.Common.{◌-◌, length, take, refl, subst, sym}
use Rattle.std.proofs.lemmas.List.{take_rest}
use Rattle.pbf_wire.specs.Cursors.{column_left}
use Rattle.pbf_wire.proofs.SingleLemmas.{AllSingle, front_is, singles_passed}
use Rattle.pbf_wire.proofs.column.Column.pass_singles.Goals as goal

pub returns-clause-passed : goal.returns-clause-passed
unfolding column_left
returns-clause-passed c =
    let s = c.args.self.now in
    let within = take c.min.result s.packed.now in
    let h = c.after_singles.ensures in
    let count = length within - length c.after_singles.result.now in
    let front = take count s.packed.now in
    let is = front_is within c.after_singles.result.now h s.packed.now c.min.result refl in
    rw take_rest (singles_passed s front count refl (subst AllSingle (sym is) h.each))
