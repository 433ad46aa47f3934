use Rattle.std.proofs.Common.{SFits, w32, w64, to_z-of_z, rules}
use Rattle.pbf_block.proofs.PlainLemmas.{plain_meta}
use Rattle.pbf_block.proofs.plain.PlainWay.meta.Goals as goal

pub returns : goal.returns
returns c = λ at m p.
    let version : SFits w32 c.low_i32.result = search rules in
    let timestamp : SFits w64 c.low_i64.result = search rules in
    let changeset : SFits w64 c.low_i64-2.result = search rules in
    let uid : SFits w32 c.low_i32-2.result = search rules in
    rw (to_z-of_z version, c.low_i32.ensures, to_z-of_z timestamp, c.low_i64.ensures, to_z-of_z changeset, c.low_i64-2.ensures, to_z-of_z uid, c.low_i32-2.ensures, c.text.ensures, c.low_u32.ensures)
    (plain_meta c.args.self.now c.in_ok-info.info c.args.table.now at m p c.in_ok-info.ensures)
