use Rattle.std.proofs.Common.{◌+◌, take, drop, sym}
use Rattle.std.proofs.lemmas.Result.{err_from_is_err_and}
use Rattle.pbf_block.specs.Runs.{run_entities}
use Rattle.pbfcut.specs.Pick.{picks_of}
use Rattle.pbfcut.specs.Wanted.{listed_entities}
use Rattle.pbfcut.proofs.PackingLemmas.{each_as, each_later, each_more}
use Rattle.pbfcut.proofs.WantedLemmas.{listed_more, listed_split}
use Rattle.pbfcut.proofs.pick.EntityPacker.pack_wanted.Goals as goal

pub loop-run-preserved : goal.loop-run-preserved
loop-run-preserved g c =
    let i = c.loop-run.run-index in
    let runs = c.args.wanted.now in
    let run = c.run-item.result in
    each_as g.D.Drain (picks_of c.args.self.now.picker) _ _ c.args.self.now c.pack_run.new.self c.args.packer.now c.pack_run.new.packer _ (sym (listed_more runs i run c.loop-run-test.true c.run-item.is))
    (each_more g.D.Drain (listed_entities (take i runs)) (run_entities run) c.args.self.now c.loop-run.self c.pack_run.new.self c.args.packer.now c.loop-run.packer c.pack_run.new.packer tt _ tt c.loop-run.invariant c.in_ok-pack_run.ensures)

pub returns-in_err-pack_run : goal.returns-in_err-pack_run
returns-in_err-pack_run g c =
    let p = err_from_is_err_and c.from_residual.result c.from_residual.ensures.1 in
    let i = c.loop-run.run-index in
    let runs = c.args.wanted.now in
    let run = c.run-item.result in
    rw (p.1, p.2) (each_later g.D.Drain (listed_entities (take i runs)) (run_entities run) (listed_entities (drop (i + 1) runs)) (listed_entities runs) c.args.self.now c.loop-run.self c.pack_run.new.self c.args.packer.now c.loop-run.packer c.pack_run.new.packer tt _ (listed_split runs i run c.loop-run-test.true c.run-item.is) c.loop-run.invariant c.in_err-pack_run.ensures)
