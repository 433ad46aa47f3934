use Rattle.std.proofs.Common.{[], List, ap, subst, ◌∙◌}
use Rattle.std.proofs.lemmas.Result.{err_from_is_err_and}
use Rattle.pbf_block.specs.Runs.{joined_runs, runs_left}
use Rattle.pbf_pass.specs.Counting.{counts_of}
use Rattle.pbf_pass.specs.Judged.{fault_in}
use Rattle.pbf_pass.specs.Payload.{primitive_block}
use Rattle.pbfcut.specs.Pick.{Packs, picks_of, picked_in}
use Rattle.pbfcut.proofs.PickingLemmas.{picked_runs, stops_judged}
use Rattle.osm_entity.specs.Entity.{EntitySpec}
use Rattle.pbfcut.proofs.pick.EntityPacker.pack_block.Goals as goal

pub returns-in_err-pack_runs-clause-stopped : goal.returns-in_err-pack_runs-clause-stopped
returns-in_err-pack_runs-clause-stopped g c =
    let p = err_from_is_err_and c.from_residual-in_err-pack_runs.result c.from_residual-in_err-pack_runs.ensures.1 in
    let pick = picks_of c.args.self.now.picker in
    let same = picked_runs pick c.all.result (joined_runs (runs_left c.runs_among.result)) c.args.frame.now.payload_at _ c.args.frame.now.payload.now _ c.all.ensures c.in_ok-block.ensures.payload c.runs_among.ensures.exact in
    let payload = primitive_block c.args.frame.now.payload_at c.args.frame.now.payload.now in
    rw (p.1, p.2) (stops_judged g.D.Drain c.args.self.now.number pick (fault_in payload) (joined_runs (runs_left c.runs_among.result)) (picked_in pick payload) c.args.packer.now c.pack_runs.new.packer _ c.in_ok-block.ensures.sound c.runs_among.ensures.fits same c.in_err-pack_runs.ensures.stopped)

pub returns-clause-packed : goal.returns-clause-packed
returns-clause-packed g c =
    let pick = picks_of c.args.self.now.picker in
    let same = picked_runs pick c.all.result (joined_runs (runs_left c.runs_among.result)) c.args.frame.now.payload_at _ c.args.frame.now.payload.now _ c.all.ensures c.in_ok-block.ensures.payload c.runs_among.ensures.exact in
    record {
      sound = c.in_ok-block.ensures.sound;
      packs = subst (λ (l : List EntitySpec). Packs g.D.Drain c.args.packer.now c.pack_runs.new.packer l) same c.in_ok-pack_runs.ensures.packed.packs;
      going = c.in_ok-pack_runs.ensures.packed.going;
    }

pub returns-clause-counted : goal.returns-clause-counted
returns-clause-counted g c =
    let pick = picks_of c.args.self.now.picker in
    let same = picked_runs pick c.all.result (joined_runs (runs_left c.runs_among.result)) c.args.frame.now.payload_at _ c.args.frame.now.payload.now _ c.all.ensures c.in_ok-block.ensures.payload c.runs_among.ensures.exact in
    c.in_ok-pack_runs.ensures.packed.counted [] c.requires.none ∙ ap counts_of same
