use Rattle.std.proofs.Common.{◌≡◌, ℕ, List, ap₂, refl, ◌∙◌}
use Rattle.std.specs.List.{filter}
use Rattle.std.proofs.lemmas.Result.{err_from_is_err_and}
use Rattle.pbf_block.specs.PrimitiveBlock.{block_fault}
use Rattle.pbf_block.specs.Runs.{joined_runs, runs_left}
use Rattle.pbf_pass.specs.Payload.{primitive_block}
use Rattle.pbfcut.specs.Pick.{picks_of}
use Rattle.pbfcut.proofs.PackingLemmas.{keeps_same}
use Rattle.pbfcut.proofs.PickingLemmas.{begins_none, picked_runs}
use Rattle.pbfcut.proofs.WritingLemmas.{fails_at_unjudged_payload}
use Rattle.pbfcut.proofs.write.pack_block.Goals as goal

pub returns-in_err-block : goal.returns-in_err-block
returns-in_err-block g c =
    let p = err_from_is_err_and c.from_residual.result c.from_residual.ensures.1 in
    rw (p.1, p.2) (record {
      packed = tt;
      stopped = record { cause = tt; begins = λ sound. begins_none g.D.Drain _ _ _ refl };
      keeps = keeps_same g.D.Drain c.args.packer.now c.requires.0;
      same = (refl, refl);
    })

pub returns-in_err-pack_runs : goal.returns-in_err-pack_runs
returns-in_err-pack_runs g c =
    let p = err_from_is_err_and c.from_residual-in_err-pack_runs.result c.from_residual-in_err-pack_runs.ensures.1 in
    let pick = picks_of c.args.entities.now.picker in
    let frame = c.args.frame.now in
    let block = c.in-Some.block in
    let is = rw c.in-Some.is at c.in_ok-block.ensures.payload in
    let here : block_fault block.at block.payload.now ≡ block_fault frame.payload_at frame.payload.now = ap₂ (λ (at : ℕ) (m : List ℕ). block_fault at m) is.1 is.0 in
    rw (p.1, p.2) (record {
      packed = tt;
      stopped = fails_at_unjudged_payload g.D.Drain c.args.entities.now.number pick (primitive_block frame.payload_at frame.payload.now) (joined_runs (runs_left c.runs_among.result)) _ _ _ (λ sound. c.runs_among.ensures.fits (here ∙ sound))
          (λ sound. picked_runs pick c.all.result (joined_runs (runs_left c.runs_among.result)) frame.payload_at block.at frame.payload.now block.payload.now c.all.ensures is (c.runs_among.ensures.exact (here ∙ sound))) c.in_err-pack_runs.ensures.stopped;
      keeps = c.in_err-pack_runs.ensures.keeps;
      same = c.in_err-pack_runs.ensures.same;
    })

pub returns : goal.returns
returns g c =
    let pick = picks_of c.args.entities.now.picker in
    let frame = c.args.frame.now in
    let block = c.in-Some.block in
    let is = rw c.in-Some.is at c.in_ok-block.ensures.payload in
    let here : block_fault block.at block.payload.now ≡ block_fault frame.payload_at frame.payload.now = ap₂ (λ (at : ℕ) (m : List ℕ). block_fault at m) is.1 is.0 in
    let done = c.in_ok-pack_runs.ensures in
    record {
      packed = record {
        es = filter pick (joined_runs (runs_left c.runs_among.result));
        are = λ sound. picked_runs pick c.all.result (joined_runs (runs_left c.runs_among.result)) frame.payload_at block.at frame.payload.now block.payload.now c.all.ensures is (c.runs_among.ensures.exact (here ∙ sound));
        packs = done.packed.packs;
        going = done.packed.going;
        counted = done.packed.counted;
      };
      stopped = tt;
      keeps = done.keeps;
      same = done.same;
    }
