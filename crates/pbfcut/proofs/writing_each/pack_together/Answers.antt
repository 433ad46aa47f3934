use Rattle.std.proofs.Common.{◌≡◌, ℕ, List, None, ap, ap₂, subst, sym, ◌∙◌}
use Rattle.std.proofs.lemmas.Result.{err_from_is_err_and}
use Rattle.std.specs.List.{AllByRecursion, AllZip, filter}
use Rattle.osm_entity.specs.Ranges.{EntityFits}
use Rattle.pbf_block.specs.PrimitiveBlock.{block_fault}
use Rattle.pbf_block.specs.Runs.{joined_runs, runs_left}
use Rattle.pbf_pass.specs.Judged.{fault_in}
use Rattle.pbf_pass.specs.Payload.{lent_by, payload_as, primitive_block}
use Rattle.pbfcut.specs.Pick.{Pick, picked_in}
use Rattle.pbfcut.specs.Several.{OneStopped, WriterFailsAtPayload, WriterPacks, WriterStops, WriterTakesPayload}
use Rattle.pbf_block.specs.declared.runs.Run.{Run}
use Rattle.std.specs.Global.{Vec}
use Rattle.pbfcut.proofs.PickingLemmas.{picked_runs}
use Rattle.pbfcut.proofs.WantedWriters.{Wants, chosen_by, chosen_length, chosen_named, each_payload, one_payload, wanted_by}
use Rattle.pbfcut.proofs.writing_each.pack_together.Goals as goal

pub returns-in_err-pack_wanted_each-clause-stopped : goal.returns-in_err-pack_wanted_each-clause-stopped
returns-in_err-pack_wanted_each-clause-stopped g c =
    let e = err_from_is_err_and c.from_residual.result c.from_residual.ensures.1 in
    let frame = c.args.frame.now in
    let block = c.in-Ok-Some.block in
    let is = rw c.in-Ok-Some.field-0-is at c.in-Ok-Some.ensures.payload in
    let here : block_fault block.at block.payload.now ≡ block_fault frame.payload_at frame.payload.now = ap₂ (λ (at : ℕ) (m : List ℕ). block_fault at m) is.1 is.0 in
    let es = joined_runs (runs_left c.runs_among-runs.result) in
    let p = primitive_block frame.payload_at frame.payload.now in
    let olds = c.args.writers.now in
    let found = rw c.in-Ok-Some-wanted_each.field-0-is at c.in-Ok-Some-wanted_each.ensures.wanted in
    let many = rw c.in-Ok-Some-wanted_each.field-0-is at c.in-Ok-Some-wanted_each.ensures.as_many in
    let are = subst (λ (l : List (Vec Run)). AllZip (Wants es) olds l) (sym c.deref.ensures.value) (wanted_by c.args.strips.now 0 es olds _ c.requires.named (found (chosen_by olds) (chosen_length olds ∙ sym many) (chosen_named c.args.strips.now 0 olds c.requires.named))) in
    let fits = λ (sound : fault_in p ≡ None). c.runs_among-runs.ensures.fits (here ∙ sound) in
    let same = λ (pick : Pick) (sound : fault_in p ≡ None). picked_runs pick c.all.result es frame.payload_at block.at frame.payload.now block.payload.now c.all.ensures is (c.runs_among-runs.ensures.exact (here ∙ sound)) in
    let lent : lent_by frame ≡ p = ap (λ k. payload_as k frame.payload_at frame.payload.now) c.in-Data.is in
    rw (e.1, e.2) (subst (λ q. OneStopped (WriterTakesPayload g.D.Drain q) (WriterFailsAtPayload g.D.Drain q c.in_err-pack_wanted_each.field-0.0) c.args.writers.now c.pack_wanted_each.new.writers) (sym lent) (one_payload g.D.Drain p es fits same c.in_err-pack_wanted_each.field-0.0 _ olds c.pack_wanted_each.new.writers are c.in_err-pack_wanted_each.ensures.stopped))

pub returns-clause-packed : goal.returns-clause-packed
returns-clause-packed g c is_true =
    let frame = c.args.frame.now in
    let block = c.in-Ok-Some.block in
    let is = rw c.in-Ok-Some.field-0-is at c.in-Ok-Some.ensures.payload in
    let here : block_fault block.at block.payload.now ≡ block_fault frame.payload_at frame.payload.now = ap₂ (λ (at : ℕ) (m : List ℕ). block_fault at m) is.1 is.0 in
    let es = joined_runs (runs_left c.runs_among-runs.result) in
    let p = primitive_block frame.payload_at frame.payload.now in
    let olds = c.args.writers.now in
    let found = rw c.in-Ok-Some-wanted_each.field-0-is at c.in-Ok-Some-wanted_each.ensures.wanted in
    let many = rw c.in-Ok-Some-wanted_each.field-0-is at c.in-Ok-Some-wanted_each.ensures.as_many in
    let are = subst (λ (l : List (Vec Run)). AllZip (Wants es) olds l) (sym c.deref.ensures.value) (wanted_by c.args.strips.now 0 es olds _ c.requires.named (found (chosen_by olds) (chosen_length olds ∙ sym many) (chosen_named c.args.strips.now 0 olds c.requires.named))) in
    let fits = λ (sound : fault_in p ≡ None). c.runs_among-runs.ensures.fits (here ∙ sound) in
    let same = λ (pick : Pick) (sound : fault_in p ≡ None). picked_runs pick c.all.result es frame.payload_at block.at frame.payload.now block.payload.now c.all.ensures is (c.runs_among-runs.ensures.exact (here ∙ sound)) in
    let lent : lent_by frame ≡ p = ap (λ k. payload_as k frame.payload_at frame.payload.now) c.in-Data.is in
    subst (λ q. AllZip (WriterTakesPayload g.D.Drain q) c.args.writers.now c.pack_wanted_each.new.writers) (sym lent) (each_payload g.D.Drain p es fits same _ olds c.pack_wanted_each.new.writers are c.in_ok-pack_wanted_each.ensures.packed)
