use Rattle.std.proofs.Common.{◌∙◌, ◌<◌, List, ℕ, length, sym, subst}
use Rattle.pbf_block.proofs.LengthLaw.{block_fits}
use Rattle.osm_pack.proofs.frames.close_into.Goals as goal

pub put_frame-requires-clause-short : goal.put_frame-requires-clause-short
put_frame-requires-clause-short g c =
    let was = c.requires in
    subst (λ (bs : List ℕ). length bs < 33554432) (sym (c.deref.ensures.value ∙ c.in_ok-payload.ensures.payload was.entities was.held)) (block_fits was.entities was.held.block)
