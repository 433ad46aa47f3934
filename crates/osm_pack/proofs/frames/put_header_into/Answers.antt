use Rattle.std.proofs.Common.{◌∙◌, ◌++◌, ◌<◌, List, ℕ, length, ap, sym, subst}
use Rattle.pbf_header.specs.Header.{header_of}
use Rattle.pbf_header.specs.WrittenHeader.{header_message, header_out_for_convert}
use Rattle.pbf_header.proofs.HeaderLaw.{out_short}
use Rattle.osm_pack.proofs.frames.put_header_into.Goals as goal

pub put_frame-requires-clause-short : goal.put_frame-requires-clause-short
put_frame-requires-clause-short g c =
    let message = header_message (header_out_for_convert (header_of c.args.header.now)) in
    let written = c.deref.ensures.value ∙ (c.in_ok-write.ensures ∙ ap (λ (bs : List ℕ). bs ++ message) c.new-payload.ensures.items) in
    subst (λ (bs : List ℕ). length bs < 33554432) (sym written) (out_short (header_of c.args.header.now) c.requires)
