-- The least fault of a message, by its parts; a message, as its fields are written one by one.
pub use Rattle.pbf_wire.proofs.LeastLemmas.{lesser_parts, least_more, lesser_nothing}
pub use Rattle.pbf_wire.proofs.WritingLemmas.{one_more, last_slot}
