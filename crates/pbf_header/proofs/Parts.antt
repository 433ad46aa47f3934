-- Lemmas of pbf_wire that functions here name: the least fault of a message, by its parts.
pub use Rattle.pbf_wire.proofs.LeastLemmas.{lesser_parts}
