-- Words and lemmas of pbf_wire that functions here name: the least fault of a message, by its parts; the items of a message.
pub use Rattle.pbf_wire.specs.Occurrence.{items_past}
pub use Rattle.pbf_wire.proofs.LeastLemmas.{lesser_parts, least_more, lesser_nothing}
