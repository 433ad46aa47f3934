use Rattle.std.proofs.Common.{◌≡◌, false, drop, map}
use Rattle.pbf_wire.specs.Cursors.{numbers_left, sums_left}
use Rattle.osm_entity.specs.Sources.{low_32}
use Rattle.pbf_dense.specs.NodeTexts.{texts_along, columns_with, IsKnown}
use Rattle.pbf_dense.specs.Runs.{after_runs}
use Rattle.pbf_dense.proofs.TextLemmas.{TextsGoOn}
use Rattle.pbf_dense.proofs.take_texts.TextSource.take.Given as goal

abbrev pub invariant-nodes : goal.invariant-nodes
invariant-nodes g l = record {
  same : l.indexes.texts ≡ l.fn.self.texts;
  known : IsKnown l.fn.self.texts.now l.table l.indexes.user l.indexes.index;
  so_far : TextsGoOn l.fn.table (texts_along l.fn.self.texts.now l.fn.count (sums_left l.fn.self.users) (map low_32 (numbers_left l.fn.self.keys_vals))) (columns_with l.fn.runs l.fn.users false)
      l.table (columns_with l.runs l.users l.tagged) (texts_along l.fn.self.texts.now l.left (sums_left l.all_users) (map low_32 (numbers_left l.keys_vals)));
  runs : after_runs l.left (map low_32 (numbers_left l.keys_vals)) ≡ after_runs l.fn.count (map low_32 (numbers_left l.fn.self.keys_vals));
  users : drop l.left (sums_left l.all_users) ≡ drop l.fn.count (sums_left l.fn.self.users);
}

abbrev pub decreases-nodes : goal.decreases-nodes
decreases-nodes g l = l.left
