use Rattle.std.proofs.Common.{◌≡◌, ◌≤◌, ◌-◌, [], length}
use Rattle.std.specs.List.{AllByRecursion}
use Rattle.pbfcut.proofs.wanted.empty_lists.Given as goal

abbrev pub invariant-lists : goal.invariant-lists
invariant-lists l = record {
  many : length l.lists.items ≤ l.count;
  empty : AllByRecursion (λ list. list.items ≡ []) l.lists.items;
}

abbrev pub decreases-lists : goal.decreases-lists
decreases-lists l = l.count - length l.lists.items
