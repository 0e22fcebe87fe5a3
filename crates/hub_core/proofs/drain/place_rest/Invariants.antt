use Rattle.std.proofs.Common.{◌≡◌, ◌+◌, ◌++◌, length}
use Rattle.rtrb.specs.Ring.{known_items}
use Rattle.hub_core.specs.inner.DrainedLists.{Drains}
use Rattle.hub_core.proofs.drain.place_rest.Given as goal

abbrev pub invariant-loop-i : goal.invariant-loop-i
invariant-loop-i l = record {
  left : l._i + length (known_items l.consumer) ≡ l.left;
  drained : Drains l.initial.lists.items l.lists.items (λ xs. xs ++ known_items l.consumer ≡ known_items l.initial.consumer);
}
