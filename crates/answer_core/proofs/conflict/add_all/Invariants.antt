use Rattle.std.proofs.Common.{◌≡◌, ◌+◌, ◌≤◌, length, map, min}
use Rattle.answer_core.specs.Conflicts.{conflicts, conflicts_from}
use Rattle.answer_core.specs.Places.{entry_at}
use Rattle.answer_core.specs.inner.Conflicts.{with_added}
use Rattle.answer_core.proofs.conflict.add_all.Given as goal

abbrev pub invariant-loop-first : goal.invariant-loop-first
invariant-loop-first l = record {
  put : with_added l.out l.end (conflicts_from (map (entry_at l.text) l.places) l.index (map (entry_at l.text) l.rest))
      ≡ with_added l.fn.out 0 (conflicts (map (entry_at l.text) l.places));
  counted : min (l.end + length (conflicts_from (map (entry_at l.text) l.places) l.index (map (entry_at l.text) l.rest))) (length l.out)
      ≡ min (length (conflicts (map (entry_at l.text) l.places))) (length l.fn.out);
  within : l.end ≤ length l.out;
  room : length l.out ≡ length l.fn.out;
  index : l.index + length l.rest ≡ length l.places;
}

abbrev pub decreases-loop-first : goal.decreases-loop-first
decreases-loop-first l = length l.rest
