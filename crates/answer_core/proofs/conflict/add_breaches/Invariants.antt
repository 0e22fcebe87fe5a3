use Rattle.std.proofs.Common.{◌≡◌, ◌+◌, ◌≤◌, filter_map, length, map, min}
use Rattle.answer_core.specs.Conflicts.{breach}
use Rattle.answer_core.specs.Places.{entry_at}
use Rattle.answer_core.specs.inner.Associations.{association_of}
use Rattle.answer_core.specs.inner.Conflicts.{with_added}
use Rattle.answer_core.proofs.conflict.add_breaches.Given as goal

abbrev pub invariant-loop-first : goal.invariant-loop-first
invariant-loop-first l = record {
  put : with_added l.out l.end (filter_map (breach (map (entry_at l.text) l.places) l.index l.ai) (map association_of l.rest))
      ≡ with_added l.fn.out l.at (filter_map (breach (map (entry_at l.text) l.places) l.index l.ai) (map association_of l.list));
  counted : min (l.end + length (filter_map (breach (map (entry_at l.text) l.places) l.index l.ai) (map association_of l.rest))) (length l.out)
      ≡ min (l.at + length (filter_map (breach (map (entry_at l.text) l.places) l.index l.ai) (map association_of l.list))) (length l.fn.out);
  within : l.end ≤ length l.out;
  room : length l.out ≡ length l.fn.out;
}

abbrev pub decreases-loop-first : goal.decreases-loop-first
decreases-loop-first l = length l.rest
