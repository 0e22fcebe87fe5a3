use Rattle.std.proofs.Common.{◌≡◌, ◌+◌, length, map}
use Rattle.answer_core.specs.Conflicts.{index_of, is_other}
use Rattle.answer_core.specs.Places.{entry_at}
use Rattle.answer_core.proofs.conflict.other_listed.Given as goal

abbrev pub invariant-loop-rest : goal.invariant-loop-rest
invariant-loop-rest l = record {
  left : index_of (is_other l.ai l.list) l.index (map (entry_at l.text) l.rest) ≡ index_of (is_other l.ai l.list) 0 (map (entry_at l.text) l.places);
  count : l.index + length l.rest ≡ length l.places;
}

abbrev pub decreases-loop-rest : goal.decreases-loop-rest
decreases-loop-rest l = length l.rest
