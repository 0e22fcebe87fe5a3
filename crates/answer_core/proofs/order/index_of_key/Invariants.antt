use Rattle.std.proofs.Common.{◌≡◌, ◌+◌, length, map}
use Rattle.std.specs.List.{position_or_len}
use Rattle.answer_core.specs.Places.{entry_at}
use Rattle.answer_core.specs.Written.{is_key_entry}
use Rattle.answer_core.proofs.order.index_of_key.Given as goal

abbrev pub invariant-loop-rest : goal.invariant-loop-rest
invariant-loop-rest l = record {
  left : l.index + position_or_len is_key_entry (map (entry_at l.text) l.rest) ≡ position_or_len is_key_entry (map (entry_at l.text) l.places);
  count : l.index + length l.rest ≡ length l.places;
}

abbrev pub decreases-loop-rest : goal.decreases-loop-rest
decreases-loop-rest l = length l.rest
