use Rattle.std.proofs.Common.{◌≡◌, ◌+◌, length, map}
use Rattle.answer_core.specs.Places.{entry_at, gtin_from, gtin_index}
use Rattle.answer_core.proofs.gtin.gtin_index.Given as goal

abbrev pub invariant-loop-rest : goal.invariant-loop-rest
invariant-loop-rest l = record {
  left : gtin_from l.index (map (entry_at l.text) l.rest) ≡ gtin_index (map (entry_at l.text) l.places);
  count : l.index + length l.rest ≡ length l.places;
}

abbrev pub decreases-loop-rest : goal.decreases-loop-rest
decreases-loop-rest l = length l.rest
