use Rattle.std.proofs.Common.{◌≡◌, ◌+◌, ◌++◌, length, map, take}
use Rattle.element_core.specs.Pairs.{entries_of}
use Rattle.answer_core.specs.Places.{entry_at}
use Rattle.answer_core.proofs.writing.elements_at.Given as goal

abbrev pub invariant-loop-first : goal.invariant-loop-first
invariant-loop-first l = record {
  done : entries_of (take l.count l.pairs) ++ map (entry_at l.text) l.rest ≡ map (entry_at l.text) l.places;
  count_is : l.count + length l.rest ≡ length l.places;
  room : length l.pairs ≡ 48;
}

abbrev pub decreases-loop-first : goal.decreases-loop-first
decreases-loop-first l = length l.rest
