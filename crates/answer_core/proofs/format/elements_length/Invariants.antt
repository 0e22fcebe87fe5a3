use Rattle.std.proofs.Common.{◌≡◌, ◌+◌, ◌*◌, ◌≤◌, length, map}
use Rattle.answer_core.specs.Places.{entry_at}
use Rattle.answer_core.specs.inner.Formats.{first_opening, opened}
use Rattle.answer_core.proofs.format.elements_length.Given as goal

abbrev pub invariant-loop-first : goal.invariant-loop-first
invariant-loop-first l = record {
  left : l.count + length (opened l.fn.form l.opening (map (entry_at l.text) l.rest))
      ≡ length (opened l.fn.form (first_opening l.fn.form) (map (entry_at l.text) l.places));
  few : l.count + 386 * length l.rest ≤ 18528;
  opening : length l.opening ≤ 1;
}

abbrev pub decreases-loop-first : goal.decreases-loop-first
decreases-loop-first l = length l.rest
