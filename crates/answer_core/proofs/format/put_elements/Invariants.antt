use Rattle.std.proofs.Common.{◌≡◌, ◌+◌, ◌≤◌, length, map}
use Rattle.digits_core.specs.Buffers.{pasted}
use Rattle.answer_core.specs.Places.{entry_at}
use Rattle.answer_core.specs.inner.Formats.{first_opening, opened}
use Rattle.answer_core.proofs.format.put_elements.Given as goal

abbrev pub invariant-loop-first : goal.invariant-loop-first
invariant-loop-first l = record {
  end : l.end + length (opened l.fn.form l.opening (map (entry_at l.text) l.rest))
      ≡ l.fn.at + length (opened l.fn.form (first_opening l.fn.form) (map (entry_at l.text) l.places));
  room : l.end + length (opened l.fn.form l.opening (map (entry_at l.text) l.rest)) ≤ length l.out;
  put : pasted l.out l.end (opened l.fn.form l.opening (map (entry_at l.text) l.rest))
      ≡ pasted l.fn.out l.fn.at (opened l.fn.form (first_opening l.fn.form) (map (entry_at l.text) l.places));
}

abbrev pub decreases-loop-first : goal.decreases-loop-first
decreases-loop-first l = length l.rest
