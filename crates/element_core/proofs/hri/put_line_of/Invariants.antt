use Rattle.std.proofs.Common.{◌≡◌, ◌+◌, ◌≤◌, length}
use Rattle.digits_core.specs.Buffers.{pasted}
use Rattle.element_core.specs.Elements.{hri}
use Rattle.element_core.specs.Shown.{shown_elements}
use Rattle.element_core.proofs.hri.put_line_of.Given as goal

abbrev pub invariant-loop-front : goal.invariant-loop-front
invariant-loop-front l = record {
  end : l.end + length (hri (shown_elements l.rest)) ≡ l.fn.at + length (hri (shown_elements l.text));
  room : l.end + length (hri (shown_elements l.rest)) ≤ length l.out;
  put : pasted l.out l.end (hri (shown_elements l.rest)) ≡ pasted l.fn.out l.fn.at (hri (shown_elements l.text));
}

abbrev pub decreases-loop-front : goal.decreases-loop-front
decreases-loop-front l = length l.rest
