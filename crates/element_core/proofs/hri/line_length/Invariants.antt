use Rattle.std.proofs.Common.{◌≡◌, ◌+◌, length}
use Rattle.element_core.specs.Elements.{hri}
use Rattle.element_core.specs.Shown.{shown_elements}
use Rattle.element_core.proofs.hri.line_length.Given as goal

abbrev pub invariant-loop-front : goal.invariant-loop-front
invariant-loop-front l = l.count + length (hri (shown_elements l.rest)) ≡ length (hri (shown_elements l.text))

abbrev pub decreases-loop-front : goal.decreases-loop-front
decreases-loop-front l = length l.rest
