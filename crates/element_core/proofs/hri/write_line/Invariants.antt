use Rattle.std.proofs.Common.{◌≡◌, ◌++◌, length}
use Rattle.element_core.specs.Elements.{hri}
use Rattle.element_core.specs.Shown.{shown_elements}
use Rattle.element_core.specs.inner.Walks.{AreAscii}
use Rattle.element_core.proofs.hri.write_line.Given as goal

abbrev pub invariant-loop-front : goal.invariant-loop-front
invariant-loop-front l = record {
  line : l.line.bytes ++ hri (shown_elements l.rest) ≡ hri (shown_elements l.text);
  ascii : AreAscii (shown_elements l.rest);
}

abbrev pub decreases-loop-front : goal.decreases-loop-front
decreases-loop-front l = length l.rest
