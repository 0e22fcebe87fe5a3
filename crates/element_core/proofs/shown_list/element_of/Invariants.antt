use Rattle.std.proofs.Common.{◌≡◌, ◌≤◌, drop, length}
use Rattle.element_core.specs.Shown.{shown_elements}
use Rattle.element_core.proofs.shown_list.element_of.Given as goal

abbrev pub invariant-loop-passed : goal.invariant-loop-passed
invariant-loop-passed l = record {
  left : shown_elements l.rest ≡ drop l._passed (shown_elements l.text);
  shorter : length l.rest ≤ length l.text;
}
