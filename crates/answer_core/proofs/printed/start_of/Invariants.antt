use Rattle.std.proofs.Common.{◌≡◌, ◌+◌, ◌-◌, ◌*◌, ◌≤◌, drop}
use Rattle.element_core.specs.Pairs.{entries_of}
use Rattle.answer_core.specs.Printed.{start_of}
use Rattle.answer_core.proofs.printed.start_of.Given as goal

abbrev pub invariant-loop-at : goal.invariant-loop-at
invariant-loop-at l = record {
  left : l.start + start_of (entries_of (drop l.at l.pairs)) (l.i - l.at) ≡ start_of (entries_of l.pairs) l.i;
  few : l.start ≤ 385 * l.at;
}
