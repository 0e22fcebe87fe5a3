use Rattle.std.proofs.Common.{◌≡◌, ◌+◌, ◌-◌, ◌≤◌, drop, length}
use Rattle.gs1_c.specs.Shown.{line_elements}
use Rattle.gs1_c.proofs.next.first_element.Given as goal

abbrev pub invariant-words : goal.invariant-words
invariant-words l = line_elements l.line ≡ line_elements (drop l.start l.line)

abbrev pub decreases-words : goal.decreases-words
decreases-words l = length l.line - l.start
