use Rattle.std.proofs.Common.{◌≡◌, ◌++◌, length, map}
use Rattle.answer_core.specs.Places.{entry_at}
use Rattle.answer_core.specs.Written.{coded_elements}
use Rattle.answer_core.proofs.coded.push_elements.Given as goal

abbrev pub invariant-loop-first : goal.invariant-loop-first
invariant-loop-first l =
    l.line.items ++ coded_elements l.sign l.signs.next l.signs.between (map (entry_at l.text) l.rest)
    ≡ l.fn.line.items ++ coded_elements l.signs.first l.signs.next l.signs.between (map (entry_at l.text) l.places)

abbrev pub decreases-loop-first : goal.decreases-loop-first
decreases-loop-first l = length l.rest
