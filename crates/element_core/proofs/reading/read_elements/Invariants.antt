use Rattle.std.proofs.Common.{List, length}
use Rattle.element_core.specs.Elements.{Entry}
use Rattle.element_core.specs.Fronts.{ReadsFromLeft}
use Rattle.element_core.proofs.reading.read_elements.Given as goal

abbrev pub invariant-loop-rest : goal.invariant-loop-rest
invariant-loop-rest g l = (list : List Entry) × ReadsFromLeft l.year l.text list l.rest × g.T.TakesElements.Holds l.taken list

abbrev pub decreases-loop-rest : goal.decreases-loop-rest
decreases-loop-rest g l = length l.rest
