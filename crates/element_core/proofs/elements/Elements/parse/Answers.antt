use Rattle.element_core.proofs.Unique.{only_list, only_fault}
use Rattle.element_core.proofs.elements.Elements.parse.Goals as goal

pub returns-clause-only : goal.returns-clause-only
returns-clause-only c = only_list c.args.year c.args.text.now c.read.result c.read.ensures.ok c.read.ensures.err

pub returns-clause-exact : goal.returns-clause-exact
returns-clause-exact c = only_fault c.args.year c.args.text.now c.read.result c.read.ensures.ok c.read.ensures.err
