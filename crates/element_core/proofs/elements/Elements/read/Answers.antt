use Rattle.std.proofs.Common.{List, ℕ, refl, subst, sym}
use Rattle.element_core.specs.Elements.{IsElements}
use Rattle.element_core.proofs.Canonical.{canonical_law}
use Rattle.element_core.proofs.Listed.{IsListed, listed_as}
use Rattle.element_core.proofs.elements.Elements.read.Goals as goal
use Rattle.element_core.proofs.elements.Elements.read.Goals.{In_ok-read_elements}

listed : (c : In_ok-read_elements) → IsListed c.args.year c.args.text.now c.read_elements.new.taken.text.items
listed c =
    let out = c.read_elements.new.taken.text.items in
    let read = c.in_ok-read_elements.ensures.ok in
    let reads = subst (λ (t : List ℕ). IsElements c.args.year t read.0) (sym read.2.0) (canonical_law c.args.year c.args.text.now read.0 read.1).0 in
    listed_as c.args.year c.args.text.now out read.0 read.1 read.2.0 reads

pub invariant_of-result : goal.invariant_of-result
invariant_of-result c =
    let r = listed (goal.at.invariant_of-result c).In_ok-read_elements in
    record { canonical_text = r.canonical_text; elements = r.elements }

pub returns-clause-ok : goal.returns-clause-ok
returns-clause-ok c = (refl, (listed (goal.at.returns-clause-ok c).In_ok-read_elements).reads)
