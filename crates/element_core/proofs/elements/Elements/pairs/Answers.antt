use Rattle.std.proofs.Common.{List, [], ℕ, length, ◌≤◌, sym, subst}
use Rattle.element_core.specs.Elements.{pairs_text}
use Rattle.element_core.specs.Shown.{shown_elements}
use Rattle.element_core.specs.inner.Walks.{AreAscii}
use Rattle.element_core.proofs.Canonical.{elements_are}
use Rattle.element_core.proofs.Listed.{elements_ascii}
use Rattle.element_core.proofs.PairLines.{pairs_fit}
use Rattle.element_core.proofs.PieceLemmas.{from_left}
use Rattle.element_core.proofs.elements.Elements.pairs.Goals as goal

pub pairs_of-requires-clause-ascii : goal.pairs_of-requires-clause-ascii
pairs_of-requires-clause-ascii c =
    let i = c.self.invariant in
    let es = shown_elements c.self.inside.text.items in
    subst (λ (t : List ℕ). AreAscii (shown_elements t)) (sym c.as_slice.ensures.value)
    (elements_ascii c.self.inside.year es (elements_are c.self.inside.year c.self.inside.text.items es []
    (from_left c.self.inside.year c.self.inside.text.items es [] i.elements.reads)))

pub pairs_of-requires-clause-room : goal.pairs_of-requires-clause-room
pairs_of-requires-clause-room c =
    let i = c.self.invariant in
    subst (λ (t : List ℕ). length (pairs_text (shown_elements t)) ≤ 288) (sym c.as_slice.ensures.value)
    (pairs_fit c.self.inside.year c.self.inside.text.items (shown_elements c.self.inside.text.items) i.elements i.canonical_text)
