use Rattle.std.proofs.Common.{List, [], ℕ, length, ◌≤◌, sym, subst}
use Rattle.element_core.specs.Elements.{hri}
use Rattle.element_core.specs.Shown.{shown_elements}
use Rattle.element_core.specs.inner.Walks.{AreAscii}
use Rattle.element_core.proofs.Canonical.{elements_are}
use Rattle.element_core.proofs.Listed.{elements_ascii}
use Rattle.element_core.proofs.LineLength.{hri_fits}
use Rattle.element_core.proofs.PieceLemmas.{from_left}
use Rattle.element_core.proofs.elements.Elements.hri.Goals as goal

pub write_line-requires-clause-ascii : goal.write_line-requires-clause-ascii
write_line-requires-clause-ascii c =
    let i = c.self.invariant in
    let es = shown_elements c.self.inside.text.items in
    subst (λ (t : List ℕ). AreAscii (shown_elements t)) (sym c.as_slice.ensures.value)
    (elements_ascii c.self.inside.year es (elements_are c.self.inside.year c.self.inside.text.items es []
    (from_left c.self.inside.year c.self.inside.text.items es [] i.elements.reads)))

pub write_line-requires-clause-room : goal.write_line-requires-clause-room
write_line-requires-clause-room c =
    let i = c.self.invariant in
    subst (λ (t : List ℕ). length (hri (shown_elements t)) ≤ 288) (sym c.as_slice.ensures.value)
    (hri_fits c.self.inside.year c.self.inside.text.items (shown_elements c.self.inside.text.items) i.elements i.canonical_text)
