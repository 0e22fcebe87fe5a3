use Rattle.std.proofs.Common.{List, ℕ, length, ◌≤◌, ◌+◌, ◌*◌, ◌/◌, sym, subst}
use Rattle.element_core.specs.Elements.{hri}
use Rattle.element_core.specs.Shown.{shown_elements}
use Rattle.element_core.proofs.LineLength.{hri_fits, hri_room}
use Rattle.element_core.proofs.elements.Elements.put_hri.Goals as goal

pub put_line-requires-clause-least : goal.put_line-requires-clause-least
put_line-requires-clause-least c =
    let i = c.self.invariant in
    subst (λ (t : List ℕ). length (hri (shown_elements t)) ≤ 288) (sym c.as_slice.ensures.value)
    (hri_fits c.self.inside.year c.self.inside.text.items (shown_elements c.self.inside.text.items) i.elements i.canonical_text)

pub put_line-requires-clause-most : goal.put_line-requires-clause-most
put_line-requires-clause-most c =
    let i = c.self.invariant in
    subst (λ (t : List ℕ). length (hri (shown_elements t)) ≤ length t + (length t + 1) / 4 * 2) (sym c.as_slice.ensures.value)
    (hri_room c.self.inside.year c.self.inside.text.items (shown_elements c.self.inside.text.items) i.elements i.canonical_text)
