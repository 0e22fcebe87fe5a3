use Rattle.std.proofs.Common.{[], length, ap, arith}
use Rattle.element_core.specs.Elements.{Listing}
use Rattle.element_core.specs.Shown.{shown_elements}
use Rattle.element_core.proofs.Canonical.{elements_are}
use Rattle.element_core.proofs.Growth.{few_elements}
use Rattle.element_core.proofs.PieceLemmas.{from_left}
use Rattle.element_core.proofs.elements.Elements.bytes.Goals as goal

pub returns-clause-most : goal.returns-clause-most
returns-clause-most c =
    let year = c.self.inside.year in
    let text = c.self.inside.text.items in
    let es = shown_elements text in
    let is = c.self.invariant.elements in
    let fits = is.fits in
    omega (
      arith,
      few_elements year es (elements_are year text es [] (from_left year text es [] is.reads)),
      ap length c.self.invariant.canonical_text,
      ap (λ (l : Listing). length l.list) c.self.view_is,
    )
