use Rattle.std.proofs.Common.{ap, ◌∙◌}
use Rattle.element_core.specs.Elements.{is_printable}
use Rattle.element_core.proofs.Letters.{listing_printable}
use Rattle.element_core.proofs.elements.Elements.text.Goals as goal

pub returns-clause-printable : goal.returns-clause-printable
returns-clause-printable c =
    let i = c.self.invariant in
    ap is_printable (c.copied.ensures ∙ c.as_slice.ensures.value) ∙ listing_printable c.self.inside.year c.self.inside.text.items _ i.elements i.canonical_text
