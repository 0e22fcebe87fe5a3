use Rattle.std.proofs.Common.{◌∙◌, sym, arith}
use Rattle.ean_code.proofs.Widths.{AreWidths-from, AreWidths-to}
use Rattle.ean_code.proofs.modules.are_modules.Goals as goal

pub returns : goal.returns
returns c = (
  λ t. (c.if-widths-gt595.false, (omega arith), AreWidths-from _ (sym c.are_widths.ensures ∙ t)),
  λ m. c.are_widths.ensures ∙ AreWidths-to _ m.2,
)
