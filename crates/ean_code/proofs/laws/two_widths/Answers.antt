use Rattle.std.proofs.Common.{sym, subst}
use Rattle.ean_code.specs.TwoOfFive.{AreTwoWidths}
use Rattle.ean_code.proofs.ItfWidths.{two_itf}
use Rattle.ean_code.proofs.laws.two_widths.Goals as goal

pub returns : goal.returns
returns c = λ modules ds symbol. subst AreTwoWidths (sym symbol.widths) (two_itf ds symbol.valid)
