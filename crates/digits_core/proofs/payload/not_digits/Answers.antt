use Rattle.std.proofs.Common.{◌∙◌, sym}
use Rattle.digits_core.proofs.DigitTexts.{digits_if_none}
use Rattle.digits_core.proofs.payload.not_digits.Goals as goal

pub returns-in-None-clause-digits : goal.returns-in-None-clause-digits
returns-in-None-clause-digits c = digits_if_none c.args.text.now (sym c.first_other.ensures ∙ c.in-None.is)
