use Rattle.std.proofs.Common.{sym, ap, subst, ◌∙◌}
use Rattle.digits_core.specs.Digits.{AreDigits, ascii_of, ascii_of-digits_of}
use Rattle.digits_core.proofs.DigitTexts.{digits_of-valid}
use Rattle.digits_core.proofs.gtin.Gtin.digits14.Goals as goal

pub returns-clause-value : goal.returns-clause-value
returns-clause-value c = sym (ascii_of-digits_of c.self.inside.digits c.self.invariant.0) ∙ ap ascii_of c.self.view_is

pub returns-clause-digits : goal.returns-clause-digits
returns-clause-digits c = subst AreDigits c.self.view_is (digits_of-valid c.self.inside.digits c.self.invariant.0)
