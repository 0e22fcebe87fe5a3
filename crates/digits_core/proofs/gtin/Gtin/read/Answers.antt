use Rattle.std.proofs.Common.{◌∙◌, ◌-◌, sym, ap, subst, length, replicate, refl}
use Rattle.digits_core.specs.Digits.{AreAsciiDigits, IsChecked, digits_of}
use Rattle.digits_core.proofs.DigitTexts.{digits_if_none, none_if_digits, digits_of-padded, digits-append, digits-zeros}
use Rattle.digits_core.proofs.Weights.{checked_padded}
use Rattle.digits_core.proofs.gtin.Gtin.read.Goals as goal

pub is_checked-requires-clause-digits : goal.is_checked-requires-clause-digits
is_checked-requires-clause-digits c = digits_if_none c.args.text.now (sym c.first_other.ensures ∙ c.in_default-first_other.is)

pub invariant_of-result : goal.invariant_of-result
invariant_of-result c =
    let text = c.args.text.now in
    let digits = digits_if_none text (sym c.first_other.ensures ∙ c.in_default-first_other.is) in
    let shown = ap digits_of c.zeros_before.ensures ∙ digits_of-padded text (14 - length text) refl in
    let checked : IsChecked (digits_of text) = c.is_checked.ensures.0 c.if-not-is_checked.false in (
      subst AreAsciiDigits (sym c.zeros_before.ensures) (digits-append (replicate (14 - length text) 48) text (digits-zeros (14 - length text)) digits),
      subst
          IsChecked (sym shown) (checked_padded (digits_of text) checked),
    )

pub returns-in-Some-clause-decided : goal.returns-in-Some-clause-decided
returns-in-Some-clause-decided c = λ long digits. absurd (let none = none_if_digits c.args.text.now digits in let said = c.first_other.ensures in let some =
    c.in-Some.is in cc)
