use Rattle.std.proofs.Common.{◌≡◌, ◌∙◌, ℕ, ◌-◌, ◌%◌, ◌<◌, List, [], ◌∷◌, ◌++◌, length, get_or, take, sym, ap, subst, arith, suc, eqb-true}
use Rattle.std.proofs.lemmas.Bool.{eq-eqb}
use Rattle.digits_core.specs.Digits.{IsChecked, digits_of, weighted}
use Rattle.digits_core.proofs.DigitTexts.{last_digit, digit_at}
use Rattle.digits_core.proofs.Weights.{one_check, weighted-last}
use Rattle.digits_core.proofs.payload.is_checked.Goals as goal

-- a payload's check digits are one digit
same_check : (ds : List ℕ) (a b : ℕ) → a < 10 → b < 10 → IsChecked (ds ++ a ∷ []) → IsChecked (ds ++ b ∷ []) → a ≡ b
same_check ds a b la lb h k =
    one_check (weighted (ds ++ 0 ∷ [])) a b (ap (λ n. n % 10) (sym (weighted-last ds a)) ∙ h) (ap (λ n. n % 10) (sym (weighted-last ds b)) ∙ k) la lb

pub returns : goal.returns
returns c =
    let text = c.args.text.now in
    let n = length text - 1 in
    let last = get_or text n 0 - 48 in
    let front = digits_of (take n text) in
    let long : length text ≡ suc n = omega arith in
    let split : digits_of text ≡ front ++ last ∷ [] = last_digit text n long in
    let digit = digit_at text n c.requires.digits (omega arith) in
    let low : last < 10 = omega arith in (
      λ same. subst IsChecked (ap (λ d. front ++ d ∷ []) (sym (eqb-true last c.check_digit.result same)) ∙ sym split) c.check_digit.ensures.checked,
      λ checked. eq-eqb last c.check_digit.result (same_check front last c.check_digit.result low c.check_digit.ensures.digit (subst IsChecked split checked)
          c.check_digit.ensures.checked),
    )
