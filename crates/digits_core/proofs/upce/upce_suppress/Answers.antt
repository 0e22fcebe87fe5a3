use Rattle.std.proofs.Common.{rules, ◌≡◌, ◌∙◌, ◌-◌, ℕ, List, length, drop, get_or, ap, sym, arith, refl}
use Rattle.std.proofs.Math.ListN.{get_or-map}
use Rattle.std.proofs.lemmas.List.{length-map}
use Rattle.digits_core.specs.Digits.{ascii_of, digits_of, padded}
use Rattle.digits_core.proofs.DigitTexts.{digit_at, digits_of-ascii_of}
use Rattle.digits_core.proofs.Suppression.{first_standing, six_standing}
use Rattle.digits_core.proofs.upce.upce_suppress.Goals as goal

-- a number is what its twelve digits are, padded
number : (gtin text : List ℕ) → gtin ≡ padded (drop 2 gtin) → text ≡ ascii_of (drop 2 gtin) → gtin ≡ padded (digits_of text)
number gtin text is shown = is ∙ ap padded (sym (ap digits_of shown ∙ digits_of-ascii_of (drop 2 gtin)))

pub returns-clause-some : goal.returns-clause-some
returns-clause-some c =
    let text = c.in_ok-digits.digits in
    let long : length text ≡ 12 = search rules in
    let digit = digit_at text 11 c.in_ok-digits.ensures.digits (omega arith) in
    first_standing (digits_of c.in_ok-six.six) (get_or text 11 0 - 48) (digits_of text) c.args.gtin.now (length-map text (λ b. b - 48) ∙ long)
    (number c.args.gtin.now text (c.in_ok-digits.ensures.some.0 refl) c.in_ok-digits.ensures.value) (sym (get_or-map (λ b. b - 48) text 11 0)) (omega arith)
    c.in_ok-digits.ensures.checked c.in_ok-six.ensures.some

pub returns-in_err-six-clause-none : goal.returns-in_err-six-clause-none
returns-in_err-six-clause-none c = rw c.from_residual-in_err-six.ensures (λ six check u.
    let text = c.in_ok-digits.digits in
    let long : length text ≡ 12 = search rules in
    c.in_err-six.ensures.none six (six_standing six check (digits_of text) c.args.gtin.now (length-map text (λ b. b - 48) ∙ long)
    (number c.args.gtin.now text (c.in_ok-digits.ensures.some.0 refl) c.in_ok-digits.ensures.value) u))
