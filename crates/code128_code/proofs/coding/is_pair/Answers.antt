use Rattle.std.proofs.Common.{◌∙◌, arith, sym}
use Rattle.code128_code.proofs.FrontFacts.{ahead_pair, pair_ahead}
use Rattle.code128_code.proofs.coding.is_pair.Goals as goal

pub returns-then-text-lt2 : goal.returns-then-text-lt2
returns-then-text-lt2 c = (λ t. cc, λ h. absurd (let long = (pair_ahead c.args.text.now h).0 in let short = c.if-text-lt2.true in omega arith))

pub returns-then-not-is_ascii_digit : goal.returns-then-not-is_ascii_digit
returns-then-not-is_ascii_digit c =
    (λ t. cc, λ h. let first = c.is_ascii_digit.ensures.value ∙ (pair_ahead c.args.text.now h).1 in let other = c.if-not-is_ascii_digit.true in cc)

pub returns : goal.returns
returns c = (
  λ t. ahead_pair c.args.text.now c.if-text-lt2.false (sym c.is_ascii_digit.ensures.value ∙ c.if-not-is_ascii_digit.false)
      (sym c.is_ascii_digit-2.ensures.value ∙ t),
  λ h. c.is_ascii_digit-2.ensures.value ∙ (pair_ahead c.args.text.now h).2,
)
