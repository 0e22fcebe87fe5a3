-- If one digit or two stand before the first space, their number is the first width.
use Rattle.std.proofs.Common.{◌*◌, ◌+◌, ◌-◌, ◌≡◌, ◌∙◌, arith, get_or, refl, sym, take}
use Rattle.std.specs.Str.Parse.{digits_value}
use Rattle.csv_records.proofs.lanes.FirstWidth.{next_width, one_more_digit, one_more_value}
use Rattle.csv_records.proofs.lanes.widths.first_width.Goals as goal

pub returns-in-len2-up-clause-some : goal.returns-in-len2-up-clause-some
returns-in-len2-up-clause-some c =
    let text = c.args.text.now in
    let digit = sym c.is_ascii_digit.ensures.value ∙ c.if-is_ascii_digit.true in
    let value : digits_value 10 (take 1 text) ≡ 0 + (get_or text 0 0 - 48) = one_more_value text 0 (omega arith) digit in
    next_width text _ 1 _ refl (omega arith) (omega arith) (omega arith) (one_more_digit text 0 (omega arith) refl digit) c.if-space-eq32.true
    (omega (arith, value, c.from.ensures))

pub returns-in-len3-up-clause-some : goal.returns-in-len3-up-clause-some
returns-in-len3-up-clause-some c =
    let text = c.args.text.now in
    let tens = sym c.is_ascii_digit-then-space-eq32-2.ensures.value ∙ c.if-is_ascii_digit-2.true in
    let units = sym c.is_ascii_digit-then-is_ascii_digit-2.ensures.value ∙ c.if-is_ascii_digit-3.true in
    let one = one_more_digit text 0 (omega arith) refl tens in
    let first : digits_value 10 (take 1 text) ≡ 0 + (get_or text 0 0 - 48) = one_more_value text 0 (omega arith) tens in
    let both : digits_value 10 (take 2 text) ≡ digits_value 10 (take 1 text) * 10 + (get_or text 1 0 - 48) = one_more_value text 1 (omega arith) units in
    next_width text _ 2 _ refl (omega arith) (omega arith) (omega arith) (one_more_digit text 1 (omega arith) one units) c.if-space-eq32-2.true
    (omega (arith, first, both, c.from-in-len3-up.ensures, c.from-in-len3-up-2.ensures))
