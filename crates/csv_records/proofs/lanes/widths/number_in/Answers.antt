-- The digits so far show the number, which stays small. The steps are those of the proof of `width_of_any_length`.
use Rattle.std.proofs.Common.{◌≡◌, ◌∙◌, arith, get_or, sym, true}
use Rattle.std.specs.Char.{is_ascii_digit}
use Rattle.csv_records.proofs.Decimals.{digit_range}
use Rattle.csv_records.proofs.lanes.FirstWidth.{front_small, one_more_digit, one_more_value}
use Rattle.csv_records.proofs.lanes.widths.number_in.Goals as goal

pub overflow_mul-number : goal.overflow_mul-number
overflow_mul-number c =
    let inv = c.loop-digit.invariant in
    let small = front_small c.args.text.now c.loop-digit.digit-index c.loop-digit.number inv.digits (omega arith) (omega arith) inv.value in
    omega (arith, small)

pub overflow_add-number : goal.overflow_add-number
overflow_add-number c =
    let inv = c.loop-digit.invariant in
    let small = front_small c.args.text.now c.loop-digit.digit-index c.loop-digit.number inv.digits (omega arith) (omega arith) inv.value in
    let digit : is_ascii_digit (get_or c.args.text.now c.loop-digit.digit-index 0) ≡ true = sym c.is_ascii_digit.ensures.value ∙ c.if-not-is_ascii_digit.false in
    let range = digit_range (get_or c.args.text.now c.loop-digit.digit-index 0) digit in
    omega (arith, small, range.0, range.1, c.from.ensures)

pub loop-digit-preserved : goal.loop-digit-preserved
loop-digit-preserved c =
    let inv = c.loop-digit.invariant in
    let text = c.args.text.now in
    let i = c.loop-digit.digit-index in
    let digit : is_ascii_digit (get_or text i 0) ≡ true = sym c.is_ascii_digit.ensures.value ∙ c.if-not-is_ascii_digit.false in
    let more = one_more_value text i (omega arith) digit in
    record {
      digits = one_more_digit text i (omega arith) inv.digits digit;
      value = cc (more, inv.value, c.from.ensures);
    }
