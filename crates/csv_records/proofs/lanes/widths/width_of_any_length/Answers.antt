-- The digits so far are the front of the first word. The loop reads digits as that of `number_in` does, whose proof has the same steps.
use Rattle.std.proofs.Common.{◌<◌, ◌==◌, ◌≡◌, ◌∙◌, [], ap, arith, false, get_or, inl, inr, length, refl, sym, take, true}
use Rattle.std.specs.Char.{is_ascii_digit}
use Rattle.std.specs.List.{list_all}
use Rattle.std.specs.Str.Parse.{digits_value}
use Rattle.std.proofs.lemmas.Bool.Decides.{nat_tests}
use Rattle.std.proofs.lemmas.List.{take_all}
use Rattle.csv_records.proofs.Decimals.{digit_range}
use Rattle.csv_records.proofs.lanes.FirstWidth.{front_small, last_width, next_width, no_width, one_more_digit, one_more_value}
use Rattle.csv_records.proofs.lanes.widths.width_of_any_length.Goals as goal
use Rattle.csv_records.proofs.lanes.widths.width_of_any_length.Goals.{else-byte-eq32-via-then-byte-eq32+else-length-gt0, else-byte-eq32-via-else-byte-eq32, then-length-eq5-via-then-length-eq5, then-length-eq5-via-else-length-eq5+then-not-is_ascii_digit}

pub returns-then-length-gt0-clause-some : goal.returns-then-length-gt0-clause-some
returns-then-length-gt0-clause-some c =
    let inv = c.digits.invariant in
    next_width c.args.text.now _ c.digits.length c.digits.width refl (omega arith) c.if-length-gt0.true inv.few inv.digits c.if-byte-eq32.true inv.value

pub returns-then-length-gt0-clause-small : goal.returns-then-length-gt0-clause-small
returns-then-length-gt0-clause-small c =
    let inv = c.digits.invariant in
    front_small c.args.text.now c.digits.length c.digits.width inv.digits inv.few (omega arith) inv.value

pub returns-then-length-eq5-clause-none : goal.returns-then-length-eq5-clause-none
returns-then-length-eq5-clause-none c =
    no_width c.args.text.now c.digits.length (omega arith) c.digits.invariant.digits
    (λ space some. elim c.else-byte-eq32.branch [
      | else-byte-eq32-via-then-byte-eq32+else-length-gt0 w ↦ omega (arith, w.if-length-gt0.false, some)
      | else-byte-eq32-via-else-byte-eq32 w ↦ w.if-byte-eq32.false space
    ])
    (elim c.then-length-eq5.branch [
      | then-length-eq5-via-then-length-eq5 w ↦ inl w.if-length-eq5.true
      | then-length-eq5-via-else-length-eq5+then-not-is_ascii_digit w ↦ inr (sym w.is_ascii_digit.ensures.value ∙ w.if-not-is_ascii_digit.true)
    ])

pub overflow_mul-width : goal.overflow_mul-width
overflow_mul-width c =
    let inv = c.digits.invariant in
    let small = front_small c.args.text.now c.digits.length c.digits.width inv.digits inv.few (omega arith) inv.value in
    omega (arith, small)

pub overflow_add-width : goal.overflow_add-width
overflow_add-width c =
    let inv = c.digits.invariant in
    let small = front_small c.args.text.now c.digits.length c.digits.width inv.digits inv.few (omega arith) inv.value in
    let digit : is_ascii_digit (get_or c.args.text.now c.digits.length 0) ≡ true = sym c.is_ascii_digit.ensures.value ∙ c.if-not-is_ascii_digit.false in
    let range = digit_range (get_or c.args.text.now c.digits.length 0) digit in
    omega (arith, small, range.0, range.1, c.from.ensures)

pub digits-preserved : goal.digits-preserved
digits-preserved c =
    let inv = c.digits.invariant in
    let text = c.args.text.now in
    let digit : is_ascii_digit (get_or text c.digits.length 0) ≡ true = sym c.is_ascii_digit.ensures.value ∙ c.if-not-is_ascii_digit.false in
    let more = one_more_value text c.digits.length (omega arith) digit in
    record {
      few = omega (arith, inv.few, c.if-length-eq5.false);
      digits = one_more_digit text c.digits.length (omega arith) inv.digits digit;
      value = cc (more, inv.value, c.from.ensures);
    }

pub returns-clause-some : goal.returns-clause-some
returns-clause-some c =
    let inv = c.digits.invariant in
    let text = c.args.text.now in
    let whole : take c.digits.length text ≡ text = take_all c.digits.length text c.digits-test.false in
    let some : (length text == 0) ≡ false = sym c.is_empty.ensures ∙ c.if-is_empty.false in
    let long : 0 < length text = grind (arith, nat_tests) in
    last_width text [] c.digits.width (sym (ap (list_all is_ascii_digit) whole) ∙ inv.digits) long (omega (arith, inv.few, c.digits-test.false))
    (inv.value ∙ ap (digits_value 10) whole)

pub returns-clause-small : goal.returns-clause-small
returns-clause-small c =
    let inv = c.digits.invariant in
    front_small c.args.text.now c.digits.length c.digits.width inv.digits inv.few (omega arith) inv.value
