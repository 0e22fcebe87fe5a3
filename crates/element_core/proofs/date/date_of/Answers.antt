use Rattle.std.proofs.Common.{◌≡◌, false, true, sym}
use Rattle.element_core.specs.inner.Days.{day_named, is_six_digits}
use Rattle.element_core.proofs.DayLemmas.{day_of-six, day_of-other, six_digits, some_day}
use Rattle.element_core.proofs.date.date_of.Goals as goal

pub returns-then-not-is_six_digits-clause-day : goal.returns-then-not-is_six_digits-clause-day
returns-then-not-is_six_digits-clause-day c =
    let no : is_six_digits c.args.text.now ≡ false = sym c.if-not-is_six_digits.ensures in
    rw (day_of-other c.args.text.now c.args.reference no) tt

pub returns-then-not-is_six_digits-clause-some : goal.returns-then-not-is_six_digits-clause-some
returns-then-not-is_six_digits-clause-some c =
    let no : is_six_digits c.args.text.now ≡ false = sym c.if-not-is_six_digits.ensures in
    rw (day_of-other c.args.text.now c.args.reference no)

pub returns-clause-day : goal.returns-clause-day
returns-clause-day c =
    let yes : is_six_digits c.args.text.now ≡ true = sym c.if-not-is_six_digits.ensures in
    rw (day_of-six c.args.text.now c.args.reference yes) c.named_day.ensures

pub returns-clause-some : goal.returns-clause-some
returns-clause-some c =
    let yes : is_six_digits c.args.text.now ≡ true = sym c.if-not-is_six_digits.ensures in
    rw (day_of-six c.args.text.now c.args.reference yes) (some_day c.named_day.result (day_named c.args.text.now c.args.reference) c.named_day.ensures)

pub named_day-requires-clause-length : goal.named_day-requires-clause-length
named_day-requires-clause-length c = (six_digits c.args.text.now (sym c.if-not-is_six_digits.ensures)).0

pub named_day-requires-clause-digits : goal.named_day-requires-clause-digits
named_day-requires-clause-digits c = (six_digits c.args.text.now (sym c.if-not-is_six_digits.ensures)).1
