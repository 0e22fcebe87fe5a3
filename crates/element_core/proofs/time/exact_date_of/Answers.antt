use Rattle.std.proofs.Common.{◌≡◌, ◌∙◌, false, true, eqb, refl, sym, arith}
use Rattle.std.proofs.lemmas.Bool.{ne_eqb}
use Rattle.element_core.specs.Days.{two}
use Rattle.element_core.specs.inner.Days.{day_named, is_six_digits}
use Rattle.element_core.specs.Times.{exact_day_of}
use Rattle.element_core.proofs.DayLemmas.{six_digits, some_day}
use Rattle.element_core.proofs.TimeLemmas.{exact_day-none, exact_day-other, exact_day-six}
use Rattle.element_core.proofs.time.exact_date_of.Goals as goal
use Rattle.element_core.proofs.time.exact_date_of.Goals.{After-named_day}

pub returns-then-not-is_six_digits-clause-day : goal.returns-then-not-is_six_digits-clause-day
returns-then-not-is_six_digits-clause-day c =
    let no : is_six_digits c.args.text.now ≡ false = sym c.if-not-is_six_digits.ensures in
    rw (exact_day-other c.args.text.now c.args.reference no) tt

pub returns-then-not-is_six_digits-clause-some : goal.returns-then-not-is_six_digits-clause-some
returns-then-not-is_six_digits-clause-some c =
    let no : is_six_digits c.args.text.now ≡ false = sym c.if-not-is_six_digits.ensures in
    rw (exact_day-other c.args.text.now c.args.reference no)

named : (c : After-named_day) → exact_day_of c.args.text.now c.args.reference ≡ day_named c.args.text.now c.args.reference
named c =
    let yes : is_six_digits c.args.text.now ≡ true = sym c.if-not-is_six_digits.ensures in
    let not_zero : eqb (two c.args.text.now 4) 0 ≡ false =
    ne_eqb (two c.args.text.now 4) 0 (λ zero_day. c.if-two_digits-eq0.false (c.two_digits.ensures.value ∙ zero_day)) in
    exact_day-six c.args.text.now c.args.reference yes not_zero

pub returns-clause-day : goal.returns-clause-day
returns-clause-day c = rw (named (goal.at.returns-clause-day c).After-named_day) c.named_day.ensures

pub returns-clause-some : goal.returns-clause-some
returns-clause-some c = rw (named (goal.at.returns-clause-some c).After-named_day)
    (some_day c.named_day.result (day_named c.args.text.now c.args.reference) c.named_day.ensures)

pub two_digits-requires-clause-tens : goal.two_digits-requires-clause-tens
two_digits-requires-clause-tens c = (six_digits c.args.text.now (sym c.if-not-is_six_digits.ensures)).1 4 (omega arith)

pub two_digits-requires-clause-ones : goal.two_digits-requires-clause-ones
two_digits-requires-clause-ones c = (six_digits c.args.text.now (sym c.if-not-is_six_digits.ensures)).1 5 (omega arith)

pub named_day-requires-clause-length : goal.named_day-requires-clause-length
named_day-requires-clause-length c = (six_digits c.args.text.now (sym c.if-not-is_six_digits.ensures)).0

pub named_day-requires-clause-digits : goal.named_day-requires-clause-digits
named_day-requires-clause-digits c = (six_digits c.args.text.now (sym c.if-not-is_six_digits.ensures)).1

pub returns-then-two_digits-eq0-clause-day : goal.returns-then-two_digits-eq0-clause-day
returns-then-two_digits-eq0-clause-day c =
    rw (exact_day-none c.args.text.now c.args.reference (sym c.two_digits.ensures.value ∙ c.if-two_digits-eq0.true)) tt

pub returns-then-two_digits-eq0-clause-some : goal.returns-then-two_digits-eq0-clause-some
returns-then-two_digits-eq0-clause-some c =
    rw (exact_day-none c.args.text.now c.args.reference (sym c.two_digits.ensures.value ∙ c.if-two_digits-eq0.true)) refl
