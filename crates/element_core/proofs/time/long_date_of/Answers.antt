use Rattle.std.proofs.Common.{◌≡◌, ◌∙◌, ◌+◌, ◌*◌, false, true, eqb, refl, subst, sym}
use Rattle.std.proofs.lemmas.Bool.{ne_eqb}
use Rattle.element_core.specs.Days.{IsDay, day_in, two}
use Rattle.element_core.specs.inner.Days.{is_eight_digits}
use Rattle.element_core.specs.Times.{long_day_of}
use Rattle.element_core.proofs.DayLemmas.{some_day}
use Rattle.element_core.proofs.TimeLemmas.{long_day-eight, long_day-none, long_day-other}
use Rattle.element_core.proofs.time.long_date_of.Goals as goal
use Rattle.element_core.proofs.time.long_date_of.Goals.{After-day_in_month}

pub returns-then-not-is_eight_digits-clause-day : goal.returns-then-not-is_eight_digits-clause-day
returns-then-not-is_eight_digits-clause-day c =
    let no : is_eight_digits c.args.text.now ≡ false = sym c.if-not-is_eight_digits.ensures in rw (long_day-other c.args.text.now no) tt

pub returns-then-not-is_eight_digits-clause-some : goal.returns-then-not-is_eight_digits-clause-some
returns-then-not-is_eight_digits-clause-some c =
    let no : is_eight_digits c.args.text.now ≡ false = sym c.if-not-is_eight_digits.ensures in rw (long_day-other c.args.text.now no)

pub returns-then-two_of-eq0-clause-day : goal.returns-then-two_of-eq0-clause-day
returns-then-two_of-eq0-clause-day c = rw (long_day-none c.args.text.now (sym c.two_of.ensures.value ∙ c.if-two_of-eq0.true)) tt

pub returns-then-two_of-eq0-clause-some : goal.returns-then-two_of-eq0-clause-some
returns-then-two_of-eq0-clause-some c = rw (long_day-none c.args.text.now (sym c.two_of.ensures.value ∙ c.if-two_of-eq0.true)) refl

named : (c : After-day_in_month) → long_day_of c.args.text.now
    ≡ day_in (100 * two c.args.text.now 0 + two c.args.text.now 2) (two c.args.text.now 4) (two c.args.text.now 6)
named c =
    let yes : is_eight_digits c.args.text.now ≡ true = sym c.if-not-is_eight_digits.ensures in
    let not_zero : eqb (two c.args.text.now 6) 0 ≡ false =
    ne_eqb (two c.args.text.now 6) 0 (λ zero_day. c.if-two_of-eq0.false (c.two_of.ensures.value ∙ zero_day)) in
    long_day-eight c.args.text.now yes not_zero

day_is : (c : After-day_in_month) → IsDay c.day_in_month.result
    (day_in (100 * two c.args.text.now 0 + two c.args.text.now 2) (two c.args.text.now 4) (two c.args.text.now 6))
day_is c =
    subst (λ d. IsDay c.day_in_month.result (day_in (100 * two c.args.text.now 0 + two c.args.text.now 2) (two c.args.text.now 4) d)) c.two_of-3.ensures.value
    (subst (λ m. IsDay c.day_in_month.result (day_in (100 * two c.args.text.now 0 + two c.args.text.now 2) m c.two_of-3.result)) c.two_of-2.ensures.value
    (subst (λ y. IsDay c.day_in_month.result (day_in y c.two_of-2.result c.two_of-3.result)) c.year_of.ensures.value c.day_in_month.ensures))

pub returns-clause-day : goal.returns-clause-day
returns-clause-day c = rw (named (goal.at.returns-clause-day c).After-day_in_month) (day_is (goal.at.returns-clause-day c).After-day_in_month)

pub returns-clause-some : goal.returns-clause-some
returns-clause-some c = rw (named (goal.at.returns-clause-some c).After-day_in_month)
    (some_day c.day_in_month.result (day_in (100 * two c.args.text.now 0 + two c.args.text.now 2) (two c.args.text.now 4) (two c.args.text.now 6))
    (day_is (goal.at.returns-clause-some c).After-day_in_month))
