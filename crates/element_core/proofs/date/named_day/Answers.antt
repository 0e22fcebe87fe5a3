use Rattle.std.proofs.Common.{◌≡◌, ◌∙◌, ℕ, ap, subst, arith}
use Rattle.element_core.specs.Days.{IsDay, day_in, full_year, two}
use Rattle.element_core.proofs.date.named_day.Goals as goal

pub returns : goal.returns
returns c =
    let year : c.nearest_year-year.result ≡ full_year c.args.reference (two c.args.six.now 0) =
    c.nearest_year-year.ensures.value ∙ ap (full_year c.number.result) c.two_digits.ensures.value
    ∙ ap (λ (r : ℕ). full_year r (two c.args.six.now 0)) c.number.ensures.value in
    let month : c.two_digits-2.result ≡ two c.args.six.now 2 = c.two_digits-2.ensures.value in
    let day : c.two_digits-3.result ≡ two c.args.six.now 4 = c.two_digits-3.ensures.value in
    subst (λ d. IsDay c.day_in_month.result (day_in (full_year c.args.reference (two c.args.six.now 0)) (two c.args.six.now 2) d)) day
    (subst (λ m. IsDay c.day_in_month.result (day_in (full_year c.args.reference (two c.args.six.now 0)) m c.two_digits-3.result)) month
    (subst (λ y. IsDay c.day_in_month.result (day_in y c.two_digits-2.result c.two_digits-3.result)) year c.day_in_month.ensures))

pub two_digits-requires-clause-tens : goal.two_digits-requires-clause-tens
two_digits-requires-clause-tens c = c.requires.digits 0 (omega arith)

pub two_digits-requires-clause-ones : goal.two_digits-requires-clause-ones
two_digits-requires-clause-ones c = c.requires.digits 1 (omega arith)

pub two_digits-requires-2-clause-tens : goal.two_digits-requires-2-clause-tens
two_digits-requires-2-clause-tens c = c.requires.digits 2 (omega arith)

pub two_digits-requires-2-clause-ones : goal.two_digits-requires-2-clause-ones
two_digits-requires-2-clause-ones c = c.requires.digits 3 (omega arith)

pub two_digits-requires-3-clause-tens : goal.two_digits-requires-3-clause-tens
two_digits-requires-3-clause-tens c = c.requires.digits 4 (omega arith)

pub two_digits-requires-3-clause-ones : goal.two_digits-requires-3-clause-ones
two_digits-requires-3-clause-ones c = c.requires.digits 5 (omega arith)
