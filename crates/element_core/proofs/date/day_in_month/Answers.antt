use Rattle.std.proofs.Common.{◌≡◌, pos, refl, to_z, w16, w8, FitsSigned, arith}
use Rattle.std.proofs.lemmas.Int.{ints, to_z-of_z}
use Rattle.jiff.proofs.SpanFacts.{signed_arith}
use Rattle.element_core.proofs.DayLemmas.{day_found, day_missing}
use Rattle.element_core.proofs.date.day_in_month.Goals as goal

pub returns-in-Ok-new : goal.returns-in-Ok-new
returns-in-Ok-new c =
    let year : to_z w16 c.args.year ≡ pos c.args.year = omega (arith, ints) in
    let month : to_z w8 c.args.month ≡ pos c.args.month = omega (arith, ints) in
    let fits : FitsSigned w8 c.day_or_last.result = omega (arith, signed_arith) in
    let day = to_z-of_z w8 c.day_or_last.result fits in
    day_found c.args.year c.args.month c.args.day c.day_or_last.result c.in-Ok.first c.in-Ok-new.date (rw (year, month) at c.in-Ok.ensures.value)
    c.day_or_last.ensures.value
    (rw (year, month, day) at (c.in-Ok-new.ensures.succeeds.0 refl)) (rw (year, month, day) at c.in-Ok-new.ensures.value)

pub returns-in-Err : goal.returns-in-Err
returns-in-Err c =
    let year : to_z w16 c.args.year ≡ pos c.args.year = omega (arith, ints) in
    let month : to_z w8 c.args.month ≡ pos c.args.month = omega (arith, ints) in
    let fits : FitsSigned w8 c.day_or_last.result = omega (arith, signed_arith) in
    let day = to_z-of_z w8 c.day_or_last.result fits in
    day_missing c.args.year c.args.month c.args.day c.day_or_last.result c.in-Ok.first (rw (year, month) at c.in-Ok.ensures.value)
    (rw (year, month) at (c.in-Ok.ensures.succeeds.0 refl)) c.day_or_last.ensures.value
    (λ there. let bad = (rw (year, month, day) at c.in-Err.ensures.succeeds).1 there in cc bad)
