-- The widths so far are kept with whether each pair was a digit before a space, and are given if all were.
use Rattle.std.proofs.Common.{◌*◌, ◌≡◌, ◌≤◌, ◌∙◌, List, arith, length, subst, sym, ℕ}
use Rattle.std.specs.Option.{IfNone, IfSome}
use Rattle.std.proofs.lemmas.List.{length-replicate, length-set}
use Rattle.csv_records.specs.inner.FrontWidths.{BeginsWithDigits}
use Rattle.csv_records.proofs.lanes.DigitWidths.{found_more, given, no_digits_more, not_given}
use Rattle.csv_records.proofs.lanes.widths.digits.Goals as goal

pub widths-init : goal.widths-init
widths-init g c = record {
  places = length-replicate g.row.N 0;
  found = λ _ k less. absurd (omega (arith, less));
  none = λ clash. cc clash;
}

pub widths-preserved : goal.widths-preserved
widths-preserved g c =
    let inv = c.widths.invariant in
    let widths = c.widths.widths in
    let width = c.width_of_digit-width.result in
    record {
      places = length-set widths c.widths.i width ∙ inv.places;
      found = found_more c.args.text.now widths c.widths.i width c.widths.each (omega (arith, inv.places, c.widths-test.true)) inv.found
          c.width_of_digit-width.ensures.shown;
      none = no_digits_more c.args.text.now c.widths.i g.row.N width c.widths.each (omega (arith, c.widths-test.true)) inv.none c.width_of_digit-width.ensures.each;
    }

pub returns-clause-begins : goal.returns-clause-begins
returns-clause-begins g c =
    let inv = c.widths.invariant in
    let text = c.args.text.now in
    subst (λ found. IfSome found (BeginsWithDigits text)) (sym c.then_some.ensures)
    (given c.widths.each c.widths.widths (BeginsWithDigits text) (λ all i low. inv.found all i (omega (arith, low, inv.places, c.widths-test.false))))

pub returns-clause-few : goal.returns-clause-few
returns-clause-few g c =
    let long : 2 * g.row.N ≤ length c.args.text.now = omega (arith, c.if-text.false) in
    let Few : List ℕ → Type 0 = λ widths. (length widths ≡ g.row.N) × (2 * g.row.N ≤ length c.args.text.now) in
    subst (λ found. IfSome found Few) (sym c.then_some.ensures) (given c.widths.each c.widths.widths Few (λ _. (c.widths.invariant.places, long)))

pub returns-clause-none : goal.returns-clause-none
returns-clause-none g c =
    let None : Type 0 = (widths : List ℕ) → length widths ≡ g.row.N → 2 * g.row.N ≤ length c.args.text.now → BeginsWithDigits c.args.text.now widths → ⊥ in
    subst (λ found. IfNone found None) (sym c.then_some.ensures)
    (not_given c.widths.each c.widths.widths None (λ other widths count _ begins. c.widths.invariant.none other widths count begins))
