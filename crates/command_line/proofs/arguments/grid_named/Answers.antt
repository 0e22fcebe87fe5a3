-- Each number of a grid under its name, or none of a grid if one is not there.
use Rattle.std.proofs.Common.{List, arith, codes, subst, sym}
use Rattle.std.proofs.lemmas.Option.{IfSome_then}
use Rattle.clap.specs.Words.{Row, found_of, rows_of}
use Rattle.std.specs.Int.{IsInRange}
use Rattle.command_line.specs.Arguments.{HasNumber}
use Rattle.command_line.specs.Numbers.{most_columns, most_dots, most_grid_rows, most_height, most_width}
use Rattle.command_line.proofs.Matches.{in_none, none_by, one_number}
use Rattle.command_line.proofs.arguments.grid_named.Goals as goal

pub returns-in_err-number_named-clause-none : goal.returns-in_err-number_named-clause-none
returns-in_err-number_named-clause-none c = in_none c.from_residual.result _
    (λ o h. c.in_err-number_named.ensures.none o.module_dots (omega (arith, o.numbers.0.1)) h.0)

pub returns-in_err-number_named-2-clause-none : goal.returns-in_err-number_named-2-clause-none
returns-in_err-number_named-2-clause-none c = in_none c.from_residual-in_err-number_named-2.result _
    (λ o h. c.in_err-number_named-2.ensures.none o.width (omega (arith, o.numbers.1.1)) h.1)

pub returns-in_err-number_named-3-clause-none : goal.returns-in_err-number_named-3-clause-none
returns-in_err-number_named-3-clause-none c = in_none c.from_residual-in_err-number_named-3.result _
    (λ o h. c.in_err-number_named-3.ensures.none o.height (omega (arith, o.numbers.2.1)) h.2)

pub returns-in_err-number_named-4-clause-none : goal.returns-in_err-number_named-4-clause-none
returns-in_err-number_named-4-clause-none c = in_none c.from_residual-in_err-number_named-4.result _
    (λ o h. c.in_err-number_named-4.ensures.none o.columns (omega (arith, o.numbers.3.1)) h.3)

pub returns-in_err-number_named-5-clause-none : goal.returns-in_err-number_named-5-clause-none
returns-in_err-number_named-5-clause-none c = in_none c.from_residual-in_err-number_named-5.result _
    (λ o h. c.in_err-number_named-5.ensures.none o.rows (omega (arith, o.numbers.4.1)) h.4)

pub returns-clause-some : goal.returns-clause-some
returns-clause-some c =
    let rows : List Row = rows_of (found_of c.args.matches.now) in
    IfSome_then c.new.result c.new.ensures.numbers (λ o has. (
      subst (HasNumber (codes "module") rows) (sym has.0) c.in_ok-number_named.ensures.some,
      subst (HasNumber (codes "width") rows) (sym has.1) c.in_ok-number_named-2.ensures.some,
      subst (HasNumber (codes "height") rows) (sym has.2) c.in_ok-number_named-3.ensures.some,
      subst (HasNumber (codes "columns") rows) (sym has.3) c.in_ok-number_named-4.ensures.some,
      subst (HasNumber (codes "rows") rows) (sym has.4) c.in_ok-number_named-5.ensures.some,
      o.numbers,
    ))

pub returns-clause-none : goal.returns-clause-none
returns-clause-none c =
    let rows : List Row = rows_of (found_of c.args.matches.now) in
    none_by c.new.result (λ o h. c.new.ensures.taken.1 (
      subst (IsInRange 1 most_dots) (one_number (codes "module") rows _ _ h.0 c.in_ok-number_named.ensures.some) o.numbers.0,
      subst (IsInRange 1 most_width) (one_number (codes "width") rows _ _ h.1 c.in_ok-number_named-2.ensures.some) o.numbers.1,
      subst (IsInRange 1 most_height) (one_number (codes "height") rows _ _ h.2 c.in_ok-number_named-3.ensures.some) o.numbers.2,
      subst (IsInRange 1 most_columns) (one_number (codes "columns") rows _ _ h.3 c.in_ok-number_named-4.ensures.some) o.numbers.3,
      subst (IsInRange 1 most_grid_rows) (one_number (codes "rows") rows _ _ h.4 c.in_ok-number_named-5.ensures.some) o.numbers.4,
    ))
