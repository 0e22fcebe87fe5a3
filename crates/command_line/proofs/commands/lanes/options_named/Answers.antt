use Rattle.std.proofs.Common.{List, arith, codes, subst, sym}
use Rattle.clap.specs.Words.{Row, found_of, rows_of}
use Rattle.command_line.specs.Arguments.{HasNumber, HasTerms}
use Rattle.command_line.proofs.Matches.{in_none, some_with}
use Rattle.command_line.proofs.commands.lanes.options_named.Goals as goal

pub returns-in_err-byte_named-clause-none : goal.returns-in_err-byte_named-clause-none
returns-in_err-byte_named-clause-none c = in_none c.from_residual.result _ (λ o h. c.in_err-byte_named.ensures.none o.lanes (omega (arith, o.some_lanes.1)) h.0)

pub returns-in_err-byte_named-2-clause-none : goal.returns-in_err-byte_named-2-clause-none
returns-in_err-byte_named-2-clause-none c = in_none c.from_residual-in_err-byte_named-2.result _
    (λ o h. c.in_err-byte_named-2.ensures.none o.workers (omega (arith, o.some_workers.1)) h.2.0)

pub returns-in_err-terms_named-clause-none : goal.returns-in_err-terms_named-clause-none
returns-in_err-terms_named-clause-none c = in_none c.from_residual-in_err-terms_named.result _
    (λ o h. c.in_err-terms_named.ensures.none o.year h.3)

pub returns-clause-some : goal.returns-clause-some
returns-clause-some c =
    let rows : List Row = rows_of (found_of c.args.matches.now) in
    some_with c.by.result c.by.ensures.numbers c.by.ensures.taken.0 (λ o has taken. (
      subst (HasNumber (codes "lanes") rows) (sym has.0) c.in_ok-byte_named.ensures.some,
      o.some_lanes,
      (subst (HasNumber (codes "workers") rows) (sym has.1) c.in_ok-byte_named-2.ensures.some, o.some_workers),
      subst (HasTerms rows) (sym has.2) c.in_ok-terms_named.ensures.some,
    ))
