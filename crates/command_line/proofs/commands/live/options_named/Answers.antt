use Rattle.std.proofs.Common.{List, codes, subst, sym}
use Rattle.clap.specs.Words.{Row, found_of, rows_of}
use Rattle.command_line.specs.Arguments.{HasFlag}
use Rattle.command_line.specs.commands.Lanes.{HasLanes}
use Rattle.command_line.proofs.Matches.{in_none}
use Rattle.command_line.proofs.commands.live.options_named.Goals as goal

pub returns-in_err-rows-clause-none : goal.returns-in_err-rows-clause-none
returns-in_err-rows-clause-none c = in_none c.from_residual.result _ (λ o h. c.in_err-rows.ensures.none o.rows h.0)

pub returns-clause-some : goal.returns-clause-some
returns-clause-some c =
    let rows : List Row = rows_of (found_of c.args.matches.now) in (
      subst (HasLanes rows) (sym c.new.ensures.rows) c.in_ok-rows.ensures.some,
      subst (HasFlag (codes "elements") rows) (sym c.new.ensures.form) c.in_ok-flag_named.ensures.some,
    )
