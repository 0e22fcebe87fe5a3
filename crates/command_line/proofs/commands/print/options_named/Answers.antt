use Rattle.command_line.proofs.Matches.{in_none}
use Rattle.command_line.proofs.commands.print.options_named.Goals as goal

pub returns-in_err-grid_named-clause-none : goal.returns-in_err-grid_named-clause-none
returns-in_err-grid_named-clause-none c = in_none c.from_residual.result _ (λ o h. c.in_err-grid_named.ensures.none o.grid h.0)

pub returns-in_err-terms_named-clause-none : goal.returns-in_err-terms_named-clause-none
returns-in_err-terms_named-clause-none c = in_none c.from_residual-in_err-terms_named.result _
    (λ o h. c.in_err-terms_named.ensures.none o.year h.1)
