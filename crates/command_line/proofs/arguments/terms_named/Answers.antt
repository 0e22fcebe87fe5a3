use Rattle.std.proofs.Common.{arith}
use Rattle.command_line.proofs.Matches.{in_none}
use Rattle.command_line.proofs.arguments.terms_named.Goals as goal

pub returns-in_err-number_named-clause-none : goal.returns-in_err-number_named-clause-none
returns-in_err-number_named-clause-none c = in_none c.from_residual.result _
    (λ t h. c.in_err-number_named.ensures.none t.year (omega (arith, h.0.1.1)) h.0.0)
