use Rattle.scan_core.proofs.CandidateFacts.{none_fixed}
use Rattle.scan_core.proofs.carrier.fixed_candidate.Goals as goal

pub returns-in_err-kind-clause-none : goal.returns-in_err-kind-clause-none
returns-in_err-kind-clause-none c = rw c.from_residual.ensures (none_fixed c.args.run_count c.in_err-kind.ensures.none)
