use Rattle.std.proofs.Common.{subst, inl, inr}
use Rattle.scan_core.specs.Showing.{HasSize, kind_of}
use Rattle.scan_core.proofs.CandidateFacts.{which}
use Rattle.scan_core.proofs.symbols.is_symbol_count.Goals as goal

pub returns-in-None-None : goal.returns-in-None-None
returns-in-None-None c = λ _ d N h.
    elim (which d) [
      | inl e ↦ c.in-None-None.ensures'.none N (subst (λ o. HasSize (kind_of o) c.args.run_count N) e h)
      | inr ne ↦ c.in-None-None.ensures.none d N ne h
    ]
