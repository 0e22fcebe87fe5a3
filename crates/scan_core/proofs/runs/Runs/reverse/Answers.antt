use Rattle.std.proofs.Common.{subst, sym}
use Rattle.scan_core.specs.Row.{IsRow}
use Rattle.scan_core.specs.declared.runs.Kept.{Kept}
use Rattle.scan_core.proofs.TurnedFacts.{IsRow-reverse}
use Rattle.scan_core.proofs.runs.Runs.reverse.Goals as goal

pub invariant_of-self : goal.invariant_of-self
invariant_of-self c =
    let kept = c.deref_mut-kept.result.now in
    let row : IsRow kept.widths.list = subst (λ (k : Kept). IsRow k.widths.list) (sym c.deref_mut-kept.ensures.value) c.self.invariant.0 in
    (rw c.reverse.ensures (IsRow-reverse kept.widths.list row), λ yes. absurd cc)
