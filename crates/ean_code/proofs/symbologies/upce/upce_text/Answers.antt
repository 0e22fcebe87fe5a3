use Rattle.std.proofs.Common.{ℕ, List, ◌∙◌, ap, get_or}
use Rattle.ean_code.specs.inner.NumberSets.{character_sets}
use Rattle.ean_code.proofs.symbologies.UpceReading.{last_small, rowE, sixE}
use Rattle.ean_code.proofs.Halves.{same_six}
use Rattle.ean_code.proofs.symbologies.upce.upce_text.Goals as goal

pub returns-in_err-check-clause-none : goal.returns-in_err-check-clause-none
returns-in_err-check-clause-none c = rw c.from_residual-in_err-check.ensures (λ ds e.
    let ws : List ℕ = c.args.widths.now in
    let same = same_six ws _ _ c.in_ok-left.ensures.found (sixE ws ds e) in
    c.in_err-check.ensures.none (get_or ds 6 0) (last_small ws ds e) (ap character_sets (c.as_slice.ensures.value ∙ same) ∙ rowE ws ds e))
