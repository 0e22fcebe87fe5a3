use Rattle.picture_core.proofs.said.Said.of_widths.Goals as goal

pub invariant_of-add : goal.invariant_of-add
invariant_of-add c =
    let refused = rw c.in-Ok-Refused.field-0-is at c.in-Ok-Refused.ensures.ok in
    record { of_widths = ∣ (c.args.widths.now, refused) ∣₁ }
