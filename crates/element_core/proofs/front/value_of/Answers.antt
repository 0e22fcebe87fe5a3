use Rattle.std.proofs.Common.{ap, ◌∙◌, arith, ℕ, [], take}
use Rattle.element_core.specs.inner.Families.{row_with}
use Rattle.element_core.proofs.Shown.{take-shown, shown-within}
use Rattle.element_core.proofs.front.value_of.Goals as goal

pub split_at-requires : goal.split_at-requires
split_at-requires c = omega (arith, shown-within (row_with c.args.family.now []) c.args.text.now, c.value_length.ensures)

pub returns-clause-value : goal.returns-clause-value
returns-clause-value c = c.split_at.ensures.front ∙ ap (λ (n : ℕ). take n c.args.text.now) c.value_length.ensures
    ∙ take-shown (row_with c.args.family.now []) c.args.text.now
