use Rattle.std.proofs.Common.{sym, ◌∙◌}
use Rattle.element_core.proofs.FamilyLemmas.{in_family_within}
use Rattle.element_core.proofs.family.first_with.Goals as goal

pub returns-then-is_in_family-clause-within : goal.returns-then-is_in_family-clause-within
returns-then-is_in_family-clause-within c = in_family_within _ _ _ (sym c.is_in_family.ensures ∙ c.if-is_in_family.true)
