use Rattle.std.proofs.Common.{true, false, arith, ◌≡◌, ◌≤◌, ◌∙◌, cond, ℕ, List, Option, Some, None, length, sym}
use Rattle.std.specs.Prelude.{option_map, IfSome}
use Rattle.element_core.specs.declared.family.AiFamily.{AiFamily}
use Rattle.element_core.specs.Table.{row_at}
use Rattle.element_core.specs.inner.Families.{row_with}
use Rattle.element_core.proofs.FamilyLemmas.{family_few, family_short}
use Rattle.element_core.proofs.FirstDigits.{row_by_first_two, too_short}
use Rattle.element_core.proofs.family.family_at.Goals as goal

pub returns-in_default-clause-row : goal.returns-in_default-clause-row
returns-in_default-clause-row c = sym (too_short c.args.text.now c.in_default.len_below)

pub returns-in-len2-up-clause-row : goal.returns-in-len2-up-clause-row
returns-in-len2-up-clause-row c = c.first_with.ensures.row ∙ row_by_first_two c.families_with.result.now c.args.text.now c.in-len2-up.len_at_least
    c.families_with.ensures

short : (r : Option AiFamily) (text : List ℕ) → option_map (λ f. row_with f text) r ≡ row_at text → IfSome r (λ f. length f.least.now ≤ length text)
    → IfSome r (λ f. length f.least.now ≤ 4)
short None text e w = tt
short (Some f) text e w = family_short f text e w

pub returns-in-len2-up-clause-short : goal.returns-in-len2-up-clause-short
returns-in-len2-up-clause-short c = short c.first_with.result c.args.text.now (returns-in-len2-up-clause-row c) c.first_with.ensures.within

two : (r : Option AiFamily) (text : List ℕ) → option_map (λ f. row_with f text) r ≡ row_at text → IfSome r (λ f. length f.parts.now ≤ cond f.profile 2 5)
two None text e = tt
two (Some f) text e = family_few f text e

pub returns-in-len2-up-clause-two : goal.returns-in-len2-up-clause-two
returns-in-len2-up-clause-two c = two c.first_with.result c.args.text.now (returns-in-len2-up-clause-row c)

at_most_five : (r : Option AiFamily) → IfSome r (λ f. length f.parts.now ≤ cond f.profile 2 5) → IfSome r (λ f. length f.parts.now ≤ 5)
at_most_five None t = tt
at_most_five (Some f) t = elim f.profile as (λ p. length f.parts.now ≤ cond p 2 5 → length f.parts.now ≤ 5) [ true ↦ λ k. omega arith | false ↦ λ k. k ] t

pub returns-in-len2-up-clause-few : goal.returns-in-len2-up-clause-few
returns-in-len2-up-clause-few c = at_most_five c.first_with.result (returns-in-len2-up-clause-two c)
