use Rattle.std.proofs.Common.{◌≡◌, ◌∙◌, ◌-◌, ◌≤◌, arith, false, inl, inr, refl, sym, ℕ}
use Rattle.std.specs.Prelude.{◌==◌, slice_get}
use Rattle.std.proofs.lemmas.Bool.{cases_Bool, eqb-true}
use Rattle.std.proofs.lemmas.Option.{slice_get-get_or, slice_get_past}
use Rattle.answer_core.specs.Refusals.{refusal_numbered, refusals}
use Rattle.answer_core.proofs.format.refusal_numbered.Goals as goal

not_zero : (n : ℕ) → 1 ≤ n → (n == 0) ≡ false
not_zero n some = elim (cases_Bool (n == 0)) [
  | inl is ↦ absurd (omega (arith, some, eqb-true n 0 is))
  | inr other ↦ other
]

numbered : (n i : ℕ) → 1 ≤ n → i ≡ n - 1 → slice_get refusals i ≡ refusal_numbered n
numbered n i some is = rw (not_zero n some, is) refl

pub returns-then-index-lt44 : goal.returns-then-index-lt44
returns-then-index-lt44 c =
    let one = c.in_ok-checked_sub.ensures in
    let i = c.from-index.result in
    let within : i ≤ 43 = omega arith in
    sym (slice_get-get_or refusals i _ (omega (arith, within))) ∙ numbered c.args.number i one.0 (c.from-index.ensures ∙ one.1)

pub returns-else-index-lt44 : goal.returns-else-index-lt44
returns-else-index-lt44 c =
    let one = c.in_ok-checked_sub.ensures in
    let i = c.from-index.result in
    let past : 44 ≤ i = omega arith in
    sym (slice_get_past refusals i (omega (arith, past))) ∙ numbered c.args.number i one.0 (c.from-index.ensures ∙ one.1)
