use Rattle.std.proofs.Common.{◌≡◌, ◌+◌, ◌-◌, ◌<◌, ◌≤◌, ℕ, subst, arith, inl, inr}
use Rattle.std.proofs.lemmas.Bool.{cases_lt}
use Rattle.shop_core.specs.Drawings.{RowAnswers}
use Rattle.shop_core.proofs.RowFacts.{row_below}
use Rattle.shop_core.proofs.row.rows_answer.Goals as goal
use Rattle.shop_core.proofs.row.rows_answer.Goals.{then-y-top+else-not-row_answers, else-y-top+else-is_edge}

more : (P : ℕ → Type 0) (first n : ℕ) → ((k : ℕ) → first ≤ k → k < n → P k) → P n → (k : ℕ) → first ≤ k → k < n + 1 → P k
more P first n before last k least less = elim (cases_lt k n) [
  | inl small ↦ before k least small
  | inr great ↦ let same : n ≡ k = omega arith in subst P same last
]

pub rows-preserved : goal.rows-preserved
rows-preserved c =
    let P : ℕ → Type 0 = λ y. RowAnswers c.args.parts.now c.args.width y c.args.label.now c.args.year in
    more P c.args.top c.rows.y c.rows.invariant (elim c.if-y-top.branch [
      | then-y-top+else-not-row_answers w ↦ w.row_answers.ensures.0 (cc)
      | else-y-top+else-is_edge w ↦
          let least : c.args.top ≤ c.rows.y - 1 = omega arith in
          let less : c.rows.y - 1 < c.rows.y = omega arith in
          let next : c.rows.y - 1 + 1 ≡ c.rows.y = omega arith in
          row_below c.args.parts.now c.args.width (c.rows.y - 1) c.rows.y c.args.label.now c.args.year next (cc) (c.rows.invariant (c.rows.y - 1) least less)
    ])
