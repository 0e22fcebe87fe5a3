use Rattle.std.proofs.Common.{◌<◌, ◌≤◌, ℕ}
use Rattle.shop_core.specs.Drawings.{RowAnswers}
use Rattle.shop_core.proofs.row.rows_answer.Given as goal

abbrev pub invariant-rows : goal.invariant-rows
invariant-rows l = (y : ℕ) → l.top ≤ y → y < l.y → RowAnswers l.parts l.width y l.label l.year
