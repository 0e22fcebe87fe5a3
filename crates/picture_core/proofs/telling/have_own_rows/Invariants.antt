use Rattle.std.proofs.Common.{◌<◌, ℕ}
use Rattle.picture_core.specs.Order.{symbol_at}
use Rattle.picture_core.specs.Told.{HasOwnRows}
use Rattle.picture_core.proofs.telling.have_own_rows.Given as goal

abbrev pub invariant-symbols : goal.invariant-symbols
invariant-symbols l = (place : ℕ) → place < l.place → HasOwnRows (symbol_at l.symbols place)
