use Rattle.std.proofs.Common.{◌<◌, ℕ, get_or}
use Rattle.std.specs.Prelude.{Option, Some}
use Rattle.picture_core.specs.Told.{AreApartIn}
use Rattle.picture_core.specs.declared.symbol.SeenSymbol.{SeenSymbol}
use Rattle.picture_core.proofs.telling.is_apart.Given as goal

abbrev pub invariant-symbols : goal.invariant-symbols
invariant-symbols l = (k : ℕ) (d : Option SeenSymbol) → k < l.place → AreApartIn (get_or l.symbols k d) (Some l.symbol)
