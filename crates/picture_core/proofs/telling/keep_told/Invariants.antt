use Rattle.std.proofs.Common.{◌≤◌, length, take}
use Rattle.std.specs.Prelude.{All, AllPairs}
use Rattle.picture_core.specs.Told.{AreApartIn, IsSomeSymbolIn}
use Rattle.picture_core.proofs.telling.keep_told.Given as goal

abbrev pub invariant-symbols : goal.invariant-symbols
invariant-symbols l = record {
  few : length l.symbols.items ≤ length l.fn.symbols.items;
  within : l.count ≤ length l.symbols.items;
  told : All (IsSomeSymbolIn l.picture l.level l.year) (take l.count l.symbols.items);
  apart : AllPairs AreApartIn (take l.count l.symbols.items);
}
