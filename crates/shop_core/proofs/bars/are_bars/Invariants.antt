use Rattle.std.proofs.Common.{◌≡◌, ◌+◌, ◌*◌, ◌<◌, ◌≤◌, ℕ, get_or, sum, take}
use Rattle.shop_core.specs.Drawings.{IsBar}
use Rattle.shop_core.specs.declared.part.Part.{Part}
use Rattle.shop_core.proofs.bars.are_bars.Given as goal

abbrev pub invariant-modules : goal.invariant-modules
invariant-modules l = record {
  at_is : l.at ≡ l.zone.from + l.dots * sum (take l.k l.modules);
  few : l.at ≤ 4294967295 + 65535 * 255 * l.k;
  bars : (j : ℕ) (p : Part) → 2 * j < l.k → IsBar l.zone (l.zone.from + l.dots * sum (take (2 * j) l.modules)) (l.dots * get_or l.modules (2 * j) 0) (get_or l.parts j p);
}
