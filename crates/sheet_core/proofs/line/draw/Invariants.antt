use Rattle.std.proofs.Common.{◌≡◌, ◌+◌, ◌*◌, take, sum, true}
use Rattle.sheet_core.proofs.CellFacts.{colour}
use Rattle.sheet_core.proofs.DarkDots.{Has}
use Rattle.sheet_core.proofs.line.draw.Given as goal

abbrev pub invariant-loop-module : goal.invariant-loop-module
invariant-loop-module l = record {
  at_is : l.at ≡ l.from + l.dots * sum (take l.module-index l.modules);
  dark_is : l.dark ≡ colour true l.module-index;
  has : Has l.line l.fn.line l.from l.dots (take l.module-index l.modules);
}
