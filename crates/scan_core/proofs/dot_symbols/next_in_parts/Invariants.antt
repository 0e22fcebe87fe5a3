use Rattle.std.proofs.Common.{◌≡◌, ◌⊎◌, ◌+◌, ◌-◌, ◌%◌, ◌<◌, ◌≤◌, length, true}
use Rattle.scan_core.specs.Bits.{dots_at}
use Rattle.scan_core.specs.declared.window.Window.{Window}
use Rattle.scan_core.specs.Windows.{IsLeft, IsSymbolOf}
use Rattle.scan_core.specs.DotRuns.{runs_of_dots}
use Rattle.scan_core.specs.inner.Parts.{IsPart}
use Rattle.scan_core.proofs.dot_symbols.next_in_parts.Given as goal

abbrev pub invariant-parts : goal.invariant-parts
invariant-parts l = record {
  part : IsPart (dots_at l.bits 0 l.width) l.part;
  further : l.fn.part.before ≤ l.part.before;
  light : l.first % 2 ≡ 0;
  early : l.part.runs.more ≡ true → l.first ≤ 598;
  behind : (l.fn.part.before + l.fn.first < l.part.before + l.first) ⊎ ((l.fn.part.before + l.fn.first ≡ l.part.before + l.first) × (l.fn.least ≤ l.least));
  passed : (v : Window) → IsSymbolOf (runs_of_dots (dots_at l.bits 0 l.width)) l.year v
      → IsLeft (record { runs = runs_of_dots (dots_at l.bits 0 l.width); year = l.year; first = l.fn.part.before + l.fn.first; least = l.fn.least }) v
      → IsLeft (record { runs = runs_of_dots (dots_at l.bits 0 l.width); year = l.year; first = l.part.before + l.first; least = l.least }) v;
}

abbrev pub decreases-parts : goal.decreases-parts
decreases-parts l = length (runs_of_dots (dots_at l.bits 0 l.width)) - l.part.before
