use Rattle.std.proofs.Common.{◌≡◌, ◌⊎◌, ◌-◌, ◌%◌, ◌<◌, ◌≤◌, length}
use Rattle.scan_core.specs.declared.window.Window.{Window}
use Rattle.scan_core.specs.Windows.{IsLeft, IsSymbolOf}
use Rattle.element_core.specs.Terms.{Terms}
use Rattle.scan_core.proofs.symbols.next_place.Given as goal

abbrev pub invariant-runs : goal.invariant-runs
invariant-runs l = record {
  light : l.start % 2 ≡ 0;
  behind : (l.first < l.start) ⊎ ((l.first ≡ l.start) × (l.least ≤ l.shortest));
  passed : (year : Terms) (v : Window) → IsSymbolOf l.widths year v → IsLeft (record { runs = l.widths; year = year; first = l.first; least = l.least }) v
      → IsLeft (record { runs = l.widths; year = year; first = l.start; least = l.shortest }) v;
}

abbrev pub decreases-runs : goal.decreases-runs
decreases-runs l = length l.widths - l.start
