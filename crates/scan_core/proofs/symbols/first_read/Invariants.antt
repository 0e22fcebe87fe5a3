use Rattle.std.proofs.Common.{◌≡◌, ◌⊎◌, ◌+◌, ◌-◌, ◌*◌, ◌%◌, ◌<◌, ◌≤◌, length}
use Rattle.scan_core.specs.declared.window.Window.{Window}
use Rattle.scan_core.specs.Windows.{IsLeft, IsSymbolOf}
use Rattle.scan_core.proofs.symbols.first_read.Given as goal

abbrev pub invariant-places : goal.invariant-places
invariant-places l = record {
  unchanged : l.rest ≡ l.fn.rest;
  begins_light : l.here.first % 2 ≡ 0;
  ends_light : l.here.count % 2 ≡ 1;
  within : l.here.first + l.here.count ≤ length l.widths;
  behind : (l.fn.place.first < l.here.first) ⊎ ((l.fn.place.first ≡ l.here.first) × (l.fn.place.count ≤ l.here.count));
  passed : (v : Window) → IsSymbolOf l.widths l.year v
      → IsLeft (record { runs = l.widths; year = l.year; first = l.fn.place.first; least = l.fn.place.count }) v
      → IsLeft (record { runs = l.widths; year = l.year; first = l.here.first; least = l.here.count }) v;
}

abbrev pub decreases-places : goal.decreases-places
decreases-places l = (length l.widths - l.here.first) * 65540 + (65540 - l.here.count)
