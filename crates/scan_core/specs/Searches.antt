-- What callers see of a search, and how it goes on.
use Rattle.std.specs.Prelude.{◌+◌}
use Rattle.scan_core.specs.declared.symbols.Symbols.TheInside.{Inside}
use Rattle.scan_core.specs.declared.dot_symbols.DotSymbols.TheInside as dots
use Rattle.scan_core.specs.Bits.{dots_at}
use Rattle.scan_core.specs.Windows.{Search}
use Rattle.scan_core.specs.DotRuns.{runs_of_dots}

-- the widths of the row, and how far it is searched
abbrev pub search_in : Inside → Search
search_in s = record { runs = s.widths.now; year = s.year; first = s.rest.first; least = s.rest.least }

-- the runs of the row of packed dots, and how far it is searched
abbrev pub search_in_dots : dots.Inside → Search
search_in_dots s = record { runs = runs_of_dots (dots_at s.bits.now 0 s.width); year = s.year; first = s.part.before + s.first; least = s.least }
