-- Parts of a row of packed dots, and its search in them.
use Rattle.std.specs.Prelude.{◌≡◌, ◌+◌, ◌*◌, ◌%◌, ◌<◌, ◌≤◌, ℕ, true, Bool, List, drop, length, sum, take}
use Rattle.scan_core.specs.Bits.{dots_at}
use Rattle.scan_core.specs.DotRuns.{runs_of_dots}
use Rattle.scan_core.specs.inner.FirstRuns.{AreFirst}
use Rattle.scan_core.specs.declared.dot_symbols.Section.{Section}
use Rattle.scan_core.specs.declared.dot_symbols.DotSymbols.TheInside.{Inside}
use Rattle.scan_core.specs.declared.window.Window.{Window}

-- the part of the row with these dots that begins with a light run
pub record IsPart (dots : List Bool) (p : Section) : Type 0 where
  pub light : p.before % 2 ≡ 0
  pub within : p.before < length (runs_of_dots dots)
  pub begins : p.at ≡ sum (take p.before (runs_of_dots dots))
  pub first : AreFirst (drop p.before (runs_of_dots dots)) p.runs

-- a window of a part, in a row that has this many runs before the part
abbrev pub shifted : ℕ → Window → Window
shifted before w = record { first = before + w.first; count = w.count; carrier = w.carrier; elements = w.elements }

-- the dots are there, and the search goes on at a light run of a part: an early one, if the row has more
pub record IsDotSearch (s : Inside) : Type 0 where
  pub enough : s.width ≤ 8 * length s.bits.now
  pub part : IsPart (dots_at s.bits.now 0 s.width) s.part
  pub light : s.first % 2 ≡ 0
  pub early : s.part.runs.more ≡ true → s.first ≤ 598
