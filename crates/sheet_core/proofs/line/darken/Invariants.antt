use Rattle.std.proofs.Common.{◌≡◌, ℕ, ◌||◌}
use Rattle.scan_core.specs.Bits.{dot_at}
use Rattle.sheet_core.proofs.ByteFacts.{is_dark}
use Rattle.sheet_core.proofs.line.darken.Given as goal

abbrev pub invariant-loop-i : goal.invariant-loop-i
invariant-loop-i l = (k : ℕ) → dot_at l.line k ≡ (is_dark l.from l.end l.i k || dot_at l.fn.line k)
