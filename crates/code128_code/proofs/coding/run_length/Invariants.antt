use Rattle.std.proofs.Common.{◌≡◌, ◌+◌, drop}
use Rattle.code128_code.specs.Coding.{digits_ahead}
use Rattle.code128_code.proofs.coding.run_length.Given as goal

abbrev pub invariant-loop-i : goal.invariant-loop-i
invariant-loop-i l = digits_ahead l.text ≡ l.i + digits_ahead (drop l.i l.text)
