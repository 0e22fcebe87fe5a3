use Rattle.std.proofs.Common.{◌≡◌, ◌+◌, ◌≤◌, ◌++◌, length, take}
use Rattle.digits_core.specs.Digits.{ascii_of}
use Rattle.gs1_c.proofs.symbol.push_widths.Given as goal

abbrev pub invariant-widths : goal.invariant-widths
invariant-widths l = l.line.items ≡ l.fn.line.items ++ ascii_of (take l.width-index l.widths)
