use Rattle.std.proofs.Common.{◌≡◌, ◌≤◌, ◌++◌, length}
use Rattle.message_core.specs.Coding.{decoded}
use Rattle.message_core.proofs.coding.decoded.Given as goal

abbrev pub invariant-loop-byte : goal.invariant-loop-byte
invariant-loop-byte l = (l.bytes.items ++ decoded l.plus l.rest ≡ decoded l.plus l.text) × (length l.bytes.items ≤ 192)

abbrev pub decreases-loop-byte : goal.decreases-loop-byte
decreases-loop-byte l = length l.rest
