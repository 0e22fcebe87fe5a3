use Rattle.std.proofs.Common.{◌≡◌, ◌++◌, length}
use Rattle.message_core.specs.Coding.{encoded}
use Rattle.answer_core.specs.Written.{is_unreserved}
use Rattle.answer_core.proofs.coded.push_coded.Given as goal

abbrev pub invariant-loop-byte : goal.invariant-loop-byte
invariant-loop-byte l = l.line.items ++ encoded is_unreserved l.rest ≡ l.fn.line.items ++ encoded is_unreserved l.bytes

abbrev pub decreases-loop-byte : goal.decreases-loop-byte
decreases-loop-byte l = length l.rest
