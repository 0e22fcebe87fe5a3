use Rattle.std.proofs.Common.{◌≡◌, ◌%◌, ◌<◌, drop}
use Rattle.element_core.specs.Checks.{account_number}
use Rattle.element_core.proofs.checks.account_remainder.Given as goal

abbrev pub invariant-loop-byte : goal.invariant-loop-byte
invariant-loop-byte l = record { told : account_number l.number (drop l.byte-index l.text) % 97 ≡ account_number l.before l.text % 97; small : l.number < 97 }
