use Rattle.std.proofs.Common.{◌≡◌, ◌≤◌, drop}
use Rattle.element_core.specs.Rules.{number_after}
use Rattle.element_core.proofs.rules.is_at_most.Given as goal

abbrev pub invariant-loop-byte : goal.invariant-loop-byte
invariant-loop-byte l = record { told : number_after l.number (drop l.byte-index l.text) ≡ number_after 0 l.text; small : l.number ≤ l.greatest }
