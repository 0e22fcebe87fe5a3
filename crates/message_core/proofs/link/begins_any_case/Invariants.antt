use Rattle.std.proofs.Common.{◌≡◌, drop}
use Rattle.message_core.specs.Links.{begins_any_case}
use Rattle.message_core.proofs.link.begins_any_case.Given as goal

abbrev pub invariant-loop-i : goal.invariant-loop-i
invariant-loop-i l = begins_any_case (drop l.i l.small) (drop l.i l.text) ≡ begins_any_case l.small l.text
