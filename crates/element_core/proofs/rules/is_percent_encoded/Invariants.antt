use Rattle.std.proofs.Common.{◌≡◌, drop}
use Rattle.element_core.specs.Rules.{is_percent_encoded}
use Rattle.element_core.proofs.rules.is_percent_encoded.Given as goal

abbrev pub invariant-loop-i : goal.invariant-loop-i
invariant-loop-i l = is_percent_encoded (drop l.i l.text) ≡ is_percent_encoded l.text
