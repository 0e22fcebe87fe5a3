use Rattle.code128_code.specs.Coding.{coded}
use Rattle.code128_code.proofs.RunsAreCoded.{coded_is_said}
use Rattle.code128_code.proofs.laws.printed_is_said.Goals as goal

pub returns : goal.returns
returns c = λ text modules coded_bytes symbol. record { start = 105; values = coded text; symbol = symbol; says = coded_is_said text coded_bytes }
