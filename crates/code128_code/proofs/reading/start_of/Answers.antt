use Rattle.std.proofs.Common.{◌∙◌, arith, sym}
use Rattle.code128_code.proofs.PatternTable.{same_value}
use Rattle.code128_code.proofs.reading.start_of.Goals as goal

pub returns-then-value-lt-START_A-clause-none : goal.returns-then-value-lt-START_A-clause-none
returns-then-value-lt-START_A-clause-none c =
    λ v h k e. let found = c.in_ok-value.ensures.found in
    let same = same_value c.in_ok-value.value v found.0 (omega arith) (found.1 ∙ sym e) in
    let low = c.if-value-lt-START_A.true in omega arith
