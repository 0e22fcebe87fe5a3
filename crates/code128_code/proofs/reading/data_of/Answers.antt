use Rattle.std.proofs.Common.{◌∙◌, arith, sym}
use Rattle.code128_code.proofs.PatternTable.{same_value}
use Rattle.code128_code.proofs.reading.data_of.Goals as goal

pub returns-then-value-gt-FNC1-clause-none : goal.returns-then-value-gt-FNC1-clause-none
returns-then-value-gt-FNC1-clause-none c =
    λ v h e. let found = c.in_ok-value.ensures.found in
    let same = same_value c.in_ok-value.value v found.0 (omega arith) (found.1 ∙ sym e) in
    let high = c.if-value-gt-FNC1.true in omega arith
