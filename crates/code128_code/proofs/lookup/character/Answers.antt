use Rattle.std.proofs.Common.{◌≡◌, get_or, subst, arith}
use Rattle.code128_code.specs.declared.lookup.TheConstants.{VALUES}
use Rattle.code128_code.proofs.PatternTable.{packed_low, value_at, value_found}
use Rattle.code128_code.proofs.lookup.character.Goals as goal

pub returns-then-packed-ge4096-clause-none : goal.returns-then-packed-ge4096-clause-none
returns-then-packed-ge4096-clause-none c = λ v h e. let low = packed_low v h in let high = c.if-packed-ge4096.true in omega arith

pub returns-then-value-clause-none : goal.returns-then-value-clause-none
returns-then-value-clause-none c =
    λ v h e. let at : get_or VALUES c.args.packed 0 ≡ v = subst (λ i. get_or VALUES i 0 ≡ v) e (value_at v 0 h) in
    let none : get_or VALUES c.args.packed 0 ≡ 255 = c.if-value.true in omega arith

pub returns-else-value-clause-found : goal.returns-else-value-clause-found
returns-else-value-clause-found c = value_found c.args.packed 0 c.if-packed-ge4096.false c.if-value.false
