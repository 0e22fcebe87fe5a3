use Rattle.std.proofs.Common.{◌≡◌, ℕ, List, ◌+◌, ◌*◌, ◌≤◌, ap₂, arith, get_or}
use Rattle.std.proofs.lemmas.Nat.{mul-le}
use Rattle.code128_code.proofs.ReplacedCheckCharacter.{by_place-more}
use Rattle.code128_code.proofs.check.check_character.Goals as goal

pub overflow_mul-sum : goal.overflow_mul-sum
overflow_mul-sum c =
    let small : get_or c.args.values.now c.loop-value.value-index 0 ≤ 255 = (let fits = c.type_inv.values c.loop-value.value-index in omega arith) in
    let product = mul-le c.loop-value.place c.from.result 96 255 (omega arith) (omega arith) in omega arith

pub loop-value-preserved : goal.loop-value-preserved
loop-value-preserved c =
    let vs : List ℕ = c.args.values.now in
    let i : ℕ = c.loop-value.value-index in
    let small : get_or vs i 0 ≤ 255 = (let fits = c.type_inv.values i in omega arith) in
    let product = mul-le c.loop-value.place c.from.result 96 255 (omega arith) (omega arith) in
    let more = by_place-more vs i c.loop-value-test.true in
    let term : c.loop-value.place * c.from.result ≡ (i + 1) * get_or vs i 0 = ap₂ (λ m n. m * n) c.loop-value.invariant.place_is c.from.ensures in
    record { place_is = omega arith; sum_is = omega arith; bound = omega arith }
