use Rattle.std.proofs.Common.{◌≡◌, ◌+◌, ◌*◌, ◌<◌, ◌≤◌, ℕ, List, get_or, length, sum, take, ap₂, arith, inl, inr, subst, sym}
use Rattle.std.proofs.lemmas.Bool.{cases_lt}
use Rattle.shop_core.specs.Drawings.{IsBar}
use Rattle.shop_core.specs.declared.part.Zone.{Zone}
use Rattle.shop_core.proofs.BarFacts.{few_dots, one_run_more}
use Rattle.shop_core.proofs.bars.are_bars.Goals as goal

pub modules-preserved : goal.modules-preserved
modules-preserved c =
    let xs : List ℕ = c.args.modules.now in
    let k : ℕ = c.modules.k in
    let z : Zone = c.args.zone.now in
    let dots : ℕ = c.args.dots in
    let inv = c.modules.invariant in
    let width : c.from.result * c.from-in-modules.result ≡ dots * get_or xs k 0 = ap₂ (λ (a b : ℕ). a * b) c.from.ensures c.from-in-modules.ensures in
    let low : k < length xs = omega arith in
    let narrow : get_or xs k 0 ≤ 255 = (let h = c.type_inv.modules k in omega arith) in
    let few : dots * get_or xs k 0 ≤ 16711425 = few_dots dots (get_or xs k 0) (omega arith) narrow in
    let more = one_run_more xs k dots low in
    record {
      at_is = omega (arith, inv.at_is, width, more);
      few = omega (arith, inv.few, width, few);
      bars = λ j p within. elim (cases_lt (2 * j) k) [
        | inl small ↦ inv.bars j p small
        | inr great ↦
            let same : 2 * j ≡ k = omega arith in
            let bar = c.is_bar_at.ensures.0 (cc) j p same in
            subst (λ (n : ℕ). IsBar z (z.from + dots * sum (take n xs)) (dots * get_or xs n 0) (get_or c.args.parts.now j p)) (sym same)
            (subst (λ (left : ℕ). IsBar z left (dots * get_or xs k 0) (get_or c.args.parts.now j p)) inv.at_is
            (subst (λ (w : ℕ). IsBar z c.modules.at w (get_or c.args.parts.now j p)) width bar))
      ];
    }
