use Rattle.std.proofs.Common.{◌≡◌, ◌∙◌, ◌<◌, ℕ, get_or, sym, subst, arith, inl, inr}
use Rattle.std.proofs.lemmas.Bool.{cases_lt}
use Rattle.shop_core.specs.Drawings.{LieApart}
use Rattle.shop_core.proofs.drawing.lie_apart.Goals as goal

pub parts-preserved : goal.parts-preserved
parts-preserved c = λ i j d low order within. elim (cases_lt i c.parts.k) [
  | inl small ↦ c.parts.invariant i j d small order within
  | inr great ↦
      let same : c.parts.k ≡ i = omega arith in
      subst (λ (n : ℕ). n < j → LieApart (get_or c.args.parts.now n d) (get_or c.args.parts.now j d)) same
      (λ less. c.is_apart_behind.ensures.0 (cc) j d less within) order
]

pub returns-then-not-is_apart_behind : goal.returns-then-not-is_apart_behind
returns-then-not-is_apart_behind c =
    ((λ never. cc), (λ all. sym c.if-not-is_apart_behind.true ∙ c.is_apart_behind.ensures.1 (λ j d less within. all c.parts.k j d less within)))
