use Rattle.std.proofs.Common.{◌≡◌, not, ◌∙◌, ap, ap₂, drop, eqb}
use Rattle.std.specs.Cmp.Lexicographic.{pointwise}
use Rattle.std.proofs.lemmas.List.{drop_at}
use Rattle.ean_code.specs.TwoOfFive.{itf_stop}
use Rattle.ean_code.proofs.symbologies.itf14.framed_pairs.Goals as goal

pub returns-then-ne-2-clause-none : goal.returns-then-ne-2-clause-none
returns-then-ne-2-clause-none c = λ pairs h.
    let stop : c.split_at-2.result.1.now ≡ itf_stop =
    c.split_at-2.ensures.back ∙ ap (drop 70) (c.split_at.ensures.back ∙ ap (drop 4) h.shown) ∙ drop_at pairs itf_stop 70 h.count in
    let other = c.if-ne-2.ensures ∙ ap₂ (λ a b. not (pointwise eqb a b)) stop c.as_slice-2.ensures in cc
