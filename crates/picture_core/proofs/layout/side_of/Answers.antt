use Rattle.std.proofs.Common.{◌≡◌, ◌∙◌, ap, arith}
use Rattle.picture_core.specs.Pictures.{side_of, side_up_to}
use Rattle.picture_core.proofs.layout.side_of.Goals as goal

pub returns-clause-value : goal.returns-clause-value
unfolding side_of
returns-clause-value c =
    let all : c.sides.more ≡ 24 = omega arith in
    c.sides.invariant.so_far ∙ ap (side_up_to c.args.dots) all
