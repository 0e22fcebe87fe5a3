use Rattle.std.proofs.Common.{◌∙◌, ap, slice_set}
use Rattle.gs1_c.specs.Drawn.{lent_part}
use Rattle.gs1_c.proofs.PartFacts.{written_more}
use Rattle.gs1_c.proofs.drawing.write_parts.Goals as goal

pub parts-preserved : goal.parts-preserved
parts-preserved c = ap (slice_set c.parts.out c.parts.k) c.lent_part.ensures
    ∙ written_more lent_part c.args.parts.now c.args.out.now c.parts.out c.parts.k _ c.parts-test.true c.if-parts-out.false c.parts.invariant
