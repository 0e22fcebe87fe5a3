use Rattle.std.proofs.Common.{subst}
use Rattle.gs1_c.specs.Drawn.{AreWritten}
use Rattle.gs1_c.proofs.drawing.gs1_c_draw.Goals as goal

pub returns-in-Ok-drawn-clause-label : goal.returns-in-Ok-drawn-clause-label
returns-in-Ok-drawn-clause-label c = λ _. record {
  article = c.in-Ok.it.0;
  year = c.in-Ok.it.1;
  drawing = c.in-Ok-drawn.label;
  lent_is = c.in-Ok.ensures.ok;
  label = c.in-Ok-drawn.ensures.label;
  wide = c.in-Ok-drawn.ensures.width;
  high = c.in-Ok-drawn.ensures.height;
  drawing_is = c.lent_drawing.ensures;
  parts_are = subst (λ items. AreWritten items c.args.parts.now c.write_parts.new.out) c.as_slice.ensures.value c.write_parts.ensures;
}
