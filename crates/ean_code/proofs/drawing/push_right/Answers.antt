use Rattle.std.proofs.Common.{◌∙◌, ◌++◌, sym, ap, arith, get_or, ◌-◌}
use Rattle.std.proofs.lemmas.List.{append_assoc}
use Rattle.ean_code.specs.NumberSets.{right_widths}
use Rattle.ean_code.proofs.Drawn.{right_more}
use Rattle.ean_code.proofs.drawing.push_right.Goals as goal

pub loop-i-preserved : goal.loop-i-preserved
loop-i-preserved c = record {
  count = omega (arith, c.push_character.ensures.len);
  drawn =
      c.push_character.ensures.items
      ∙ ap (λ ws. ws ++ right_widths (get_or c.args.digits.now c.loop-i.i 0 - 48)) c.loop-i.invariant.drawn
      ∙ append_assoc c.args.widths.now.items _ _
      ∙ ap (λ ws. c.args.widths.now.items ++ ws) (sym (right_more c.args.digits.now c.loop-i.i (omega arith)));
}
