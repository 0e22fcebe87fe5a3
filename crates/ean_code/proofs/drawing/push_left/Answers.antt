use Rattle.std.proofs.Common.{◌∙◌, ◌++◌, refl, sym, ap, arith, get_or, length, ◌-◌}
use Rattle.std.specs.List.{flat_map}
use Rattle.std.proofs.lemmas.List.{append_assoc, length-map, take_all}
use Rattle.digits_core.specs.Digits.{digits_of}
use Rattle.ean_code.specs.declared.number_sets.NumberSet.TheVariants.{A}
use Rattle.ean_code.specs.NumberSets.{characters_in, in_set, left_widths}
use Rattle.ean_code.proofs.Characters.{length-characters}
use Rattle.ean_code.proofs.Drawn.{left_more}
use Rattle.ean_code.proofs.drawing.push_left.Goals as goal

pub loop-i-preserved : goal.loop-i-preserved
loop-i-preserved c = record {
  count = omega (arith, c.push_character.ensures.len);
  drawn =
      c.push_character.ensures.items
      ∙ ap (λ ws. ws ++ left_widths (in_set (get_or c.args.row.now c.loop-i.i A) (get_or c.args.digits.now c.loop-i.i 0 - 48))) c.loop-i.invariant.drawn
      ∙ append_assoc c.args.widths.now.items _ _
      ∙ ap (λ ws. c.args.widths.now.items ++ ws) (sym (left_more c.args.row.now c.args.digits.now c.loop-i.i (omega arith) c.requires.row));
}

pub returns-clause-items : goal.returns-clause-items
returns-clause-items c =
    let row = c.args.row.now in
    let ds = digits_of c.args.digits.now in
    c.loop-i.invariant.drawn
    ∙ ap (λ xs. c.args.widths.now.items ++ flat_map left_widths xs)
    (take_all c.loop-i.i (characters_in row ds) (omega (
      arith,
      length-characters row ds (length row) refl
          (length-map c.args.digits.now _ ∙ sym c.requires.row),
    )))
