use Rattle.std.proofs.Common.{◌++◌, ◌∙◌, ap, arith, get_or, sym}
use Rattle.std.specs.List.{flat_map}
use Rattle.std.proofs.lemmas.List.{append_assoc, take_all}
use Rattle.ean_code.proofs.Drawn.{flat_map-take}
use Rattle.code128_code.specs.Characters.{pattern}
use Rattle.code128_code.proofs.OneCharacterList.{valid_at}
use Rattle.code128_code.proofs.patterns.push_characters.Goals as goal

pub push_character-requires-clause-value : goal.push_character-requires-clause-value
push_character-requires-clause-value c = let v = valid_at c.args.values.now c.loop-i.i c.requires.valid c.loop-i-test.true in omega arith

pub loop-i-preserved : goal.loop-i-preserved
loop-i-preserved c = record {
  count = omega (arith, c.push_character.ensures.len);
  drawn =
      c.push_character.ensures.items
      ∙ ap (λ ws. ws ++ pattern (get_or c.args.values.now c.loop-i.i 0)) c.loop-i.invariant.drawn
      ∙ append_assoc c.args.widths.now.items _ _
      ∙ ap (λ ws. c.args.widths.now.items ++ ws) (sym (flat_map-take pattern c.args.values.now c.loop-i.i 0 (omega arith)));
}

pub returns-clause-items : goal.returns-clause-items
returns-clause-items c =
    c.loop-i.invariant.drawn
    ∙ ap (λ vs. c.args.widths.now.items ++ flat_map pattern vs) (take_all c.loop-i.i c.args.values.now (omega arith))
