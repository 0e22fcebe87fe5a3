use Rattle.std.proofs.Common.{◌+◌, ◌-◌, ◌*◌, ◌∙◌, ◌++◌, sym, ap, arith, get_or}
use Rattle.std.specs.List.{flat_map}
use Rattle.std.proofs.lemmas.List.{append_assoc}
use Rattle.ean_code.specs.TwoOfFive.{pair_widths}
use Rattle.ean_code.proofs.symbologies.Itf14Facts.{all_pairs, pair_more}
use Rattle.ean_code.proofs.symbologies.itf14.push_pairs.Goals as goal

pub loop-i-preserved : goal.loop-i-preserved
loop-i-preserved c = record {
  count = omega (arith, c.push_pair.ensures.len);
  drawn =
      c.push_pair.ensures.items
      ∙ ap (λ ws. ws ++ pair_widths (get_or c.args.digits.now (2 * c.loop-i.i) 0 - 48, get_or c.args.digits.now (2 * c.loop-i.i + 1) 0 - 48))
      c.loop-i.invariant.drawn
      ∙ append_assoc c.args.widths.now.items _ _
      ∙ ap (λ ws. c.args.widths.now.items ++ ws) (sym (pair_more c.args.digits.now c.loop-i.i (omega arith) c.loop-i-test.true));
}

pub returns-clause-items : goal.returns-clause-items
returns-clause-items c =
    c.loop-i.invariant.drawn ∙ ap (λ ps. c.args.widths.now.items ++ flat_map pair_widths ps)
    (all_pairs c.args.digits.now c.loop-i.i (omega arith) (omega (arith, c.loop-i-test.false)))
