use Rattle.std.proofs.Common.{subst, sym, arith, [], ◌∷◌}
use Rattle.ean_code.specs.inner.NumberSets.{AreCharacters}
use Rattle.ean_code.proofs.Cells.{AllByRecursion-append}
use Rattle.ean_code.proofs.Joined.{no_gap, one_more}
use Rattle.ean_code.proofs.number_sets.characters.Goals as goal

pub returns-in_err-next-clause-none : goal.returns-in_err-next-clause-none
returns-in_err-next-clause-none c = rw c.from_residual.ensures (no_gap c.args.widths.now c.loop-i.i c.loop-i-test.true c.in_err-next.ensures.none)

pub loop-i-preserved : goal.loop-i-preserved
loop-i-preserved c = record {
  count = omega (arith, c.push.ensures.len);
  valid = subst AreCharacters (sym c.push.ensures.items)
      (AllByRecursion-append _ c.loop-i.found.items (c.in_ok-next.next ∷ []) c.loop-i.invariant.valid (c.in_ok-next.ensures.found.0, tt));
  read = rw c.push.ensures.items (one_more c.args.widths.now c.loop-i.i c.loop-i.found.items c.in_ok-next.next c.loop-i.invariant.read
      c.in_ok-next.ensures.found.1);
}
