use Rattle.std.proofs.Common.{[], ◌∷◌, arith, subst, sym}
use Rattle.code128_code.specs.Symbols.{AreValues}
use Rattle.ean_code.proofs.Cells.{AllByRecursion-append}
use Rattle.code128_code.proofs.OneCharacterList.{no_gap, one_more}
use Rattle.code128_code.proofs.reading.data_values.Goals as goal

pub returns-in_err-value-clause-none : goal.returns-in_err-value-clause-none
returns-in_err-value-clause-none c = rw c.from_residual.ensures (no_gap c.args.widths.now c.loop-i.i c.loop-i-test.true c.in_err-value.ensures.none)

pub loop-i-preserved : goal.loop-i-preserved
loop-i-preserved c = record {
  count = omega (arith, c.push.ensures.len);
  valid = subst AreValues (sym c.push.ensures.items)
      (AllByRecursion-append _ c.loop-i.values.items (c.in_ok-value.value ∷ []) c.loop-i.invariant.valid (c.in_ok-value.ensures.found.0, tt));
  read = rw c.push.ensures.items (one_more c.args.widths.now c.loop-i.i c.loop-i.values.items c.in_ok-value.value c.loop-i.invariant.read
      c.in_ok-value.ensures.found.1);
}
