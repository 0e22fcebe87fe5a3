use Rattle.std.proofs.Common.{◌≡◌, ◌∙◌, ◌-◌, ap, arith, refl}
use Rattle.scan_core.specs.Bits.{dots_at}
use Rattle.scan_core.specs.DotRuns.{runs_of_dots}
use Rattle.scan_core.proofs.RowParts.{part_of, row_of_dots}
use Rattle.scan_core.proofs.RowFacts.{row_short}
use Rattle.scan_core.proofs.dot_symbols.DotSymbols.of_dots.Goals as goal

pub invariant_of-result : goal.invariant_of-result
invariant_of-result c =
    let few = c.ranges.width.fits in
    let row = row_of_dots c.args.bits.now c.args.width (omega arith) in
    let odd = row.0.odd_number in
    let found = c.first_runs.ensures in
    let same : c.from.result ≡ c.args.width - 0 = let e = c.from.ensures in omega arith in
    record {
      enough = c.requires;
      part = part_of c.args.bits.now c.args.width 0 0 c.first_runs.result (omega arith) refl (omega arith) refl
          (found.0, found.1, found.2 ∙ ap (dots_at c.args.bits.now 0) same, found.3);
      light = refl;
      early = λ more. omega arith;
    }

pub returns-clause-row : goal.returns-clause-row
returns-clause-row c = let few = c.ranges.width.fits in (row_of_dots c.args.bits.now c.args.width (omega arith)).0

pub returns-clause-dots : goal.returns-clause-dots
returns-clause-dots c = let few = c.ranges.width.fits in (row_of_dots c.args.bits.now c.args.width (omega arith)).1

pub returns-clause-few : goal.returns-clause-few
returns-clause-few c =
    let few = c.ranges.width.fits in
    row_short (runs_of_dots (dots_at c.args.bits.now 0 c.args.width)) (row_of_dots c.args.bits.now c.args.width (omega arith)).0
