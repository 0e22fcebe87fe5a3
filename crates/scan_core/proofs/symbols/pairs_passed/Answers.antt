use Rattle.std.proofs.Common.{◌≡◌, ◌+◌, ◌*◌, ◌-◌, ap, arith, get_or, inl, inr}
use Rattle.std.proofs.lemmas.Bool.{cases_lt}
use Rattle.scan_core.proofs.WindowFacts.{length-runs_in, runs_in-at}
use Rattle.scan_core.proofs.symbols.pairs_passed.Goals as goal

pub eights-preserved : goal.eights-preserved
eights-preserved c =
    let runs = c.args.widths.now in
    let n = c.eights.passed in
    let at = c.args.first + 2 * n + 1 in
    let count = at + 16 - at in
    let within = c.requires.within in
    let room = c.eights-test.true in
    let many = c.eights.invariant.least in
    record {
      least = omega arith;
      most = omega arith;
      passed = λ k least less.
          elim (cases_lt k n) [
            | inl before ↦ c.eights.invariant.passed k least before
            | inr from ↦
                let i = 2 * (k - n) + 1 in
                let long = length-runs_in runs at count (omega arith) in
                let here = runs_in-at runs at count i (omega arith) in
                let same : at + i ≡ c.args.first + 2 * k + 2 = omega arith in
                let right = ap (λ j. get_or runs j 0) same in
                let low = c.none_wider.ensures c.if-not-none_wider.false i (omega arith) in
                omega arith
          ];
    }
