use Rattle.std.proofs.Common.{◌≡◌, ◌∙◌, ap, arith, get_or, inl, inr}
use Rattle.std.proofs.lemmas.Bool.{cases_lt}
use Rattle.scan_core.proofs.symbols.widest_of.Goals as goal

pub runs-preserved : goal.runs-preserved
runs-preserved c = record {
  reached =
      let ws = c.args.widths.now in
      let i = c.runs.i in
      let most = c.max-widest.ensures in
      elim (cases_lt (get_or ws i 0) c.runs.widest) [
        | inl less ↦ elim c.runs.invariant.reached [
          | inl none ↦ absurd (omega arith)
          | inr run ↦ let before = run.1 in let same : c.runs.widest ≡ c.max-widest.result = omega arith in inr (run.0, omega arith, run.2 ∙ same)
        ]
        | inr rest ↦ let same : get_or ws i 0 ≡ c.max-widest.result = omega arith in inr (i, omega arith, same)
      ];
  passed = λ j low.
      let most = c.max-widest.ensures in
      elim (cases_lt j c.runs.i) [
        | inl before ↦ let least = c.runs.invariant.passed j before in omega arith
        | inr rest ↦
            let here : j ≡ c.runs.i = omega arith in
            let same = ap (λ k. get_or c.args.widths.now k 0) here in omega arith
      ];
}
