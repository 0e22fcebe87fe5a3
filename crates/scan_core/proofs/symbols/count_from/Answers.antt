use Rattle.std.proofs.Common.{◌≡◌, ◌⊎◌, ◌+◌, ◌*◌, ◌-◌, ◌/◌, ◌<◌, ◌≤◌, ℕ, List, ap, arith, get_or, inl, inr, length, slice_index}
use Rattle.std.proofs.lemmas.Bool.{cases_lt}
use Rattle.scan_core.specs.inner.Searches.{HasRun}
use Rattle.scan_core.specs.Windows.{runs_in}
use Rattle.scan_core.proofs.WindowFacts.{length-runs_in, none_past, runs_in-at, window_counts, window_narrow}
use Rattle.scan_core.proofs.symbols.count_from.Goals as goal
use Rattle.scan_core.proofs.symbols.count_from.Goals.{then-widest-right+else-least-k+else-left-right, else-widest-right}
use Rattle.scan_core.proofs.symbols.count_from.Goals.{else-least-k-via-then-least-k+else-may_be_symbol, else-least-k-via-else-least-k}

-- the widest of the first runs behind the first
first_runs : (runs : List ℕ) (first m : ℕ) → first + 27 ≤ length runs
    → (m ≡ 0) ⊎ ((i : ℕ) × (i < length (runs_in runs (first + 1) (first + 25 - (first + 1))))
    × (slice_index (runs_in runs (first + 1) (first + 25 - (first + 1))) i ≡ m))
    → HasRun runs first 27 m
first_runs runs first m within (inl none) = (first + 1, omega arith, omega arith, omega arith)
first_runs runs first m within (inr run) =
    let long = length-runs_in runs (first + 1) (first + 25 - (first + 1)) (omega arith) in
    let low = run.1 in
    let here = runs_in-at runs (first + 1) (first + 25 - (first + 1)) run.0 (omega arith) in
    let width = run.2 in
    (first + 1 + run.0, omega arith, omega arith, omega arith)

pub returns-then-left-widest-clause-none : goal.returns-then-left-widest-clause-none
returns-then-left-widest-clause-none c = λ year v s first least.
    let runs = c.args.widths.now in
    let many = (window_counts runs year c.requires.row v s).0 in
    let run = first_runs runs c.args.first c.widest_of-widest.result c.requires.within c.widest_of-widest.ensures.reached in
    let after = run.1 in
    let before = run.2 in
    let width = run.3 in
    let wide = c.if-left-widest.true in
    none_past runs year c.requires.row v s c.args.first run.0 first after (omega arith) (omega arith)

pub pairs_passed-k-requires : goal.pairs_passed-k-requires
pairs_passed-k-requires c =
    let odd = c.requires.row.odd_number in
    let light = c.requires.light in
    let most = c.min-pairs.ensures in
    let within = c.requires.within in
    omega arith

pub pairs-init : goal.pairs-init
pairs-init c =
    let runs = c.args.widths.now in
    let k = c.pairs_passed-k.result in
    let many = c.pairs_passed-k.ensures.least in
    let run : HasRun runs c.args.first 27 c.widest_of-widest.result =
    first_runs runs c.args.first c.widest_of-widest.result c.requires.within c.widest_of-widest.ensures.reached in
    let before = run.2 in
    let width = run.3 in
    record {
      many = many;
      reached = (run.0, run.1, omega arith, width);
      shorter = λ year v s first least less.
          let counts = (window_counts runs year c.requires.row v s).0 in
          let ends = s.ends_light in
          let j = (v.count - 3) / 2 in
          let right : v.first + v.count - 1 ≡ c.args.first + 2 * j + 2 = omega arith in
          let end = ap (λ i. get_or runs i 0) right in
          let low = c.pairs_passed-k.ensures.passed j (omega arith) (omega arith) in
          let narrow = (window_narrow runs year c.requires.row v s run.0 (omega arith) (omega arith)).1 in
          omega arith;
    }

pub returns-then-left-right-clause-none : goal.returns-then-left-right-clause-none
returns-then-left-right-clause-none c = λ year v s first least.
    let runs = c.args.widths.now in
    let k = c.pairs.k in
    elim (cases_lt v.count (2 * k + 3)) [
      | inl less ↦ c.pairs.invariant.shorter year v s first least less
      | inr rest ↦
          let odd = s.ends_light in
          elim (cases_lt (2 * k + 3) v.count) [
            | inl more ↦ none_past runs year c.requires.row v s c.args.first (c.args.first + 2 * k + 2) first (omega arith) (omega arith) c.if-left-right.true
            | inr most ↦
                let here : v.count ≡ 2 * k + 3 = omega arith in
                elim c.else-least-k.branch [
                  | else-least-k-via-then-least-k+else-may_be_symbol u ↦ u.may_be_symbol.ensures u.if-may_be_symbol.false year v s first here
                  | else-least-k-via-else-least-k u ↦ omega (arith, u.if-least-k.false)
                ]
          ]
    ]

pub pairs-preserved : goal.pairs-preserved
pairs-preserved c =
    let runs = c.args.widths.now in
    let k = c.pairs.k in
    let run : HasRun runs c.args.first (2 * k + 3) c.pairs.widest = c.pairs.invariant.reached in
    let after = run.1 in
    let before = run.2 in
    let width = run.3 in
    let many = c.pairs.invariant.many in
    record {
      many = omega arith;
      reached = elim c.if-widest-right.branch [
        | then-widest-right+else-least-k+else-left-right w ↦ let same = w.widest-is in (c.args.first + 2 * k + 2, omega arith, omega arith, omega arith)
        | else-widest-right w ↦ let same = w.widest-is in (run.0, run.1, omega arith, omega arith)
      ];
      shorter = λ year v s first least less.
          elim (cases_lt v.count (2 * k + 3)) [
            | inl earlier ↦ c.pairs.invariant.shorter year v s first least earlier
            | inr rest ↦
                let odd = s.ends_light in
                let here : v.count ≡ 2 * k + 3 = omega arith in
                elim c.if-widest-right.branch [
                  | then-widest-right+else-least-k+else-left-right w ↦
                      elim w.else-least-k.branch [
                        | else-least-k-via-then-least-k+else-may_be_symbol u ↦ u.may_be_symbol.ensures u.if-may_be_symbol.false year v s first here
                        | else-least-k-via-else-least-k u ↦ omega (arith, u.if-least-k.false)
                      ]
                  | else-widest-right w ↦
                      let narrow = (window_narrow runs year c.requires.row v s run.0 (omega arith) (omega arith)).1 in
                      let right : v.first + v.count - 1 ≡ c.args.first + 2 * k + 2 = omega arith in
                      let end = ap (λ i. get_or runs i 0) right in
                      omega (arith, w.if-widest-right.false)
                ]
          ];
    }

pub returns-clause-none : goal.returns-clause-none
returns-clause-none c = λ year v s first least.
    let counts = window_counts c.args.widths.now year c.requires.row v s in
    let most = counts.1 in
    let within = s.within in
    elim (cases_lt v.count (2 * c.pairs.k + 3)) [
      | inl before ↦ c.pairs.invariant.shorter year v s first least before
      | inr rest ↦ omega (arith, c.min-pairs.ensures, c.pairs-test.false, c.pairs.invariant.many)
    ]
