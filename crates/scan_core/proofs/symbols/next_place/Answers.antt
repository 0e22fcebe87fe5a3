use Rattle.std.proofs.Common.{◌+◌, ap, arith, get_or, inl, inr, sym}
use Rattle.std.proofs.lemmas.Bool.{cases_lt}
use Rattle.scan_core.proofs.WindowFacts.{window_counts, window_ends}
use Rattle.scan_core.proofs.symbols.next_place.Goals as goal
use Rattle.scan_core.proofs.symbols.next_place.Goals.{then-may_end+in_default, else-may_end}

pub returns-in-Some-clause-next : goal.returns-in-Some-clause-next
returns-in-Some-clause-next c = λ year. record {
  begins_light = c.runs.invariant.light;
  ends_light = c.in-Some.ensures.odd;
  within = c.in-Some.ensures.within;
  left = elim c.runs.invariant.behind [
    | inl less ↦ inl less
    | inr same ↦ let more = same.1 in let least = c.in-Some.ensures.least in inr (same.0, omega arith)
  ];
  none_before = λ v s left before. elim (c.runs.invariant.passed year v s left) [
    | inl more ↦ elim before [
      | inl less ↦ omega arith
      | inr same ↦ let first = same.0 in omega arith
    ]
    | inr at ↦ elim before [
      | inl less ↦ let first = at.0 in omega arith
      | inr same ↦ c.in-Some.ensures.shortest year v s (sym at.0) at.1 same.1
    ]
  ];
}

pub runs-preserved : goal.runs-preserved
runs-preserved c = record {
  light = let light = c.runs.invariant.light in omega arith;
  behind = elim c.runs.invariant.behind [
    | inl less ↦ inl (omega arith)
    | inr same ↦ let first = same.0 in inl (omega arith)
  ];
  passed = λ year v s left. elim (c.runs.invariant.passed year v s left) [
    | inl more ↦
        let light = s.begins_light in
        let here = c.runs.invariant.light in
        elim (cases_lt (c.runs.start + 2) v.first) [
          | inl less ↦ inl less
          | inr rest ↦ inr (omega arith, omega arith)
        ]
    | inr at ↦ absurd (elim c.if-may_end.branch [
      | then-may_end+in_default w ↦ w.in_default.ensures.none year v s (sym at.0) at.1
      | else-may_end w ↦
          let runs = c.args.widths.now in
          let ends = (window_ends runs year c.requires.row v s).0 in
          let dark = ends.narrow_dark in
          let light = ends.narrow_light in
          let zero = ap (λ i. get_or runs i 0) at.0 in
          let one = ap (λ i. get_or runs (i + 1) 0) at.0 in
          let two = ap (λ i. get_or runs (i + 2) 0) at.0 in
          let yes = c.may_end.ensures.1 (record { narrow_dark = omega arith; narrow_light = omega arith }) in
          let no = w.if-may_end.false in cc
    ])
  ];
}

pub returns-clause-over : goal.returns-clause-over
returns-clause-over c = λ year v s left.
    let many = (window_counts c.args.widths.now year c.requires.row v s).0 in
    let within = s.within in
    let short = c.runs-test.false in
    elim (c.runs.invariant.passed year v s left) [
      | inl more ↦ omega arith
      | inr at ↦ let first = at.0 in omega arith
    ]
