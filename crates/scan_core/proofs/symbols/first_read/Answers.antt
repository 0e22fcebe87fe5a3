use Rattle.std.proofs.Common.{◌≡◌, ℕ, ◌+◌, ◌-◌, ◌%◌, ◌≤◌, List, length, ap, ap₂, arith, drop, inl, inr, refl, subst, sym, take}
use Rattle.scan_core.specs.Answers.{IsAnswer}
use Rattle.scan_core.specs.Laws.{OneAnswer}
use Rattle.scan_core.specs.Row.{IsRow}
use Rattle.scan_core.specs.Windows.{IsSymbolOf, Search, runs_in}
use Rattle.scan_core.specs.declared.window.Window.{Window}
use Rattle.scan_core.specs.declared.answer.Answer.TheVariants.{Read, Refused}
use Rattle.scan_core.specs.declared.fault.RowFault.{RowFault}
use Rattle.scan_core.proofs.RowFacts.{row_short}
use Rattle.scan_core.proofs.SearchFacts.{at_place, behind_here}
use Rattle.scan_core.proofs.WindowFacts.{IsRow-runs_in}
use Rattle.element_core.specs.Terms.{Terms}
use Rattle.scan_core.proofs.symbols.first_read.Goals as goal

sliced : (first count : ℕ) (runs : List ℕ) → take (first + count - first) (drop first runs) ≡ runs_in runs first count
sliced first count runs = ap (λ n. take n (drop first runs)) (let e : first + count - first ≡ count = omega arith in e)

pub places-init : goal.places-init
places-init c = record {
  unchanged = refl;
  begins_light = c.requires.begins_light;
  ends_light = c.requires.ends_light;
  within = c.requires.within;
  behind = inr (refl, omega arith);
  passed = λ v s left. left;
}

pub overflow_add-first : goal.overflow_add-first
overflow_add-first c =
    let within = c.places.invariant.within in
    let short = row_short c.args.widths.now c.requires.row in omega arith

pub offset_bounds-widths-first : goal.offset_bounds-widths-first
offset_bounds-widths-first c =
    let within = c.places.invariant.within in
    let short = row_short c.args.widths.now c.requires.row in omega arith

pub overflow_add-count : goal.overflow_add-count
overflow_add-count c =
    let within = c.places.invariant.within in
    let short = row_short c.args.widths.now c.requires.row in omega arith

pub slice_bounds-found_in-end : goal.slice_bounds-found_in-end
slice_bounds-found_in-end c = c.places.invariant.within

pub found_in-found-requires : goal.found_in-found-requires
found_in-found-requires c =
    let i = c.places.invariant in
    let runs = c.args.widths.now in
    let here = c.places.here in
    subst IsRow (sym (sliced here.first here.count runs)) (IsRow-runs_in runs here.first here.count c.requires.row i.within i.ends_light)

pub returns-in-Read-clause-next : goal.returns-in-Read-clause-next
returns-in-Read-clause-next c =
    let i = c.places.invariant in
    let runs = c.args.widths.now in
    let here = c.places.here in
    record {
      symbol = record {
        begins_light = i.begins_light;
        ends_light = i.ends_light;
        within = i.within;
        read = subst (λ ws. IsAnswer ws c.args.year (Read c.in-Read.carrier c.in-Read.elements)) (sliced here.first here.count runs)
            (c.in-Read.ensures _ c.found_in-found.ensures);
      };
      left = i.behind;
      none_before = λ v s left before. elim (i.passed v s left) [
        | inl more ↦ elim before [ inl less ↦ omega arith | inr same ↦ let first = same.0 in omega arith ]
        | inr at ↦
            let first = at.0 in
            let least = at.1 in elim before [ inl less ↦ omega arith | inr same ↦ let few = same.1 in omega arith ]
      ];
    }

pub next_place-requires-clause-light : goal.next_place-requires-clause-light
next_place-requires-clause-light c = c.places.invariant.begins_light

-- a window that is refused is no symbol
not_read : (runs : List ℕ) (year : Terms) (first count : ℕ) (fault : RowFault) → OneAnswer → IsRow runs → count % 2 ≡ 1 → first + count ≤ length runs
    → IsAnswer (take (first + count - first) (drop first runs)) year (Refused fault)
    → (v : Window) → IsSymbolOf runs year v → v.first ≡ first → v.count ≡ count → ⊥
not_read runs year first count fault one whole odd within answer v s begins many =
    let row = IsRow-runs_in runs first count whole within odd in
    let read : IsAnswer (runs_in runs first count) year (Read v.carrier v.elements) =
    subst (λ ws. IsAnswer ws year (Read v.carrier v.elements)) (ap₂ (runs_in runs) begins many) s.read in
    let refused = subst (λ ws. IsAnswer ws year (Refused fault)) (sliced first count runs) answer in
    let same = one (runs_in runs first count) year (Read v.carrier v.elements) (Refused fault) row read refused in
    cc

pub returns-in_default-next_place-clause-over : goal.returns-in_default-next_place-clause-over
returns-in_default-next_place-clause-over c = λ v symbol left.
    let i = c.places.invariant in
    let here = c.places.here in
    let no = not_read c.args.widths.now c.args.year here.first here.count c.in_default.field-0 c.one_answer.ensures c.requires.row i.ends_light i.within
    (c.in_default.ensures _ c.found_in-found.ensures) v symbol in
    c.in_default-next_place.ensures.over c.args.year v symbol
    (behind_here (record { runs = c.args.widths.now; year = c.args.year; first = here.first; least = here.count }) v (i.passed v symbol left) no)

pub places-smaller : goal.places-smaller
places-smaller c =
    let next = c.in-Some.ensures.next c.args.year in
    let within = next.within in
    let short = row_short c.args.widths.now c.requires.row in
    elim next.left [
      | inl less ↦ omega arith
      | inr same ↦ let first = same.0 in let more = same.1 in omega arith
    ]

pub places-preserved : goal.places-preserved
places-preserved c =
    let next = c.in-Some.ensures.next c.args.year in
    let s : Search = record { runs = c.args.widths.now; year = c.args.year; first = c.places.here.first; least = c.places.here.count + 1 } in
    record {
      unchanged = c.places.invariant.unchanged;
      begins_light = next.begins_light;
      ends_light = next.ends_light;
      within = next.within;
      behind = elim c.places.invariant.behind [
        | inl less ↦ elim next.left [
          | inl more ↦ inl (omega arith)
          | inr same ↦ let first = same.0 in inl (omega arith)
        ]
        | inr at ↦
            let start = at.0 in
            let least = at.1 in
            elim next.left [
              | inl more ↦ inl (omega arith)
              | inr same ↦ let first = same.0 in let count = same.1 in inr (omega arith, omega arith)
            ]
      ];
      passed = λ v symbol left.
          let i = c.places.invariant in
          let here = c.places.here in
          let no = not_read c.args.widths.now c.args.year here.first here.count c.in_default.field-0 c.one_answer.ensures c.requires.row i.ends_light i.within
          (c.in_default.ensures _ c.found_in-found.ensures) v symbol in
          at_place s c.in-Some.next next v symbol
          (behind_here (record { runs = c.args.widths.now; year = c.args.year; first = here.first; least = here.count }) v (i.passed v symbol left) no);
    }
