use Rattle.std.proofs.Common.{◌+◌, arith, inl, inr, refl, subst, sym}
use Rattle.std.proofs.lemmas.Bool.{cases_lt}
use Rattle.std.proofs.lemmas.Option.{IfSome_then}
use Rattle.scan_core.specs.Bits.{dots_at}
use Rattle.scan_core.specs.Row.{IsRow}
use Rattle.scan_core.specs.DotRuns.{runs_of_dots}
use Rattle.scan_core.proofs.RowParts.{items_row, next_in_row, none_early, over_in_row}
use Rattle.scan_core.proofs.SearchFacts.{earlier, none_then}
use Rattle.scan_core.proofs.dot_symbols.next_in_parts.Goals as goal

pub next_early-requires-clause-row : goal.next_early-requires-clause-row
next_early-requires-clause-row c = items_row c.args.bits.now c.args.width c.args.year c.requires.few c.parts.part c.parts.invariant.part

pub next_window-requires-clause-row : goal.next_window-requires-clause-row
next_window-requires-clause-row c =
    subst IsRow (sym c.as_slice.ensures.value) (items_row c.args.bits.now c.args.width c.args.year c.requires.few c.parts.part c.parts.invariant.part)

pub returns-in-Some-clause-next : goal.returns-in-Some-clause-next
returns-in-Some-clause-next c =
    let i = c.parts.invariant in
    let dots = dots_at c.args.bits.now 0 c.args.width in
    earlier (record { runs = runs_of_dots dots; year = c.args.year; first = c.args.part.now.before + c.args.first; least = c.args.least })
    (c.parts.part.before + c.parts.first) c.parts.least _ i.behind i.passed
    (next_in_row c.args.bits.now c.args.width c.args.year c.requires.few c.parts.part i.part c.parts.first c.parts.least c.in-Some.window c.in-Some.ensures.next
    (λ more. c.in-Some.ensures.early))

pub parts-preserved : goal.parts-preserved
parts-preserved c =
    let i = c.parts.invariant in
    let moved = c.go_on.ensures.before in
    let further = i.further in
    let early = i.early c.parts-test.true in
    let late = none_early c.args.bits.now c.args.width c.args.year c.requires.few c.parts.part i.part c.parts.first c.parts.least c.parts-test.true
    c.in_default.ensures.none in
    record {
      part = c.go_on.ensures.part;
      further = omega arith;
      light = refl;
      early = λ more. omega arith;
      behind = inl (elim i.behind [ inl less ↦ omega arith | inr same ↦ let at = same.0 in omega arith ]);
      passed = λ v s left.
          let from = late v s (i.passed v s left) in
          elim (cases_lt (c.parts.part.before + 600) v.first) [
            | inl more ↦ inl (omega arith)
            | inr most ↦ inr (omega arith, omega arith)
          ];
    }

pub returns-clause-next : goal.returns-clause-next
returns-clause-next c = IfSome_then c.next_window.result c.next_window.ensures.next (λ w next.
    let i = c.parts.invariant in
    let dots = dots_at c.args.bits.now 0 c.args.width in
    earlier (record { runs = runs_of_dots dots; year = c.args.year; first = c.args.part.now.before + c.args.first; least = c.args.least })
    (c.parts.part.before + c.parts.first) c.parts.least _ i.behind i.passed
    (next_in_row c.args.bits.now c.args.width c.args.year c.requires.few c.parts.part i.part c.parts.first c.parts.least w
    (rw c.as_slice.ensures.value at next) (λ more. cc)))

pub returns-clause-over : goal.returns-clause-over
returns-clause-over c = none_then c.next_window.result c.next_window.ensures.over (λ over v s left.
    let i = c.parts.invariant in
    over_in_row c.args.bits.now c.args.width c.args.year c.requires.few c.parts.part i.part c.parts.first c.parts.least c.parts-test.false
    (rw c.as_slice.ensures.value at over) v s (i.passed v s left))
