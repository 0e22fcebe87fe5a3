use Rattle.std.proofs.Common.{inl, arith, subst, sym}
use Rattle.scan_core.specs.Row.{IsRow}
use Rattle.scan_core.specs.Windows.{IsNextWindow, IsOver}
use Rattle.scan_core.proofs.dot_symbols.next_early.Goals as goal

pub next_window-requires-clause-row : goal.next_window-requires-clause-row
next_window-requires-clause-row c = subst IsRow (sym c.as_slice.ensures.value) c.requires.row

pub next_window-requires-clause-light : goal.next_window-requires-clause-light
next_window-requires-clause-light c = c.requires.light

pub returns-in_err-window-clause-next : goal.returns-in_err-window-clause-next
returns-in_err-window-clause-next c = rw c.from_residual.ensures tt

pub returns-in_err-window-clause-early : goal.returns-in_err-window-clause-early
returns-in_err-window-clause-early c = rw c.from_residual.ensures tt

pub returns-in_err-window-clause-none : goal.returns-in_err-window-clause-none
returns-in_err-window-clause-none c =
    let over = subst (λ r. IsOver (record { runs = r; year = c.args.year; first = c.args.first; least = c.args.least })) c.as_slice.ensures.value
    c.in_err-window.ensures.over in
    rw c.from_residual.ensures (λ v symbol left early. over v symbol left)

pub returns-then-window-le-LAST_FIRST-clause-next : goal.returns-then-window-le-LAST_FIRST-clause-next
returns-then-window-le-LAST_FIRST-clause-next c =
    subst (λ r. IsNextWindow (record { runs = r; year = c.args.year; first = c.args.first; least = c.args.least }) c.in_ok-window.window) c.as_slice.ensures.value
    c.in_ok-window.ensures.next

pub returns-then-window-le-LAST_FIRST-clause-early : goal.returns-then-window-le-LAST_FIRST-clause-early
returns-then-window-le-LAST_FIRST-clause-early c = c.if-window-le-LAST_FIRST.true

pub returns-else-window-le-LAST_FIRST-clause-none : goal.returns-else-window-le-LAST_FIRST-clause-none
returns-else-window-le-LAST_FIRST-clause-none c =
    let next = subst (λ r. IsNextWindow (record { runs = r; year = c.args.year; first = c.args.first; least = c.args.least }) c.in_ok-window.window)
    c.as_slice.ensures.value c.in_ok-window.ensures.next in
    λ v symbol left early. next.none_before v symbol left (inl (omega arith))
