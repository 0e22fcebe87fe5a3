use Rattle.std.proofs.Common.{arith}
use Rattle.picture_core.proofs.RunsOfDots.{row_dark, row_light, so_far_none, so_far_other, so_far_same}
use Rattle.picture_core.proofs.runs.put_runs.Goals as goal
use Rattle.picture_core.proofs.runs.put_runs.Goals.{then-grey-level, else-grey-level}

pub dots-init : goal.dots-init
dots-init c = so_far_none c.args.level c.args.row.now c.args.widths.now

pub dots-preserved : goal.dots-preserved
dots-preserved c =
    let level = c.args.level in
    let row = c.args.row.now in
    let i = c.dots in
    let few = i.invariant.few in
    elim c.if-grey-level.branch [
      | then-grey-level w ↦
          rw (w.widths-is, w.count-is, w.is_dark-is, w.width-is)
          (so_far_same level row i.widths i.count i.width i.is_dark i.grey-index (omega arith) w.if-grey-level.true i.invariant)
      | else-grey-level w ↦
          rw (w.widths-is, w.count-is, w.is_dark-is, w.width-is)
          (so_far_other level row i.widths i.count i.width i.is_dark i.grey-index (omega arith) (omega arith) w.if-grey-level.false i.invariant)
    ]

pub returns-then-is_dark-clause-row : goal.returns-then-is_dark-clause-row
returns-then-is_dark-clause-row c =
    let i = c.dots in
    let few = i.invariant.few in
    (row_dark c.args.level c.args.row.now i.widths i.count i.width i.is_dark i.grey-index (omega arith) (omega arith) (omega arith) c.if-is_dark.true i.invariant).0

pub returns-then-is_dark-clause-dots : goal.returns-then-is_dark-clause-dots
returns-then-is_dark-clause-dots c =
    let i = c.dots in
    let few = i.invariant.few in
    (row_dark c.args.level c.args.row.now i.widths i.count i.width i.is_dark i.grey-index (omega arith) (omega arith) (omega arith) c.if-is_dark.true i.invariant).1

pub returns-else-is_dark-clause-row : goal.returns-else-is_dark-clause-row
returns-else-is_dark-clause-row c =
    let i = c.dots in
    let few = i.invariant.few in
    (row_light c.args.level c.args.row.now i.widths i.count i.width i.is_dark i.grey-index (omega arith) (omega arith) (omega arith) c.if-is_dark.false i.invariant).0

pub returns-else-is_dark-clause-dots : goal.returns-else-is_dark-clause-dots
returns-else-is_dark-clause-dots c =
    let i = c.dots in
    let few = i.invariant.few in
    (row_light c.args.level c.args.row.now i.widths i.count i.width i.is_dark i.grey-index (omega arith) (omega arith) (omega arith) c.if-is_dark.false i.invariant).1
