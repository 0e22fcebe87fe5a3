-- Each row that is passed over was given, of the same source.
use Rattle.std.proofs.Common.{sym, ◌∙◌}
use Rattle.command_runs.proofs.answers.RowsAsRead.{fewer_left, gave_any, same_source}
use Rattle.command_runs.proofs.answers.row_reader.RowReader.pass_rows.Goals as goal

pub rows-init : goal.rows-init
rows-init g c = λ lanes lent items gave. (items, gave)

pub next_row-requires : goal.next_row-requires
next_row-requires g c =
    let (lanes, lent, items, gave) = c.requires in
    let now = c.rows.invariant lanes lent items gave in
    (lanes, lent, now.0, now.1)

pub rows-preserved : goal.rows-preserved
rows-preserved g c = λ lanes lent items gave.
    let was = c.rows.invariant lanes lent items gave in
    gave_any _ _ lanes lent c.next_row.new.self was.0 c.next_row.result (c.next_row.ensures.gives lanes lent was.0 was.1)

pub rows-smaller : goal.rows-smaller
rows-smaller g c =
    let (lanes, lent, items, gave) = c.requires in
    let was = c.rows.invariant lanes lent items gave in
    fewer_left _ _ lanes lent c.rows.self c.next_row.new.self was.0 _ was.1 (rw c.in-Some.is at (c.next_row.ensures.gives lanes lent was.0 was.1))

pub returns-clause-passes : goal.returns-clause-passes
returns-clause-passes g c = λ lanes lent items gave.
    let was = c.rows.invariant lanes lent items gave in
    gave_any _ _ lanes lent c.next_row.new.self was.0 c.next_row.result (c.next_row.ensures.gives lanes lent was.0 was.1)

pub returns-clause-same_reference : goal.returns-clause-same_reference
returns-clause-same_reference g c =
    let (lanes, lent, items, gave) = c.requires in
    let now = returns-clause-passes g c lanes lent items gave in
    same_source _ _ lanes lent c.next_row.new.self now.0 now.1 ∙ sym (same_source _ _ lanes lent c.args.self.now items gave)
