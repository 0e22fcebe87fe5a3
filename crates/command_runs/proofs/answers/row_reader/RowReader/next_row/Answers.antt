-- Lines and pieces in turn lead to the next record.
use Rattle.command_runs.proofs.answers.row_reader.RowReader.next_row.Goals as goal

pub returns-in-Some-clause-gives : goal.returns-in-Some-clause-gives
returns-in-Some-clause-gives g c = λ lanes lent items gave. c.tell.ensures.tells lanes lent items (c.in-Some.ensures.reads lanes lent items (c.pieces.invariant lanes lent items gave))

pub pieces-preserved : goal.pieces-preserved
pieces-preserved g c = λ lanes lent items gave.
    c.go_on.ensures.0 lanes lent items (c.in_default-next_line.ensures.reads lanes lent items (c.pieces.invariant lanes lent items gave))

pub row_behind_lines-requires-clause-read : goal.row_behind_lines-requires-clause-read
row_behind_lines-requires-clause-read g c = let (lanes, lent, items, gave) = c.requires in (lanes, lent, items, c.pieces.invariant lanes lent items gave)
