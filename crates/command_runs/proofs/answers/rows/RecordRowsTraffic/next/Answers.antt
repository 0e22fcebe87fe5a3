-- The row that the reader gives is given to the hub.
use Rattle.std.proofs.Common.{refl}
use Rattle.command_runs.proofs.answers.RowsAsRead.{gives_if, no_row_given}
use Rattle.command_runs.proofs.answers.rows.RecordRowsTraffic.next.Goals as goal

pub next_row-requires : goal.next_row-requires
next_row-requires g c =
    let (start, given, brought, was) = c.requires in (start.rows.lanes, start.rows.input.source, was.items, was.gave)

pub returns-clause-some : goal.returns-clause-some
returns-clause-some g c = gives_if _ _ c.args.self.now _ c.next_row.result refl c.next_row.ensures.gives

pub returns-clause-none : goal.returns-clause-none
returns-clause-none g c = λ none start given brought was.
    no_row_given _ _ start c.args.self.now _ given brought refl (rw none at c.next_row.ensures.gives) was
