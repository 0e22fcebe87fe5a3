-- Once all rows are read, what is told is true of the source.
use Rattle.command_runs.proofs.answers.RowsAsRead.{rows_at_end, told_memory, told_nothing, told_refused, told_thread}
use Rattle.command_runs.proofs.answers.rows.tell_fault.Goals as goal

pub returns-in-Refused : goal.returns-in-Refused
returns-in-Refused g c = λ lanes lent items gave.
    told_refused _ _ lanes lent c.args.rows.now items c.in-Refused.refused c.in-Refused.is gave

pub returns-in-Ended : goal.returns-in-Ended
returns-in-Ended g c = λ lanes lent items gave.
    told_nothing _ _ lanes lent c.args.rows.now items c.in-Ended.is gave c.new.result c.new.ensures.bytes c.if-rows-eq0.true

pub returns-in-NoThread : goal.returns-in-NoThread
returns-in-NoThread g c = λ lanes lent items gave.
    told_thread _ _ lanes lent c.args.rows.now items c.in-Ended.is gave c.if-rows-eq0.false

pub returns-in-NoMemory : goal.returns-in-NoMemory
returns-in-NoMemory g c = λ lanes lent items gave.
    told_memory _ _ lanes lent c.args.rows.now gave.0 (rows_at_end _ _ lanes lent c.args.rows.now items c.in-Ended.is gave)
