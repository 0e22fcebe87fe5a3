-- If `Records::read` finds no more record, those so far are all; the one that it finds is the row's.
use Rattle.std.proofs.Common.{Ok, ap}
use Rattle.csv.specs.Records.{fields_of}
use Rattle.csv_records.proofs.lanes.feeds.next_row.Goals as goal

pub returns-then-not-branch-clause-end : goal.returns-then-not-branch-clause-end
returns-then-not-branch-clause-end c = λ same bytes rows was. c.in_ok-read.ensures.end (ap (λ b. Ok b) c.if-not-branch.true) bytes rows was

pub returns-clause-more : goal.returns-clause-more
returns-clause-more c = λ bytes rows was.
    (fields_of c.read.new.self.last, c.in_ok-read.ensures.more (ap (λ b. Ok b) c.if-not-branch.false) bytes rows was, c.in_ok-row.ensures.row)
