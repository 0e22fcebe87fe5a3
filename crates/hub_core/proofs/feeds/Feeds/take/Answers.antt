-- If no lane has a row, all were given.
use Rattle.std.proofs.Common.{◌≡◌, [], ap, arith, get_or, length, subst}
use Rattle.hub_core.specs.Feeds.{rests_of}
use Rattle.hub_core.proofs.RowsAreGiven.{all_left}
use Rattle.hub_core.proofs.feeds.Feeds.take.Goals as goal

pub returns-in-None-clause-left : goal.returns-in-None-clause-left
returns-in-None-clause-left c = λ none few.
    let same : rests_of c.next_from.new.self ≡ rests_of c.args.self.now = c.next_from.ensures.row.none c.in-None.is in
    let long = ap length same in
    all_left (rests_of c.args.self.now) (λ l low. subst (λ rests. get_or rests l [] ≡ []) same
    (c.next_from-in-None.ensures.left none l (omega arith) (omega (arith, few, low)) (omega (arith, low, long))))
