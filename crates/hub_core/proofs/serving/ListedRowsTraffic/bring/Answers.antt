-- The delivery goes to the end of its lane's list.
use Rattle.std.proofs.Common.{◌∙◌}
use Rattle.hub_core.proofs.RowsAreGiven.{list_more}
use Rattle.hub_core.proofs.serving.ListedRowsTraffic.bring.Goals as goal

pub returns-clause-brings : goal.returns-clause-brings
returns-clause-brings c = λ start given brought was next. (
  was.0,
  list_more (λ list. list.items) c.args.self.now.lists.items c.from-index.result c.args.delivery.lane c.index_mut.result.now c.push.new.self c.args.delivery
      brought
      (c.from-index.ensures ∙ c.ticket.ensures.lane) next.lane c.index_mut.ensures.value c.in_ok-push.ensures.items was.1,
)
