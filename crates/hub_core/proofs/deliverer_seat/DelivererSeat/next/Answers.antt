use Rattle.std.proofs.Common.{◌∙◌, sym, option_to_list}
use Rattle.hub_core.specs.Passes.{popped_by}
use Rattle.hub_core.specs.Rings.{all_sent}
use Rattle.hub_core.proofs.NextIsThere.{there_is_next, with_number}
use Rattle.hub_core.proofs.deliverer_seat.DelivererSeat.next.Goals as goal

pub returns-clause-some : goal.returns-clause-some
returns-clause-some c =
    let s = c.args.self.now in
    with_number (λ x. x.now) s.deliverer c.args.lane c.next.result _ (s.accounted.giving.counted c.args.lane) c.next.ensures.some

pub returns-clause-exactly : goal.returns-clause-exactly
returns-clause-exactly c =
    let s = c.args.self.now in
    let is = there_is_next s.deliverer (popped_by s.collects) (option_to_list s.held) (all_sent s.rings.items) c.args.lane _ s.accounted c.requires
    (s.accounted.giving.counted c.args.lane) in
    ((λ e. is ∙ c.next.ensures.exactly.0 e), (λ e. c.next.ensures.exactly.1 (sym is ∙ e)))
