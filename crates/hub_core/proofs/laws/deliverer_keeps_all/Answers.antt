use Rattle.hub_core.proofs.laws.deliverer_keeps_all.Goals as goal

pub returns : goal.returns
returns c = record { whole = c.args.seat.now.accounted.none_lost; in_order = c.args.seat.now.accounted.giving.in_order }
