use Rattle.hub_core.proofs.traffic_serving.new_hub.Goals as goal

pub returns-in-Ok-clause-new : goal.returns-in-Ok-clause-new
returns-in-Ok-clause-new g c = c.in-Ok.ensures.new
