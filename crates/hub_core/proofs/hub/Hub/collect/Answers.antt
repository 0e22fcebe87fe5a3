use Rattle.hub_core.proofs.hub.Hub.collect.Goals as goal

pub returns-in-Taken : goal.returns-in-Taken
returns-in-Taken g c = c.in-Taken.ensures
