use Rattle.gs1_c.proofs.found.put_symbol.Goals as goal

pub returns-then-at-out-clause-end : goal.returns-then-at-out-clause-end
returns-then-at-out-clause-end c = c.put_whole.ensures.end

pub returns-then-at-out-clause-put : goal.returns-then-at-out-clause-put
returns-then-at-out-clause-put c = λ fits. c.put_whole.ensures.put
