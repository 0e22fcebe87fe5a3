-- A last byte is cut off if it is a carriage return.
use Rattle.command_runs.proofs.live.Words.{eq-eqb, ne_eqb, refl}
use Rattle.command_runs.proofs.live.LineMeanings.{return_cut}
use Rattle.command_runs.proofs.live.record.without_return.Goals as goal

pub returns-then-last-eq13 : goal.returns-then-last-eq13
returns-then-last-eq13 c =
    let last = c.in-Some.last.now in
    rw (c.in-Some.ensures.cases.0, return_cut c.in-Some.front.now last, eq-eqb last 13 c.if-last-eq13.true) refl

pub returns-else-last-eq13 : goal.returns-else-last-eq13
returns-else-last-eq13 c =
    let last = c.in-Some.last.now in
    rw (c.in-Some.ensures.cases.0, return_cut c.in-Some.front.now last, ne_eqb last 13 c.if-last-eq13.false) refl
