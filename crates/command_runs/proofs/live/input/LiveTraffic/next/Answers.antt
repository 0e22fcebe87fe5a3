-- Lines that give no row are taken until one gives a row, none is left or memory is refused.
use Rattle.command_runs.proofs.live.Words.{inl, sym, ◌∙◌}
use Rattle.lane_core.proofs.ResultFacts.{none_by_test}
use Rattle.command_runs.proofs.live.LivedOn.{took_nothing}
use Rattle.command_runs.proofs.live.input.LiveTraffic.next.Goals as goal

pub take_line-requires : goal.take_line-requires
take_line-requires g c = let was = c.requires in (was.0, was.1, was.2, c.lines.invariant was.0 was.1 was.2 was.3)

pub lines-preserved : goal.lines-preserved
lines-preserved g c = λ start given brought was.
    let takes = rw c.in-Ok-Line.field-0-is at c.in-Ok-Line.ensures.takes in takes start given brought (c.lines.invariant start given brought was)

pub returns-in-Ok-Nothing-clause-none : goal.returns-in-Ok-Nothing-clause-none
returns-in-Ok-Nothing-clause-none g c = λ is start given brought was.
    let takes = rw c.in-Ok-Nothing.field-0-is at c.in-Ok-Nothing.ensures.takes in takes start given brought (c.lines.invariant start given brought was)

pub returns-in-Ok-Row-clause-some : goal.returns-in-Ok-Row-clause-some
returns-in-Ok-Row-clause-some g c = λ start given brought was.
    let takes = rw c.in-Ok-Row.field-0-is at c.in-Ok-Row.ensures.takes in takes start given brought (c.lines.invariant start given brought was)

pub returns-in-Err-clause-none : goal.returns-in-Err-clause-none
returns-in-Err-clause-none g c = λ is start given brought was.
    took_nothing c.take_line.new.self c.take_line.new.self.text (inl (c.take_line.ensures.stopped
    ∙ none_by_test c.lines.self.stopped (sym c.is_some.ensures ∙ c.if-is_some.false))) start given brought (c.in-Err.ensures.takes start given brought (c.lines.invariant start given brought was))
