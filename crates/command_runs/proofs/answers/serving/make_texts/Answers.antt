-- The texts so far have no line.
use Rattle.std.proofs.Common.{arith, string_bytes}
use Rattle.hub_core.proofs.RowsAreGiven.{empty_more}
use Rattle.command_runs.proofs.answers.serving.make_texts.Goals as goal

pub loop-lane-preserved : goal.loop-lane-preserved
loop-lane-preserved c = record {
  texts = empty_more string_bytes c.loop-lane.texts.items c.push.new.self.items c.new.result c.loop-lane._lane _ c.in_ok-push.ensures.items c.new.ensures.bytes
      c.loop-lane.invariant.texts (omega arith);
}
