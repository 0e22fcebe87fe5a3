-- The texts that were joined so far are the front of all.
use Rattle.std.proofs.Common.{rules, string_bytes, sym}
use Rattle.command_runs.proofs.answers.LinesAsBrought.{joined_more}
use Rattle.command_runs.proofs.answers.report.joined.Goals as goal

pub loop-text-preserved : goal.loop-text-preserved
loop-text-preserved c = record {
  can = search rules;
  ends = search rules;
  whole = rw (joined_more string_bytes c.loop-text.yielded c.in-Some.text, sym c.loop-text.invariant.whole) (search rules);
}
