-- Up to a place there is no quote, and no carriage return inside a line.
use Rattle.std.proofs.Common.{◌-◌, ◌≤◌, length}
use Rattle.command_runs.proofs.answers.PlainBytes.{EndUpTo, NoQuoteUpTo}
use Rattle.command_runs.proofs.answers.lines.are_lines.Given as goal

abbrev pub invariant-each : goal.invariant-each
invariant-each l = record {
  quotes : NoQuoteUpTo l.bytes l.from;
  end : EndUpTo l.bytes l.from;
  low : l.from ≤ length l.bytes;
}

abbrev pub decreases-each : goal.decreases-each
decreases-each l = length l.bytes - l.from
