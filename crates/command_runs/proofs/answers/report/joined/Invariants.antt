-- The text so far is that of the texts so far, one after another.
use Rattle.std.proofs.Common.{◌≡◌, map, string_bytes}
use Rattle.std.specs.List.{concat}
use Rattle.command_runs.proofs.answers.report.joined.Given as goal

abbrev pub invariant-loop-text : goal.invariant-loop-text
invariant-loop-text l = record {
  can : (goal.iterator-loop-text).can_next l.text-iterator;
  ends : (goal.iterator-loop-text).is_finite l.text-iterator;
  whole : string_bytes l.whole ≡ concat (map string_bytes l.yielded);
}
