-- Each text so far is empty.
use Rattle.std.proofs.Common.{◌≡◌, [], map, replicate, string_bytes}
use Rattle.command_runs.proofs.answers.serving.make_texts.Given as goal

abbrev pub invariant-loop-lane : goal.invariant-loop-lane
invariant-loop-lane l = record {
  texts : map string_bytes l.texts.items ≡ replicate l._lane [];
}
