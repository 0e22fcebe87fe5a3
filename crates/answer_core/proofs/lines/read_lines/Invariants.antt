use Rattle.std.proofs.Common.{◌≡◌, ◌≤◌, ◌-◌, drop, length, take}
use Rattle.std.specs.List.{AllZip}
use Rattle.std.specs.Str.Lines.{lines}
use Rattle.answer_core.specs.Lines.{IsLineAnswer}
use Rattle.answer_core.proofs.lines.read_lines.Given as goal

abbrev pub invariant-loop-count : goal.invariant-loop-count
invariant-loop-count l = record {
  room : length l.answers ≡ length l.fn.answers;
  few : l.count ≤ length l.answers;
  some : l.count ≤ length (lines l.text);
  answered : AllZip (IsLineAnswer l.kind l.terms) (take l.count (lines l.text)) (take l.count l.answers);
  kept : drop l.count l.answers ≡ drop l.count l.fn.answers;
  left : lines l.rest ≡ drop l.count (lines l.text);
  within : length l.rest ≤ length l.text;
  from : l.rest ≡ drop (length l.text - length l.rest) l.text;
}

abbrev pub decreases-loop-count : goal.decreases-loop-count
decreases-loop-count l = length l.rest
