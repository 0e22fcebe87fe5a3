use Rattle.std.proofs.Common.{◌≡◌, ◌-◌, length}
use Rattle.std.specs.List.{list_all}
use Rattle.element_core.specs.Elements.{is_digit}
use Rattle.answer_core.specs.Gaps.{without_gaps, kept_in}
use Rattle.answer_core.proofs.gap.are_digits.Given as goal

abbrev pub invariant-loop-passed : goal.invariant-loop-passed
invariant-loop-passed l = list_all is_digit (kept_in (length l.text - l._passed) l.place l.rest) ≡ list_all is_digit (without_gaps l.place l.text)
