use Rattle.std.proofs.Common.{◌≡◌, drop}
use Rattle.std.specs.List.{list_all}
use Rattle.element_core.specs.Pairs.{entries_of}
use Rattle.answer_core.specs.Printed.{has_plain_value}
use Rattle.answer_core.proofs.printed.are_plain.Given as goal

abbrev pub invariant-loop-pair : goal.invariant-loop-pair
invariant-loop-pair l = list_all (has_plain_value l.marks) (entries_of (drop l.pair-index l.pairs)) ≡ list_all (has_plain_value l.marks) (entries_of l.pairs)
