use Rattle.std.proofs.Common.{◌≡◌, length}
use Rattle.std.specs.List.{list_all}
use Rattle.message_core.specs.Links.{is_plain_name, parameters}
use Rattle.message_core.proofs.link.has_plain_names.Given as goal

abbrev pub invariant-loop-left : goal.invariant-loop-left
invariant-loop-left l = list_all is_plain_name (parameters l.rest) ≡ list_all is_plain_name (parameters l.query)

abbrev pub decreases-loop-left : goal.decreases-loop-left
decreases-loop-left l = length l.rest
