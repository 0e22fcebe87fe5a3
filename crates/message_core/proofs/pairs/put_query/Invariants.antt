use Rattle.std.proofs.Common.{◌≡◌, ◌++◌, length}
use Rattle.message_core.specs.Links.{parameters, query_entries}
use Rattle.message_core.proofs.pairs.put_query.Given as goal

abbrev pub invariant-loop-left : goal.invariant-loop-left
invariant-loop-left l = l.pairs.list ++ query_entries (parameters l.rest) ≡ l.initial.pairs.list ++ query_entries (parameters l.query)

abbrev pub decreases-loop-left : goal.decreases-loop-left
decreases-loop-left l = length l.rest
