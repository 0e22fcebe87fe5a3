use Rattle.std.proofs.Common.{◌≡◌, ◌++◌, length}
use Rattle.message_core.specs.Links.{path_entries, segments}
use Rattle.message_core.proofs.pairs.put_path.Given as goal

abbrev pub invariant-loop-behind : goal.invariant-loop-behind
invariant-loop-behind l = l.pairs.list ++ path_entries (segments l.rest) ≡ l.initial.pairs.list ++ path_entries (segments l.path)

abbrev pub decreases-loop-behind : goal.decreases-loop-behind
decreases-loop-behind l = length l.rest
