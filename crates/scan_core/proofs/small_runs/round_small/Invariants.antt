-- The runs so far are rounded, each to some modules.
use Rattle.std.proofs.Common.{◌≡◌, ◌-◌, ◌≤◌, length, map, take, true}
use Rattle.scan_core.specs.inner.RunLanes.{are_near, modules_or_none}
use Rattle.scan_core.proofs.small_runs.round_small.Given as goal

abbrev pub decreases-blocks-2 : goal.decreases-blocks-2
decreases-blocks-2 l = length l.inner - l.done

abbrev pub invariant-blocks-2 : goal.invariant-blocks-2
invariant-blocks-2 l = record {
  within : l.done ≤ length l.inner;
  places : length l.modules ≡ length l.inner;
  put : take l.done l.modules ≡ map (modules_or_none l.limits) (take l.done l.inner);
  near : are_near (map (modules_or_none l.limits) (take l.done l.inner)) ≡ true;
}
