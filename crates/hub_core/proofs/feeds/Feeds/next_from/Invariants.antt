use Rattle.std.proofs.Common.{◌≡◌}
use Rattle.hub_core.specs.inner.Feeds.{NoneIsLeft}
use Rattle.hub_core.specs.Feeds.{rests_of}
use Rattle.hub_core.proofs.feeds.Feeds.next_from.Given as goal

abbrev pub invariant-loop-lane : goal.invariant-loop-lane
invariant-loop-lane l = record {
  same : rests_of l.self ≡ rests_of l.initial.self;
  passed : NoneIsLeft l.fn.first l.lane (rests_of l.self);
}
