use Rattle.std.proofs.Common.{◌≡◌, map}
use Rattle.std.specs.Vec.Iter.{into_iter_items}
use Rattle.hub_core.specs.Serving.{items_of}
use Rattle.hub_core.proofs.feeds.Feeds.new.Given as goal

abbrev pub invariant-loop-feed : goal.invariant-loop-feed
invariant-loop-feed l = record {
  can : (goal.iterator-loop-feed).can_next l.feed-iterator;
  ends : (goal.iterator-loop-feed).is_finite l.feed-iterator;
  rests : map (λ rest. into_iter_items rest) l.rests.items ≡ items_of l.yielded;
}
