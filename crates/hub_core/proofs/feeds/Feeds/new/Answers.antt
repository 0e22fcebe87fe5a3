-- What is left of each feed at first is all of it.
use Rattle.std.proofs.Common.{rules}
use Rattle.std.specs.Vec.Iter.{into_iter_items}
use Rattle.hub_core.proofs.RowsAreGiven.{rests_more}
use Rattle.hub_core.proofs.feeds.Feeds.new.Goals as goal

pub loop-feed-preserved : goal.loop-feed-preserved
loop-feed-preserved c = record {
  can = search rules;
  ends = search rules;
  rests =
      rests_more (λ rest. into_iter_items rest) (λ feed. feed.items) c.loop-feed.rests.items c.push.new.self.items c.into_iter.result c.loop-feed.yielded
      c.in-Some.feed c.in_ok-push.ensures.items c.into_iter.ensures.rest c.loop-feed.invariant.rests;
}
