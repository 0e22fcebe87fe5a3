-- The row that is taken is the first that was left of its lane, or none was left.
use Rattle.std.proofs.Common.{Some, arith, map, set}
use Rattle.std.specs.Vec.Iter.{into_iter_items}
use Rattle.hub_core.specs.Feeds.{IsTaken, rests_of}
use Rattle.hub_core.proofs.RowsAreGiven.{left_none, none_to_take, one_given, row_taken, row_untaken}
use Rattle.hub_core.proofs.feeds.Feeds.next_of_lane.Goals as goal

pub returns : goal.returns
returns c =
    let old = rests_of c.args.self.now in
    let new = map (λ r. into_iter_items r) (set c.args.self.now.rests.items c.from-index.result c.next.new.self) in
    let was : IsTaken old c.args.lane c.in_ok-row.row new =
    row_taken (λ r. into_iter_items r) c.args.self.now.rests.items c.from-index.result c.args.lane c.index_mut.result.now c.next.new.self (Some c.in_ok-row.row)
    c.from-index.ensures (omega (arith, c.if-index-len.false, c.len.ensures, c.args.self.now.rests.ok.0)) c.index_mut.ensures.value
    (rw c.in_ok-row.was at c.next.ensures.items) in
    record {
      row = record {
        some = was;
        given = λ feeds given before. one_given feeds given old new c.args.lane c.in_ok-row.row was before;
        none = λ none. absurd (cc);
      };
      left = λ none. absurd (cc);
    }

pub returns-in_err-row : goal.returns-in_err-row
returns-in_err-row c =
    let rest = c.index_mut.result.now in
    rw c.from_residual.ensures record {
      row = record {
        some = tt;
        given = tt;
        none = λ _. row_untaken (λ r. into_iter_items r) c.args.self.now.rests.items c.from-index.result rest c.next.new.self c.next.result
            c.index_mut.ensures.value c.next.ensures.items c.in_err-row.was;
      };
      left = λ _ low. left_none (λ r. into_iter_items r) c.args.self.now.rests.items c.from-index.result c.args.lane rest c.from-index.ensures low
          c.index_mut.ensures.value (none_to_take c.next.result _ (into_iter_items rest) c.next.ensures.variant.1 rest.rest.ok.0 c.in_err-row.was);
    }
