use Rattle.std.proofs.Common.{◌∙◌, ◌++◌, take, arith}
use Rattle.std.proofs.lemmas.Grind.{common_steps}
use Rattle.std.proofs.KnownBytes.{Appends-trans}
use Rattle.digits_core.proofs.sink.write_all.Goals as goal

pub writes-preserved : goal.writes-preserved
writes-preserved g c =
    let inv = c.writes.invariant in
    let piece = take c.in_ok-count.count c.writes.rest.now in
    record {
      front = inv.front ++ piece;
      whole = grind (arith, common_steps, inv.whole);
      took = Appends-trans _ _ _ inv.front piece inv.took c.in_ok-count.ensures.bytes;
      same = c.in_ok-count.ensures.ok ∙ inv.same;
    }
