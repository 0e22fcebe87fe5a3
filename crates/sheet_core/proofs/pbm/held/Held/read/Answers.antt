-- A piece stands behind what was held.
use Rattle.std.proofs.Common.{ap, arith, length, rules, take, ◌+◌, ◌++◌, ◌-◌, ◌∙◌}
use Rattle.std.specs.Prelude.{slice_range}
use Rattle.std.proofs.lemmas.List.{length-take-le, places, with_items_is}
use borrow.Rule.Slice.PartMut.{put_mid}
use Rattle.sheet_core.proofs.pbm.HeldFacts.{grown}
use Rattle.sheet_core.proofs.pbm.held.Held.read.Goals as goal

pub returns-clause-ok : goal.returns-clause-ok
returns-clause-ok g c =
    let h = c.self.inside in
    let end = h.end - h.start in
    let room = c.min-room.result in
    let front = c.move_to_front.new.bytes in
    let count = c.in_ok-count.count in
    let piece = take count c.read.new.buf in
    let same = c.as_mut_slice.ensures.value in
    let bytes = put_mid end (end + room - end) c.as_mut_slice.result.now c.read.new.buf in
    record {
      more = piece;
      held = ap (λ xs. slice_range xs 0 (end + count)) (with_items_is front bytes (search (rules, places)))
          ∙ grown c.as_mut_slice.result.now c.read.new.buf 0 end (end + room - end) count (omega arith) (omega (arith, ap length same, c.move_to_front.ensures.len, c.self.invariant)) c.in_ok-count.ensures.bound
          ∙ ap (λ xs. slice_range xs 0 end ++ piece) same ∙ ap (λ xs. xs ++ piece) (c.move_to_front.ensures.same ∙ c.self.view_is);
      long = length-take-le count c.read.new.buf c.in_ok-count.ensures.bound;
      few = search (rules, arith);
      came = c.in_ok-count.ensures.bytes.0;
      ended = λ none some. c.in_ok-count.ensures.bytes.1 none (search (rules, places));
    }
