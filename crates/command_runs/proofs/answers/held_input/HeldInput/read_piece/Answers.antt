-- A piece that does not fit into the room: the source gave more bytes than an input may have.
use Rattle.std.proofs.Common.{ap, arith, length, length-append, length-take, rules, take, ◌+◌, ◌++◌, ◌-◌, ◌∙◌}
use Rattle.std.specs.Prelude.{slice_range}
use Rattle.std.proofs.lemmas.List.{length-take-le, places, with_items_is}
use Rattle.std.proofs.KnownBytes.{Consumes-trans}
use borrow.Rule.Slice.PartMut.{put_mid}
use Rattle.command_runs.proofs.answers.HeldBytes.{grown, piece_or_end}
use Rattle.command_runs.proofs.answers.TakenAddsUp.{taken_as}
use Rattle.command_runs.proofs.answers.held_input.HeldInput.read_piece.Goals as goal

pub returns-then-count-self : goal.returns-then-count-self
returns-then-count-self g c =
    let made = c.make_room.ensures.kept in (
      omega (arith, made.3),
      λ lent taken before.
          let was = taken_as _ _ c.args.self.now c.make_room.new.self made.2 made.3 lent taken before in
          let piece = take c.in-Ok.count c.read.new.buf in
          let long = length-take c.in-Ok.count c.read.new.buf in
          let room = was.room in (
            was.same,
            (
              taken ++ piece,
              Consumes-trans _ _ _ taken piece was.came c.in-Ok.ensures.bytes.0,
              omega (arith, room, c.if-count-self.true, length-append taken piece, long, c.in-Ok.ensures.bound),
            ),
            c.in-Ok.ensures.ok ∙ was.works,
          ),
    )

pub returns : goal.returns
returns g c =
    let made = c.make_room.ensures.kept in
    let i = c.make_room.new.self in
    let piece = take c.in-Ok.count c.read.new.buf in
    let same = c.as_mut_slice.ensures.value in
    let long = length-take-le c.in-Ok.count c.read.new.buf c.in-Ok.ensures.bound in
    let bytes = put_mid i.end (i.end + 65536 - i.end) c.as_mut_slice.result.now c.read.new.buf in
    let held = ap (λ xs. slice_range xs i.start (i.end + c.in-Ok.count)) (with_items_is i.bytes bytes (search (rules, places)))
    ∙ grown c.as_mut_slice.result.now c.read.new.buf i.start i.end (i.end + 65536 - i.end) c.in-Ok.count i.ok.0 (omega (arith, i.ok.1, ap length same)) c.in-Ok.ensures.bound
    ∙ ap (λ xs. slice_range xs i.start i.end ++ piece) same ∙ ap (λ h. h ++ piece) made.0 in (
      piece,
      held,
      made.1,
      omega (arith, made.3, long, c.if-count-self.false),
      piece_or_end _ c.in-Ok.count _ piece long (λ none. c.in-Ok.ensures.bytes.1 none (search (rules, places))),
      λ lent taken before.
          let was = taken_as _ _ c.args.self.now i made.2 made.3 lent taken before in
          record {
            same = was.same;
            came = Consumes-trans _ _ _ taken piece was.came c.in-Ok.ensures.bytes.0;
            room = omega (arith, was.room, length-append taken piece, long, c.if-count-self.false);
            works = c.in-Ok.ensures.ok ∙ was.works;
          },
    )
