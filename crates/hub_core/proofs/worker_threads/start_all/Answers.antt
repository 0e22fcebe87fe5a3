-- Each thread's promise is of this hub, and gives a seat of it back.
use Rattle.std.proofs.Common.{ap, arith, rules, ◌≡◌, [], ◌∷◌, codes, List}
use Rattle.std.proofs.Crossing.{crosses}
use Rattle.std.proofs.lemmas.List.Elements.{All-push}
use denote.Param.Send.{sendable, param_send, arg_send, IsSend}
use denote.Param.SendFields.{declared_send}
use denote.Param.{param}
use denote.Struct.Field.{shr_ref_field}
use denote.Struct.Tuple.{TupleAt, type_at}
use denote.RattleType.{RattleType}
use denote.Exit.{no}
use mir.Syntax.{named}
use Rattle.hub_core.specs.contracts.hub.Hub as hub
use Rattle.hub_core.specs.contracts.signals.Signals as signals
use Rattle.hub_core.specs.contracts.worker_seat.WorkerSeat as seats
use Rattle.hub_core.proofs.HubIsShared.{hub_sync}
use Rattle.hub_core.proofs.worker_seat.WorkerSeat.TheSendSync as seat
use Rattle.hub_core.proofs.worker_threads.start_all.Goals as goal

-- The closure may go to a thread: `Ts` has the types of what it captures, `rt`, `hub`, `seat`, `gate` and `signals`.
-- `named k` is the lifetime of a borrowed one, which stands at place k of `κs`. The compiler numbers them: the goal
-- shows the numbers if it is left open. `depth 40`, since a search stops five lemmas deep.
pub spawn_with-started-requires-send-F : goal.spawn_with-started-requires-send-F
spawn_with-started-requires-send-F g c κs within =
    let Ts : List RattleType =
    (shr_ref_field record { mir = named 6; lft = κs.1.1.1.1.1.1.0 } (param 0 g.row.R) tt).row
    ∷ (shr_ref_field record { mir = named 7; lft = κs.1.1.1.1.1.1.1.0 } hub.the_row tt).row
    ∷ seats.the_row
    ∷ (shr_ref_field record { mir = named 8; lft = κs.1.1.1.1.1.1.1.1.0 } (param 1 g.row.G) tt).row
    ∷ (shr_ref_field record { mir = named 9; lft = κs.1.1.1.1.1.1.1.1.1.0 } signals.the_row tt).row ∷ [] in
    let sent : IsSend (TupleAt (codes "hub_core::worker_threads::fn::start_all::spawn_with+Self") Ts) =
    declared_send (type_at (codes "hub_core::worker_threads::fn::start_all::spawn_with+Self") Ts) (
      search (sendable, crosses, c.type_bounds.sync-R) depth 40,
      (
        search (sendable, crosses, hub_sync) depth 40,
        (
          search (sendable, crosses, seat.the_send) depth 40,
          (
            search (sendable, crosses, c.type_bounds.sync-G) depth 40,
            (search (sendable, crosses) depth 40, tt),
          ),
        ),
      ),
    ) in
    param_send 2 _ (arg_send _ no (TupleAt (codes "hub_core::worker_threads::fn::start_all::spawn_with+Self") Ts) sent)

pub loop-seat-preserved : goal.loop-seat-preserved
loop-seat-preserved g c = record {
  can = tt;
  ends = tt;
  room = search (rules, arith);
  count = search (rules, arith);
  of_hub = rw (c.push_reserved.ensures.items) (All-push (λ h. h.promise.0.now ≡ c.args.hub.now) c.loop-seat.handles.items c.in-Ok.handle
      c.loop-seat.invariant.of_hub (ap (λ p. p.0.now) c.in-Ok.ensures.ok));
}
