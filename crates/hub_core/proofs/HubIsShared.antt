-- The hub may be shared between threads: for `worker_threads`.
use denote.Param.Send.{IsSync, sendable}
use denote.Param.SendFields.{declared_sync}
use Rattle.std.proofs.Crossing.{crosses}
use Rattle.hub_core.specs.contracts.hub.Hub as hub
use Rattle.crossbeam_queue.proofs.array_queue.Slotted.TheSendSync as slotted
use Rattle.std.proofs.option.Option.TheSendSync as option
use Rattle.lane_core.proofs.job.Job.TheSendSync as job
use Rattle.lane_core.proofs.delivery.Delivery.TheSendSync as delivery

-- a part for each field of `Hub`, in its order: the queues of jobs and of results, whose items are options, and three
-- fields that are `Sync` of themselves; `depth 40`, since a search stops five lemmas deep
pub hub_sync : IsSync hub.the_row
hub_sync = declared_sync hub.the_type (
  search (sendable, crosses, slotted.the_field_sync, option.the_send, job.the_send) depth 40,
  (
    search (sendable, crosses, slotted.the_field_sync, option.the_send, delivery.the_send) depth 40,
    (search (sendable, crosses) depth 40, (search (sendable, crosses) depth 40, (search (sendable, crosses) depth 40, tt))),
  ),
)
