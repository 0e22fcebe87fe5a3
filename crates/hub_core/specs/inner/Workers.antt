-- A worker's hand as a list.
use Rattle.std.specs.Prelude.{List, option_to_list}
use Rattle.lane_core.specs.declared.job.Plain.{Plain}
use Rattle.hub_core.specs.declared.worker_seat.WorkerSeat.{WorkerSeat}

-- `delivery_in_hand` as a list, as `hand_of` of the deliverer
abbrev pub deliveries_in_hand : WorkerSeat → List Plain
deliveries_in_hand s = option_to_list s.held
