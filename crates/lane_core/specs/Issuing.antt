-- The tickets that a lane has issued: the model of `Ticketer` (src/ticketer.rt), and a ticket by its fields.
use Rattle.std.specs.Prelude.{ℕ}
use Rattle.lane_core.specs.declared.ticket.Ticket.{Ticket}

-- a lane, how many tickets it has, and how many of them were issued, by number from 0
pub record Issuing : Type 0 where
  pub lane : ℕ
  pub limit : ℕ
  pub issued : ℕ

-- a lane with these fields
abbrev pub issuing : ℕ → ℕ → ℕ → Issuing
issuing lane limit issued = record { lane = lane; limit = limit; issued = issued }

-- the ticket of this lane and number
abbrev pub ticket_of : ℕ → ℕ → Ticket
ticket_of lane number = record { lane = lane; number = number }
