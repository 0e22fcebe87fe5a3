-- What a reorder buffer is kept as: a slot for each lane's next number, and later numbers in a map.
use Rattle.std.specs.Prelude.{ℕ, suc, List, [], ◌∷◌, ◌++◌}
use Rattle.std.specs.List.{flat_map}
use Rattle.std.specs.Map.{values_of}
use Rattle.lane_core.specs.declared.next_slot.NextSlot.{NextSlot}
use Rattle.lane_core.specs.declared.next_slot.NextSlot.TheVariants.{Missing, Here, Out}
use Rattle.lane_core.specs.declared.job.Plain.{Plain}
use Rattle.lane_core.specs.declared.ticket.Ticket.{Ticket}
use Rattle.lane_core.specs.Issuing.{ticket_of}
use Rattle.lane_core.specs.ReorderBuffer.{ReorderBuffer, buffer}

-- the delivery that waits in a slot, if one does
abbrev pub waiting_of : NextSlot → List Plain
waiting_of Missing = []
waiting_of (Here x) = x ∷ []
waiting_of Out = []

-- those that wait as their lanes' next numbers
abbrev pub waiting_at : List NextSlot → List Plain
waiting_at slots = flat_map waiting_of slots

-- the ticket of lane l's next number k, if it was taken in
abbrev pub come_ticket : ℕ → ℕ → NextSlot → List Ticket
come_ticket l k Missing = []
come_ticket l k (Here x) = ticket_of l k ∷ []
come_ticket l k Out = ticket_of l k ∷ []

-- the tickets of the next numbers, from lane l's on, that were taken in
abbrev pub come_tickets : ℕ → List ℕ → List NextSlot → List Ticket
come_tickets l [] slots = []
come_tickets l (n ∷ nexts) [] = []
come_tickets l (n ∷ nexts) (h ∷ slots) = come_ticket l n h ++ come_tickets (suc l) nexts slots

-- the reorder buffer that a deliverer keeps in these four fields: its view
abbrev pub buffer_by_slots : List ℕ → List NextSlot → List (Ticket × Plain) → List Ticket → ReorderBuffer
buffer_by_slots nexts slots later known = buffer nexts (waiting_at slots ++ values_of later) (come_tickets 0 nexts slots ++ known)
