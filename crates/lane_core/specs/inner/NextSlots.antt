-- The invariant of `Deliverer`, what there is of a lane's next number (`slot_of`), and one that is taken out of turn (`take_first`).
use Rattle.std.specs.Prelude.{◌≡◌, ◌&&◌, ◌||◌, ◌==◌, ◌^◌, ◌<◌, ◌+◌, ℕ, Bool, true, false, nat_lt, List, length, slice_index, slice_index_or, ⊤, slice_set}
use Rattle.std.specs.List.{list_all, sum_by}
use Rattle.std.specs.Map.{values_of}
use Rattle.lane_core.specs.declared.next_slot.NextSlot.{NextSlot}
use Rattle.lane_core.specs.declared.next_slot.NextSlot.TheVariants.{Missing, Here, Out}
use Rattle.lane_core.specs.declared.job.Plain.{Plain}
use Rattle.lane_core.specs.declared.ticket.Ticket.{Ticket}
use Rattle.lane_core.specs.Issuing.{ticket_of}
use Rattle.lane_core.specs.ReorderBuffer.{is_known}
use Rattle.lane_core.specs.Tickets.{is_among, is_ticket_of}
use Rattle.lane_core.specs.NextSlots.{waiting_of}

-- the delivery has the ticket, whose number has 32 bits
abbrev pub is_tied : Ticket × Plain → Bool
is_tied e = is_ticket_of e.0.lane e.0.number e.1 && nat_lt e.0.number (2 ^ 32)

-- each delivery stands under its own ticket
abbrev pub are_tied : List (Ticket × Plain) → Bool
are_tied entries = list_all is_tied entries

-- whether the slot's number waits
abbrev pub is_here : NextSlot → Bool
is_here Missing = false
is_here (Here x) = true
is_here Out = false

-- whether the slot's number was taken in
abbrev pub has_come : NextSlot → Bool
has_come Missing = false
has_come (Here x) = true
has_come Out = true

-- what there is of lane l's next number; of a lane that is not there nothing
abbrev pub slot_at : List NextSlot → ℕ → NextSlot
slot_at slots l = slice_index_or slots l Missing

-- x waited in one of the old slots, from which it was taken out of turn
abbrev pub TakesSlot : List NextSlot → List NextSlot → Plain → Type 0
TakesSlot old new x = (i : ℕ) × (i < length old) × (slot_at old i ≡ Here x) × (new ≡ slice_set old i Out)

-- a delivery that waits as lane l's next number k has that ticket, and k has 32 bits
abbrev pub IsSlotOf : ℕ → ℕ → NextSlot → Type 0
IsSlotOf l k Missing = ⊤
IsSlotOf l k (Here x) = is_tied (ticket_of l k, x) ≡ true
IsSlotOf l k Out = ⊤

-- deliveries of later numbers stand under their own tickets, all of them known
pub record AreIndexed (later : List (Ticket × Plain)) (known : List Ticket) : Type 0 where
  pub tied : are_tied later ≡ true
  pub among : (l k : ℕ) → is_among l k (values_of later) ≡ true → is_known l k known ≡ true

-- each lane has a slot, of its next number, which is not known as a later one; past its last ticket a lane's next number is 2 ^ 32, which no ticket has
pub record AreKept (nexts : List ℕ) (slots : List NextSlot) (later : List (Ticket × Plain)) (known : List Ticket) : Type 0 where
  pub lanes : length slots ≡ length nexts
  pub own : (l : ℕ) → l < length nexts → IsSlotOf l (slice_index nexts l) (slot_at slots l)
  pub indexed : AreIndexed later known
  pub apart : (l : ℕ) → l < length nexts → slice_index nexts l < 2 ^ 32 → is_known l (slice_index nexts l) known ≡ false

-- lane l's number k is its next from now on: it leaves the later numbers if it was one, and nothing else changes of what waits and what is known
pub record Advances (l k : ℕ) (later : List (Ticket × Plain)) (known : List Ticket) (later' : List (Ticket × Plain)) (known' : List Ticket) (slot : NextSlot) :
    Type 0 where
  pub own : IsSlotOf l k slot
  pub indexed : AreIndexed later' known'
  pub waiting : (h : Plain → ℕ) → sum_by h (values_of later) ≡ sum_by h (waiting_of slot) + sum_by h (values_of later')
  pub same : (m n : ℕ) → ((((l == m) && (k == n)) && has_come slot) || is_known m n known') ≡ is_known m n known
  pub gone : k < 2 ^ 32 → is_known l k known' ≡ false
