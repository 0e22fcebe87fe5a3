-- The reorder buffer that a deliverer keeps, and how its calls change it.
use Rattle.std.specs.Prelude.{◌≡◌, ◌==◌, ◌&&◌, ◌||◌, ◌+◌, ℕ, Bool, true, false, not, nat_lt, List, [], length, replicate, slice_index, slice_set, Contains}
use Rattle.std.specs.List.{list_any, sum_by}
use Rattle.lane_core.specs.declared.job.Plain.{Plain}
use Rattle.lane_core.specs.declared.fault.TakeFault.{TakeFault}
use Rattle.lane_core.specs.declared.fault.TakeFault.TheVariants.{Stranger, NoMemory}
use Rattle.lane_core.specs.declared.ticket.Ticket.{Ticket}
use Rattle.lane_core.specs.Tickets.{is_among, is_ticket_of}

-- each lane's next number, the deliveries that wait, and the tickets that were taken in of numbers that no lane was given
pub record ReorderBuffer : Type 0 where
  pub nexts : List ℕ
  pub waiting : List Plain
  pub known : List Ticket

-- the buffer with these fields
abbrev pub buffer : List ℕ → List Plain → List Ticket → ReorderBuffer
buffer nexts waiting known = record { nexts = nexts; waiting = waiting; known = known }

-- the buffer of this many lanes at which nothing was taken in
abbrev pub new_buffer : ℕ → ReorderBuffer
new_buffer lanes = buffer (replicate lanes 0) [] []

-- how many lanes there are
abbrev pub lanes_of : ReorderBuffer → ℕ
lanes_of d = length d.nexts

-- the number that lane l is given next
abbrev pub next_of : ReorderBuffer → ℕ → ℕ
next_of d l = slice_index d.nexts l

-- whether one of these tickets is lane l's number k
abbrev pub is_known : ℕ → ℕ → List Ticket → Bool
is_known l k tickets = list_any (λ t. (t.lane == l) && (t.number == k)) tickets

-- whether lane l's number k was taken in: it was given to the lane, or is known, whether it waits still or was taken out of turn
abbrev pub was_taken : ReorderBuffer → ℕ → ℕ → Bool
was_taken d l k = nat_lt k (next_of d l) || is_known l k d.known

-- whether its lane is there and its number was not taken in; `sift` of Settling asks the same of a list of what was taken in
abbrev pub is_new : ReorderBuffer → Plain → Bool
is_new d x = nat_lt x.lane (lanes_of d) && not (was_taken d x.lane x.number)

-- x was taken in: it waits, beside what waited before
pub record TakesIn (d : ReorderBuffer) (x : Plain) (e : ReorderBuffer) : Type 0 where
  pub new : is_new d x ≡ true
  pub nexts : e.nexts ≡ d.nexts
  pub waiting : (h : Plain → ℕ) → sum_by h e.waiting ≡ sum_by h d.waiting + h x
  pub known : (l k : ℕ) → was_taken e l k ≡ (was_taken d l k || is_ticket_of l k x)

-- x comes back, as a stranger exactly if it is not new; no memory is refused to it if it is its lane's next number
abbrev pub ComesBack : ReorderBuffer → Plain → TakeFault → Type 0
ComesBack d x (Stranger y) = (is_new d x ≡ false) × (y ≡ x)
ComesBack d x (NoMemory y) = (is_new d x ≡ true) × (y ≡ x) × (x.number ≡ next_of d x.lane → ⊥)

-- whether lane l's next number waits
abbrev pub has_next : ReorderBuffer → ℕ → Bool
has_next d l = is_among l (next_of d l) d.waiting

-- x waits, as lane l's next number
pub record WaitsAsNext (d : ReorderBuffer) (l : ℕ) (x : Plain) : Type 0 where
  pub lane : x.lane ≡ l
  pub number : x.number ≡ next_of d l
  pub waits : Contains d.waiting x

-- x waits no more, and nothing else has changed of what waits and what was taken in
pub record Leaves (d : ReorderBuffer) (x : Plain) (e : ReorderBuffer) : Type 0 where
  pub waiting : (h : Plain → ℕ) → sum_by h d.waiting ≡ sum_by h e.waiting + h x
  pub known : (l k : ℕ) → was_taken e l k ≡ was_taken d l k

-- lane l was given x, its next number: `lane` and `number` are those of `WaitsAsNext`
pub record GivesNext (d : ReorderBuffer) (l : ℕ) (x : Plain) (e : ReorderBuffer) : Type 0 where
  pub lane : x.lane ≡ l
  pub number : x.number ≡ next_of d l
  pub nexts : e.nexts ≡ slice_set d.nexts l (next_of d l + 1)
  pub leaves : Leaves d x e

-- x was taken out of turn: no lane's next number moves
pub record GivesAny (d : ReorderBuffer) (x : Plain) (e : ReorderBuffer) : Type 0 where
  pub nexts : e.nexts ≡ d.nexts
  pub leaves : Leaves d x e
