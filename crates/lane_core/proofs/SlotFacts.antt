-- What waits in the lanes' slots (`waiting_at`), and whether a lane's next number does: for `Deliverer::next`, `take_in`, `take_next` and
-- `take_any`. BufferFacts says what `nexts`, `hs`, `es` and `ks` are.
use Rattle.std.proofs.Common.{◌≡◌, ◌≢◌, ⊎_elim, ℕ, ◌+◌, ◌<◌, ◌≤◌, ◌^◌, ◌||◌, nat_lt, true, false, zero, suc, List, [], ◌∷◌, ◌++◌, length, set, get_or, refl, sym, ap, ◌∙◌, arith}
use Rattle.std.specs.Prelude.{Contains}
use Rattle.std.proofs.lemmas.List.Folds.{list_any-append}
use Rattle.std.specs.Map.{values_of}
use Rattle.std.specs.List.{sum_by}
use Rattle.std.proofs.lemmas.List.Sums.{sum_by-append}
use Rattle.std.proofs.lemmas.Bool.{and_parts, cases_lt, false_from_ne_true}
use Rattle.lane_core.specs.declared.next_slot.NextSlot.{NextSlot}
use Rattle.lane_core.specs.declared.next_slot.NextSlot.TheVariants.{Missing, Here, Out}
use Rattle.lane_core.specs.declared.job.Plain.{Plain}
use Rattle.lane_core.specs.declared.ticket.Ticket.{Ticket}
use Rattle.lane_core.specs.ReorderBuffer.{has_next}
use Rattle.lane_core.specs.inner.NextSlots.{AreKept, IsSlotOf, is_here, slot_at}
use Rattle.lane_core.specs.NextSlots.{buffer_by_slots, waiting_at, waiting_of}
use Rattle.lane_core.specs.Tickets.{is_among, is_ticket_of}
use Rattle.lane_core.proofs.TicketLookup.{none_past, tied_parts}
use Rattle.lane_core.proofs.TruthFacts.{or_false}
use Rattle.lane_core.proofs.TicketFacts.{not_ticket_of}

-- one slot's content in another's place: std's `sum_by-set` has it of items, and a slot has one or none
pub set_sum : (h : Plain → ℕ) (hs : List NextSlot) (i : ℕ) (a : NextSlot) → i < length hs
    → sum_by h (waiting_at (set hs i a)) + sum_by h (waiting_of (slot_at hs i)) ≡ sum_by h (waiting_at hs) + sum_by h (waiting_of a)
set_sum h [] i a low = absurd (omega arith)
set_sum h (x ∷ hs) zero a low =
    let new = sum_by-append h (waiting_of a) (waiting_at hs) in
    let old = sum_by-append h (waiting_of x) (waiting_at hs) in
    omega arith
set_sum h (x ∷ hs) (suc i) a low =
    let new = sum_by-append h (waiting_of x) (waiting_at (set hs i a)) in
    let old = sum_by-append h (waiting_of x) (waiting_at hs) in
    let rest = set_sum h hs i a (omega arith) in
    omega arith

-- the lane and number of a delivery that waits as its lane's next: `tied_parts`, under that ticket
pub own_parts : (l k : ℕ) (x : Plain) → IsSlotOf l k (Here x) → (x.lane ≡ l) × (x.number ≡ k) × (k < 2 ^ 32)
own_parts l k x is = tied_parts (record { lane = l; number = k }, x) is

-- each slot is of the lane and the number that these say at its place
abbrev Own : (ℕ → ℕ) → (ℕ → ℕ) → List NextSlot → Type 0
Own lane next hs = (j : ℕ) → j < length hs → IsSlotOf (lane j) (next j) (slot_at hs j)

-- no two places are of one lane
abbrev Apart : (ℕ → ℕ) → Type 0
Apart lane = (i j : ℕ) → lane i ≡ lane j → i ≡ j

-- what f says of places, from the second place on; and `Own` and `Apart` of it
abbrev behind : (ℕ → ℕ) → ℕ → ℕ
behind f j = f (suc j)

own_behind : (lane next : ℕ → ℕ) (h : NextSlot) (hs : List NextSlot) → Own lane next (h ∷ hs) → Own (behind lane) (behind next) hs
own_behind lane next h hs own j low = own (suc j) (omega arith)

apart_behind : (lane : ℕ → ℕ) → Apart lane → Apart (behind lane)
apart_behind lane apart i j e = let c = apart (suc i) (suc j) e in omega arith

-- of a lane that has none of these slots nothing waits in them
none_elsewhere : (lane next : ℕ → ℕ) (hs : List NextSlot) (l k : ℕ) → Own lane next hs → ((j : ℕ) → lane j ≢ l) → is_among l k (waiting_at hs) ≡ false
none_elsewhere lane next [] l k own other = refl
none_elsewhere lane next (Missing ∷ hs) l k own other =
    none_elsewhere (behind lane) (behind next) hs l k (own_behind lane next Missing hs own) (λ j. other (suc j))
none_elsewhere lane next (Here x ∷ hs) l k own other =
    ap (λ b. b || is_among l k (waiting_at hs)) (not_ticket_of (lane 0) l k x (own_parts (lane 0) (next 0) x (own 0 (omega arith))).0 (other 0))
    ∙ none_elsewhere (behind lane) (behind next) hs l k (own_behind lane next (Here x) hs own) (λ j. other (suc j))
none_elsewhere lane next (Out ∷ hs) l k own other =
    none_elsewhere (behind lane) (behind next) hs l k (own_behind lane next Out hs own) (λ j. other (suc j))

-- of the first lane none waits behind the first slot
none_behind : (lane next : ℕ → ℕ) (h : NextSlot) (hs : List NextSlot) → Own lane next (h ∷ hs) → Apart lane
    → is_among (lane 0) (next 0) (waiting_at hs) ≡ false
none_behind lane next h hs own apart = none_elsewhere (behind lane) (behind next) hs (lane 0) (next 0) (own_behind lane next h hs own)
    (λ j e. let c = apart (suc j) 0 e in absurd (omega arith))

-- in the slots a lane's next number waits exactly where its slot says so
here_of : (lane next : ℕ → ℕ) (hs : List NextSlot) (l : ℕ) → Own lane next hs → Apart lane → l < length hs
    → is_among (lane l) (next l) (waiting_at hs) ≡ is_here (slot_at hs l)
here_of lane next [] l own apart low = absurd (omega arith)
here_of lane next (Missing ∷ hs) zero own apart low = none_behind lane next Missing hs own apart
here_of lane next (Out ∷ hs) zero own apart low = none_behind lane next Out hs own apart
here_of lane next (Here x ∷ hs) zero own apart low = ap (λ b. b || is_among (lane 0) (next 0) (waiting_at hs)) (and_parts (is_ticket_of (lane 0) (next 0) x) (nat_lt (next 0) (2 ^ 32)) (own 0 low)).0
here_of lane next (Missing ∷ hs) (suc l) own apart low =
    here_of (behind lane) (behind next) hs l (own_behind lane next Missing hs own) (apart_behind lane apart) (omega arith)
here_of lane next (Out ∷ hs) (suc l) own apart low =
    here_of (behind lane) (behind next) hs l (own_behind lane next Out hs own) (apart_behind lane apart) (omega arith)
here_of lane next (Here x ∷ hs) (suc l) own apart low =
    ap (λ b. b || is_among (lane (suc l)) (next (suc l)) (waiting_at hs))
    (not_ticket_of (lane 0) (lane (suc l)) (next (suc l)) x (own_parts (lane 0) (next 0) x (own 0 (omega arith))).0
    (λ e. let c = apart 0 (suc l) e in absurd (omega arith)))
    ∙ here_of (behind lane) (behind next) hs l (own_behind lane next (Here x) hs own) (apart_behind lane apart) (omega arith)

-- one that waits as its lane's next number is among all that wait
pub contained : (hs : List NextSlot) (l : ℕ) (x : Plain) (rest : List Plain) → l < length hs → slot_at hs l ≡ Here x → Contains (waiting_at hs ++ rest) x
contained [] l x rest low is = absurd (omega arith)
contained (Missing ∷ hs) zero x rest low is = absurd (cc)
contained (Out ∷ hs) zero x rest low is = absurd (cc)
contained (Here y ∷ hs) zero x rest low is = (0, omega arith, here_is y x is)
  where
    here_is : (y x : Plain) → Here y ≡ Here x → y ≡ x
    here_is y x e = cc
contained (Missing ∷ hs) (suc l) x rest low is = contained hs l x rest (omega arith) is
contained (Out ∷ hs) (suc l) x rest low is = contained hs l x rest (omega arith) is
contained (Here y ∷ hs) (suc l) x rest low is = let c = contained hs l x rest (omega arith) is in (suc c.0, (let less = c.1 in omega arith), c.2)

-- a lane's next number waits at a deliverer exactly where the lane's slot says so: `here_of`, beside the later numbers
pub next_waits : (nexts : List ℕ) (hs : List NextSlot) (es : List (Ticket × Plain)) (ks : List Ticket) (l : ℕ) → AreKept nexts hs es ks → l < length nexts
    → has_next (buffer_by_slots nexts hs es ks) l ≡ is_here (slot_at hs l)
next_waits nexts hs es ks l kept low =
    let n = get_or nexts l 0 in
    let more : is_among l n (waiting_at hs ++ values_of es) ≡ (is_among l n (waiting_at hs) || is_among l n (values_of es)) =
    list_any-append (is_ticket_of l n) (waiting_at hs) (values_of es) in
    let none : is_among l n (values_of es) ≡ false = ⊎_elim
    (λ (small : n < 2 ^ 32). false_from_ne_true (is_among l n (values_of es))
    (λ is. let c : true ≡ false = sym (kept.indexed.among l n is) ∙ kept.apart l low small in cc))
    (λ (great : 2 ^ 32 ≤ n). none_past l n es kept.indexed.tied great)
    (cases_lt n (2 ^ 32)) in
    more ∙ (or_false (is_among l n (waiting_at hs)) (is_among l n (values_of es)) none
    ∙ here_of (λ j. j) (λ j. get_or nexts j 0) hs l (λ j less. kept.own j (let c = kept.lanes in omega arith)) (λ i j e. e) (let c = kept.lanes in omega arith))
