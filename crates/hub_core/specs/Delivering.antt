-- The deliverer's seat: what it has collected, what is in its hand, and what it has handed to each lane; how `collect` and `hand` change that.
use Rattle.std.specs.Prelude.{◌≡◌, ◌≢◌, ◌⊎◌, ◌&&◌, ℕ, Bool, not, true, false, List, [], ◌∷◌, ◌++◌, Option, Some, None, option_to_list, MatchOption, length, slice_get, slice_index_or}
use Rattle.lane_core.specs.declared.job.Plain.{Plain}
use Rattle.lane_core.specs.ReorderBuffer.{ReorderBuffer, GivesNext, TakesIn, has_next, is_new, lanes_of}
use Rattle.lane_core.specs.Settling.{sifted}
use Rattle.lane_core.specs.Tickets.{is_among}
use Rattle.hub_core.specs.Passes.{popped_by}
use Rattle.rtrb.specs.Ring.{known_free}
use Rattle.hub_core.specs.Rings.{PushEnd, all_sent}
use Rattle.hub_core.specs.declared.deliverer_seat.DelivererSeat.{DelivererSeat}
use Rattle.hub_core.specs.declared.deliverer_seat.Collected.{Collected}
use Rattle.hub_core.specs.declared.deliverer_seat.Collected.TheVariants as collecting
use Rattle.hub_core.specs.declared.deliverer_seat.Handed.{Handed}
use Rattle.hub_core.specs.declared.deliverer_seat.Handed.TheVariants as handing

abbrev pub collected : DelivererSeat → List Plain
collected s = popped_by s.collects

abbrev pub in_hand : DelivererSeat → Option Plain
in_hand s = s.held

-- `in_hand` as a list
abbrev pub hand_of : DelivererSeat → List Plain
hand_of s = option_to_list s.held

-- what waits, and each lane's next number
abbrev pub buffer_of : DelivererSeat → ReorderBuffer
buffer_of s = s.deliverer

abbrev pub lane_count : DelivererSeat → ℕ
lane_count s = lanes_of (buffer_of s)

-- what each lane was handed
abbrev pub all_handed : DelivererSeat → List (List Plain)
all_handed s = all_sent s.rings.items

-- what lane l was handed: its list of `all_handed`
abbrev pub handed : DelivererSeat → ℕ → List Plain
handed s l = slice_index_or (all_sent s.rings.items) l []

-- of what was collected, what is not set aside
abbrev pub taken_in : DelivererSeat → List Plain
taken_in s = sifted (lane_count s) (collected s)

-- whether lane l's next number was collected, and is not in hand
abbrev pub next_is_there : DelivererSeat → ℕ → Bool
next_is_there s l = is_among l (length (handed s l)) (collected s) && not (is_among l (length (handed s l)) (hand_of s))

-- each lane was handed in t what it was handed in s
abbrev pub SameHanded : DelivererSeat → DelivererSeat → Type 0
SameHanded s t = (l : ℕ) → handed t l ≡ handed s l

-- x is what was in the hand, or else one more delivery: as `TakesJob` of a worker's seat
abbrev pub TakesDelivery : DelivererSeat → Plain → DelivererSeat → Type 0
TakesDelivery s x t = MatchOption (in_hand s) (collected t ≡ collected s ++ x ∷ []) (λ d. (d ≡ x) × (collected t ≡ collected s))

-- x was taken in; or it is a stranger, and was set aside
abbrev pub TakesOrSetsAside : ReorderBuffer → Plain → ReorderBuffer → Type 0
TakesOrSetsAside d x e = TakesIn d x e ⊎ ((is_new d x ≡ false) × (e ≡ d))

-- how the lists grow with each answer of `collect`
abbrev pub Collects : DelivererSeat → Collected → DelivererSeat → Type 0
Collects s collecting.Nothing t = (in_hand s ≡ None) × (in_hand t ≡ None) × (collected t ≡ collected s) × (buffer_of t ≡ buffer_of s) × SameHanded s t
Collects s collecting.Taken t = (x : Plain) × TakesDelivery s x t × TakesOrSetsAside (buffer_of s) x (buffer_of t) × (in_hand t ≡ None) × SameHanded s t
Collects s collecting.NoMemory t = (x : Plain) × TakesDelivery s x t × (in_hand t ≡ Some x) × (buffer_of t ≡ buffer_of s) × SameHanded s t

-- lane l's ring was seen with no free place
abbrev pub RingIsFull : DelivererSeat → ℕ → Type 0
RingIsFull s l = (r : PushEnd) → slice_get s.rings.items l ≡ Some r → known_free r ≡ 0

-- how the lists grow with each answer of `hand`
abbrev pub Hands : DelivererSeat → ℕ → Handed → DelivererSeat → Type 0
Hands s l handing.Nothing t = (has_next (buffer_of s) l ≡ false) × (t ≡ s)
Hands s l handing.RingFull t = (has_next (buffer_of s) l ≡ true) × (buffer_of t ≡ buffer_of s) × (collected t ≡ collected s) × (in_hand t ≡ in_hand s)
    × SameHanded s t × RingIsFull t l
Hands s l handing.Given t =
    (x : Plain)
    × GivesNext (buffer_of s) l x (buffer_of t)
    × (x.number ≡ length (handed s l))
    × (handed t l ≡ handed s l ++ x ∷ [])
    × ((m : ℕ) → m ≢ l → handed t m ≡ handed s m)
    × (collected t ≡ collected s)
    × (in_hand t ≡ in_hand s)
