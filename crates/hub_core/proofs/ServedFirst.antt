-- What each lane has polled is the first of what its rows are served, and all of it once all has come back: for `serve_traffic`.
use Rattle.std.proofs.Common.{◌≡◌, ⊎_elim, ℕ, ◌<◌, ◌≤◌, ◌+◌, ◌++◌, List, [], ◌∷◌, zero, suc, Option, None, drop, get_or, length, refl, sym, ap, ◌∙◌, append_assoc, arith}
use Rattle.std.specs.List.{range_with_len}
use Rattle.std.proofs.lemmas.Bool.{cases_lt}
use Rattle.std.proofs.lemmas.List.{get_or-map, get_or_past, length-map}
use Rattle.std.proofs.lemmas.List.Elements.{All-tail}
use Rattle.std.proofs.lemmas.Option.{get_or_from_slice_get}
use Rattle.lane_core.specs.declared.job.Plain.{Plain}
use Rattle.hub_core.specs.Hubs.{shape_of, year_of}
use Rattle.hub_core.specs.Lanes.{issued_count, lane_of, numbers_of, polled, polled_count, submitted, submitted_rows}
use Rattle.hub_core.specs.Serving.{numbered_feeds, numbered_rows, served}
use Rattle.hub_core.proofs.SeatsAsLanes.{PolledFirst}
use Rattle.hub_core.specs.inner.Traffics.{HavePolledAll, AreOwnSeats, given_to, polled_by_each}
use Rattle.hub_core.specs.Traffics.{AreFirstOf, AreServedFirst}
use Rattle.hub_core.specs.declared.hub.Hub.{Hub}
use Rattle.hub_core.specs.declared.lane_seat.LaneSeat.{LaneSeat}
use Rattle.hub_core.proofs.RowsAreNumbered.{feed_at, rows_append, rows_long}
use Rattle.hub_core.proofs.ListsByPlace.{is_there, front_is_all}
use Rattle.hub_core.proofs.SeatsServeTraffic.{given_at, lane_is_place}

-- what each lane polled, from lane m on, is all that its rows are served, where all was polled
done_from : (h : Hub) (m : ℕ) (seats : List LaneSeat) (n : ℕ) → numbers_of seats ≡ range_with_len m n → PolledFirst h seats → HavePolledAll seats
    → polled_by_each seats ≡ numbered_feeds m (year_of h) (given_to seats None)
done_from h m [] n numbers owed even = refl
done_from h m (s ∷ seats) zero numbers owed even = absurd (omega (arith, ap length numbers, length-map seats lane_of))
done_from h m (s ∷ seats) (suc n) numbers owed even =
    let year = year_of h in
    let lane : lane_of s ≡ m = ap (λ (ns : List ℕ). get_or ns 0 m) numbers in
    let mine = owed 0 s refl in
    let count : length (polled s) ≡ length (numbered_rows (lane_of s) 0 year (submitted_rows s)) =
    even 0 s (omega arith) ∙ (sym (length-map (submitted s) (λ (x : Plain). x.widths)) ∙ sym (rows_long (lane_of s) 0 year (submitted_rows s))) in
    let here : polled s ≡ numbered_rows m 0 year (submitted_rows s) =
    front_is_all (polled s) mine.0 _ mine.1 count ∙ ap (λ l. numbered_rows l 0 year (submitted_rows s)) lane in
    let rest = done_from h (m + 1) seats n (ap (drop 1) numbers) (λ i v e. owed (suc i) v e)
    (All-tail (λ (v : LaneSeat). polled_count v ≡ issued_count v) s seats even) in
    (λ j. here j ∷ rest j)

-- and so of all lanes
pub all_served : (h : Hub) (seats : List LaneSeat) → AreOwnSeats h seats None → PolledFirst h seats → HavePolledAll seats → polled_by_each seats
    ≡ served (year_of h) (given_to seats None)
all_served h seats was first even = done_from h 0 seats (shape_of h).lanes was.numbers first even

-- what a lane polled is the first of what its rows are served: of a lane that has a seat, and of any place
polled_first_at : (h : Hub) (seats : List LaneSeat) (held : Option (ℕ × List ℕ)) (i : ℕ) → AreOwnSeats h seats held → PolledFirst h seats → i < length seats
    → (rest : List Plain) × (get_or (polled_by_each seats) i [] ++ rest ≡ get_or (served (year_of h) (given_to seats held)) i [])
polled_first_at h seats held i was first low =
    let y = year_of h in
    let there = is_there seats i low in
    let s = there.0 in
    let at : s ≡ get_or seats i s = sym (get_or_from_slice_get seats i s s there.1) in
    let lane : lane_of s ≡ i = sym (lane_is_place h seats held i s was low at) in
    let list = (first i s there.1).0 in
    let owed : polled s ++ list ≡ numbered_rows (lane_of s) 0 y (submitted_rows s) = (first i s there.1).1 in
    let given = given_at seats held i s low at in
    let extra = numbered_rows i (0 + length (submitted_rows s)) y given.0 in
    let mine : get_or (polled_by_each seats) i [] ≡ polled s = get_or-map polled seats i s [] low ∙ ap polled (sym at) in
    let serves : get_or (served y (given_to seats held)) i [] ≡ numbered_rows i 0 y (submitted_rows s) ++ extra =
    feed_at 0 i i y (given_to seats held) (omega arith) ∙ (ap (numbered_rows i 0 y) given.1 ∙ rows_append i 0 y (submitted_rows s) given.0) in (
      list ++ extra,
      ap (λ (v : List Plain). v ++ (list ++ extra)) mine ∙ (sym (append_assoc (polled s) list extra) ∙ (ap (λ (v : List Plain). v ++ extra) owed
          ∙ (ap (λ l. numbered_rows l 0 y (submitted_rows s) ++ extra) lane ∙ sym serves))),
    )

pub served_first : (h : Hub) (seats : List LaneSeat) (held : Option (ℕ × List ℕ)) → AreOwnSeats h seats held → PolledFirst h seats
    → AreServedFirst (year_of h) (given_to seats held) (polled_by_each seats)
served_first h seats held was first i = ⊎_elim
    (λ (low : i < length seats). polled_first_at h seats held i was first low)
    (λ (past : length seats ≤ i).
    let rest = get_or (served (year_of h) (given_to seats held)) i [] in
    (rest, ap (λ (v : List Plain). v ++ rest) (get_or_past (polled_by_each seats) i [] (omega (arith, past, length-map seats polled)))))
    (cases_lt i (length seats))

-- what is the first of the first is the first
pub first_of_first : (lists more wholes : List (List Plain)) → AreFirstOf lists more → AreFirstOf more wholes → AreFirstOf lists wholes
first_of_first lists more wholes a b i =
    let p = a i in
    let q = b i in
    (p.0 ++ q.0, sym (append_assoc (get_or lists i []) p.0 q.0) ∙ (ap (λ (v : List Plain). v ++ q.0) p.1 ∙ q.1))
