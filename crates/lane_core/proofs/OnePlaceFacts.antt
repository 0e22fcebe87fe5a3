-- A ticket is in one place at most (the law `one_place`): the places stand in a row, and together have it once.
use Rattle.std.proofs.Common.{◌≡◌, ℕ, ◌≤◌, ◌&&◌, not, nat_lt, zero, suc, List, [], ◌∷◌, get_or, refl, sym, ap, ◌∙◌, arith}
use Rattle.std.specs.List.{sum_by, count_by}
use Rattle.std.proofs.lemmas.List.Sums.{sum_by-cons}
use Rattle.lane_core.specs.declared.place.Place.{Place}
use Rattle.lane_core.specs.declared.place.Place.TheVariants.{JobQueue, Worker, ResultQueue, Waiting, Outbox, Polled}
use Rattle.lane_core.specs.Machine.{State, handed_of, issued_of, polled_of}
use Rattle.lane_core.specs.Tickets.{is_ticket_of}
use Rattle.lane_core.specs.Weights.{once}
use Rattle.lane_core.specs.Whereabouts.{IsAt, OnePlace}
use Rattle.lane_core.proofs.PolledFacts.{tickets_once}
use Rattle.lane_core.proofs.TruthFacts.{once_le}
use Rattle.lane_core.proofs.TicketFacts.{among_times, held_times, times_held}

-- the places in a row
abbrev rank : Place → ℕ
rank JobQueue = 0
rank Worker = 1
rank ResultQueue = 2
rank Waiting = 3
rank Outbox = 4
rank Polled = 5

abbrev of_rank : ℕ → Place
of_rank i = get_or (JobQueue ∷ Worker ∷ ResultQueue ∷ Waiting ∷ Outbox ∷ Polled ∷ []) i Polled

-- each place is the one of its rank
ranked : (p : Place) → of_rank (rank p) ≡ p
ranked JobQueue = refl
ranked Worker = refl
ranked ResultQueue = refl
ranked Waiting = refl
ranked Outbox = refl
ranked Polled = refl

-- how often the ticket is in each place, in that row
abbrev counts : State → ℕ → ℕ → List ℕ
counts s l k =
    count_by (is_ticket_of l k) s.jobs
    ∷ times_held l k s.workers
    ∷ count_by (is_ticket_of l k) s.results
    ∷ count_by (is_ticket_of l k) s.waiting
    ∷ once (not (nat_lt k (polled_of s l)) && nat_lt k (handed_of s l))
    ∷ once (nat_lt k (polled_of s l))
    ∷ []

-- a ticket at a place is counted there
there : (s : State) (l k : ℕ) (p : Place) → IsAt s l k p → 1 ≤ get_or (counts s l k) (rank p) 0
there s l k JobQueue a = among_times l k s.jobs a
there s l k Worker a = held_times l k s.workers a
there s l k ResultQueue a = among_times l k s.results a
there s l k Waiting a = among_times l k s.waiting a
there s l k Outbox a = let b = ap once a in omega arith
there s l k Polled a = let b = ap once a in omega arith

-- one of several is no more than all together: std's `get_or-le-sum_by`, also past the end
part : (xs : List ℕ) (i : ℕ) → get_or xs i 0 ≤ sum_by (λ n. n) xs
part [] i = omega arith
part (x ∷ xs) zero = omega (arith, sum_by-cons (λ n. n) x xs)
part (x ∷ xs) (suc i) = omega (arith, part xs i, sum_by-cons (λ n. n) x xs)

-- where all together are 1 at most, no two have 1 each
alone : (xs : List ℕ) (i j : ℕ) → sum_by (λ n. n) xs ≤ 1 → 1 ≤ get_or xs i 0 → 1 ≤ get_or xs j 0 → i ≡ j
alone [] i j few a b = absurd (omega arith)
alone (x ∷ xs) zero zero few a b = refl
alone (x ∷ xs) zero (suc j) few a b = absurd (omega (arith, part xs j, sum_by-cons (λ n. n) x xs))
alone (x ∷ xs) (suc i) zero few a b = absurd (omega (arith, part xs i, sum_by-cons (λ n. n) x xs))
alone (x ∷ xs) (suc i) (suc j) few a b = ap suc (alone xs i j (omega (arith, sum_by-cons (λ n. n) x xs)) a b)

pub one_place : OnePlace
one_place s l k p q r a b =
    let once_there = tickets_once s r l k in
    let most = once_le (nat_lt k (issued_of s l)) in
    let same = alone (counts s l k) (rank p) (rank q) (omega (arith, once_there, most)) (there s l k p a) (there s l k q b) in
    sym (ranked p) ∙ (ap of_rank same ∙ ranked q)
