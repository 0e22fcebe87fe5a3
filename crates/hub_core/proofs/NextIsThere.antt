-- A lane's next number, whether it was collected and is not in hand: for `DelivererSeat::next`.
use Rattle.std.proofs.Common.{◌≡◌, ⊎_elim, ℕ, ◌<◌, ◌&&◌, ◌||◌, not, nat_lt, cond, Bool, true, false, List, [], ◌∷◌, ◌++◌, refl, sym, ap, ◌∙◌, arith, Option, Some, None}
use Rattle.std.specs.List.{fold, list_all, count_by}
use Rattle.std.specs.Option.{IfSome}
use Rattle.std.proofs.Math.Bool.{or-false, or_assoc}
use Rattle.std.proofs.lemmas.Bool.{and_parts, lt-ltb, or_cases}
use Rattle.lane_core.specs.declared.job.Plain.{Plain}
use Rattle.lane_core.specs.ReorderBuffer.{ReorderBuffer, WaitsAsNext, has_next, is_new, lanes_of, next_of, was_taken}
use Rattle.lane_core.specs.Settling.{sift, sifted}
use Rattle.lane_core.specs.Tickets.{is_among, is_ticket_of}
use Rattle.hub_core.specs.inner.Accounting.{Accounted}
use Rattle.lane_core.proofs.TicketFacts.{among_from, among_times, ticket_parts}
use Rattle.hub_core.proofs.DeliveriesAreAccounted.{among_cond, at_ticket}
use Rattle.hub_core.proofs.TestsAndCounts.{true_by_count, there_by}
use Rattle.lane_core.proofs.TruthFacts.{once_not_below}

-- the delivery that waits next, with its number
pub with_number : {X : Type 0} (f : X → Plain) (d : ReorderBuffer) (l : ℕ) (o : Option X) (n : ℕ) → n ≡ next_of d l → IfSome o (λ x. WaitsAsNext d l (f x))
    → IfSome o (λ x. WaitsAsNext d l (f x) × ((f x).number ≡ n))
with_number f d l None n e is = tt
with_number f d l (Some x) n e is = (is, is.number ∙ sym e)

-- what is among those that are not set aside: of one more, of many after others, and of all
sift_by : (b : Bool) (n l k : ℕ) (seen : List Plain) (x : Plain) → (nat_lt x.lane n && not (is_among x.lane x.number seen)) ≡ b → l < n
    → is_among l k (cond b (seen ++ x ∷ []) seen) ≡ (is_among l k seen || is_ticket_of l k x)
sift_by true n l k seen x e low = among_cond true l k seen x
sift_by false n l k seen x e low = passed (is_ticket_of l k x) (is_among l k seen)
    (λ h. let p = ticket_parts l k x h in seen_too (nat_lt x.lane n) (is_among x.lane x.number seen) e (λ i. is_among (p.0 i) (p.1 i) seen)
    (lt-ltb x.lane n (omega (arith, p.0))))
  where
    seen_too : {c : Bool} (a b : Bool) → (a && not b) ≡ false → b ≡ c → a ≡ true → c ≡ true
    seen_too true true e is f = sym is
    seen_too true false e is f = absurd (cc)
    seen_too false b e is f = absurd (cc)

    passed : (t s : Bool) → (t ≡ true → s ≡ true) → s ≡ (s || t)
    passed true true f = refl
    passed true false f = absurd (let e = f refl in cc)
    passed false true f = refl
    passed false false f = refl

among_folded : (n l k : ℕ) (seen xs : List Plain) → l < n → is_among l k (fold (sift n) seen xs) ≡ (is_among l k seen || is_among l k xs)
among_folded n l k seen [] low = sym (or-false (is_among l k seen))
among_folded n l k seen (x ∷ xs) low =
    among_folded n l k (sift n seen x) xs low
    ∙ (ap (λ b. b || is_among l k xs) (sift_by (nat_lt x.lane n && not (is_among x.lane x.number seen)) n l k seen x refl low)
    ∙ or_assoc (is_among l k seen) (is_ticket_of l k x) (is_among l k xs))

among_sifted : (n l k : ℕ) (xs : List Plain) → l < n → is_among l k (sifted n xs) ≡ is_among l k xs
among_sifted n l k xs low = among_folded n l k [] xs low

-- the next number was taken in exactly where it waits
next_taken : (d : ReorderBuffer) (c hand : List Plain) (gs : List (List Plain)) (l : ℕ) → Accounted d c hand gs → was_taken d l (next_of d l) ≡ has_next d l
next_taken d c hand gs l s =
    let t = s.giving.taken l (next_of d l) in
    true_by_count (has_next d l) (count_by (is_ticket_of l (next_of d l)) d.waiting) (was_taken d l (next_of d l)) (omega (arith, t, once_not_below (next_of d l) (next_of d l) (omega arith)))
    (λ e. among_times l (next_of d l) d.waiting e) (λ e. among_from l (next_of d l) d.waiting e)

-- what is in hand was not taken in
fresh_apart : (d : ReorderBuffer) (l k : ℕ) (hand : List Plain) → list_all (is_new d) hand ≡ true → is_among l k hand ≡ true → was_taken d l k ≡ false
fresh_apart d l k [] all e = absurd (cc)
fresh_apart d l k (y ∷ ys) all e =
    let s = and_parts (is_new d y) (list_all (is_new d) ys) all in
    ⊎_elim
    (λ (h : is_ticket_of l k y ≡ true). at_ticket d l k y s.0 h)
    (λ (h : is_among l k ys ≡ true). fresh_apart d l k ys s.1 h)
    (or_cases (is_ticket_of l k y) (is_among l k ys) e)

-- the lane's next number was collected and is not in hand exactly where it waits
pub there_is_next : (d : ReorderBuffer) (c hand : List Plain) (gs : List (List Plain)) (l n : ℕ) → Accounted d c hand gs → l < lanes_of d → n ≡ next_of d l
    → (is_among l n c && not (is_among l n hand)) ≡ has_next d l
there_is_next d c hand gs l n s low is =
    let k = next_of d l in
    let known : (was_taken d l k || is_among l k hand) ≡ is_among l k c = s.known l k ∙ among_sifted (lanes_of d) l k c low in
    ap (λ m. is_among l m c && not (is_among l m hand)) is
    ∙ (there_by (was_taken d l k) (is_among l k hand) (is_among l k c) known (λ h. fresh_apart d l k hand s.fresh h) ∙ next_taken d c hand gs l s)
