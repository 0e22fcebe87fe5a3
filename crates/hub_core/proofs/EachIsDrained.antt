-- One more delivery out of a queue, a hand, a ring or what waits, until a queue or a ring has none left: for the functions of `drain`.
use Rattle.std.proofs.Common.{◌≡◌, ℕ, ◌+◌, ◌≤◌, List, [], ◌∷◌, ◌++◌, length, map, option_to_list, sym, ap, ◌∙◌, subst, arith, append_assoc, append-nil}
use Rattle.std.specs.List.{flat_map, sum_by}
use Rattle.std.proofs.lemmas.List.Sums.{sum_by-append}
use Rattle.lane_core.specs.declared.job.Plain.{Plain}
use Rattle.lane_core.specs.Weights.{OneForOne}
use Rattle.hub_core.specs.declared.rule.Trace.{Trace}
use Rattle.hub_core.specs.declared.worker_seat.WorkerSeat.{WorkerSeat}
use Rattle.hub_core.specs.inner.DrainedLists.{DrainsInto, Listed, Drains}
use Rattle.hub_core.specs.Rule.{trace}
use Rattle.hub_core.specs.inner.Workers.{deliveries_in_hand}
use Rattle.hub_core.proofs.DrainsAddUp.{drained_then}
use Rattle.std.proofs.lemmas.List.{flat_map_more}

-- more than what was drained
pub drains_more : (t u v : List Listed) (ys : List Plain) (P Q : List Plain → Type 0) → Drains t u P → DrainsInto u v ys → ((xs : List Plain) → P xs → Q (xs ++ ys))
    → Drains t v Q
drains_more t u v ys P Q was more next = (was.0 ++ ys, drained_then t u v was.0 ys was.1 more, next was.0 was.2)

-- one more out of a queue, by the pass that has all 1,024 shares (`IsOneForOne`)
pub popped_more : (b v w : Trace) (x y : Plain) (t u u' : List Listed) → v.shares ≡ 1024 → v.pushed ≡ b.pushed → Drains t u (OneForOne v.popped b.popped)
    → w ≡ trace v.shares v.pushed (v.popped ++ x ∷ []) → y ≡ x → DrainsInto u u' (y ∷ [])
    → (w.shares ≡ 1024) × (w.pushed ≡ b.pushed) × Drains t u' (OneForOne w.popped b.popped)
popped_more b v w x y t u u' whole same was is what more = (
  ap (λ (h : Trace). h.shares) is ∙ whole,
  ap (λ (h : Trace). h.pushed) is ∙ same,
  drains_more t u u' (y ∷ []) (OneForOne v.popped b.popped) (OneForOne w.popped b.popped) was more (λ xs popped h.
      let e = ap (λ (p : Trace). sum_by h p.popped) is in
      let f = ap h what in
      omega (arith, popped h, e, sum_by-append h v.popped (x ∷ []), sum_by-append h xs (y ∷ []))),
)

-- nothing is left in a queue
pub popped_all : {X : Type 0} (f : X → Plain) (b v : Trace) (items : List X) (xs : List Plain) → v.pushed ≡ b.pushed → OneForOne v.popped b.popped xs → length items ≡ 0
    → ((h : Plain → ℕ) → sum_by h v.pushed ≡ sum_by h v.popped + sum_by h (map f items)) → OneForOne b.pushed b.popped xs
popped_all f b v [] xs same was none settled h = let e = ap (sum_by h) same in omega (arith, was h, settled h, e)
popped_all f b v (i ∷ is) xs same was none settled h = absurd (omega arith)

-- one more of those that wait
pub taken_more : (b v w : List Plain) (x : Plain) (t u u' : List Listed) → Drains t u (OneForOne b v) → ((h : Plain → ℕ) → sum_by h v ≡ h x + sum_by h w)
    → DrainsInto u u' (x ∷ []) → Drains t u' (OneForOne b w)
taken_more b v w x t u u' was gave more = drains_more t u u' (x ∷ []) (OneForOne b v) (OneForOne b w) was more
    (λ xs taken h. omega (arith, taken h, gave h, sum_by-append h xs (x ∷ [])))

-- one more out of a ring
pub rest_more : (i n : ℕ) (as' bs known : List Plain) (x : Plain) (t u u' : List Listed) → i + length as' ≡ n → Drains t u (λ xs. xs ++ as' ≡ known)
    → as' ≡ x ∷ bs → DrainsInto u u' (x ∷ []) → (i + 1 + length bs ≡ n) × Drains t u' (λ xs. xs ++ bs ≡ known)
rest_more i n as' bs known x t u u' left was front more = (
  omega (arith, ap length front),
  drains_more t u u' (x ∷ []) (λ xs. xs ++ as' ≡ known) (λ xs. xs ++ bs ≡ known) was more
      (λ xs is. append_assoc xs (x ∷ []) bs ∙ (ap (λ l. xs ++ l) (sym front) ∙ is)),
)

-- nothing is left in a ring
pub rest_all : (i n : ℕ) (ks known got got' all all' xs : List Plain) → i + length ks ≡ n → n ≤ i → xs ++ ks ≡ known → got' ++ known ≡ all' → got' ≡ got → all'
    ≡ all → got ++ xs ≡ all
rest_all i n [] known got got' all all' xs left end was fifo same same' =
    let e : xs ≡ known = sym (append-nil xs) ∙ was in
    ap (λ l. l ++ xs) (sym same) ∙ (ap (λ l. got' ++ l) e ∙ (fifo ∙ same'))
rest_all i n (k ∷ ks) known got got' all all' xs left end was fifo same same' = absurd (omega arith)

-- one more hand
pub hands_drained : (t u u' : List Listed) (ss : List WorkerSeat) (s : WorkerSeat) → DrainsInto t u (flat_map deliveries_in_hand ss)
    → DrainsInto u u' (option_to_list s.held) → DrainsInto t u' (flat_map deliveries_in_hand (ss ++ s ∷ []))
hands_drained t u u' ss s was more = subst (λ (l : List Plain). DrainsInto t u' l) (flat_map_more deliveries_in_hand [] ss s)
    (drained_then t u u' (flat_map deliveries_in_hand ss) (option_to_list s.held) was more)
