-- The passes of all seats, joined one by one: for `place_hands`, `place_rings` and `drain_all`.
use Rattle.std.proofs.Common.{◌≡◌, ℕ, ◌+◌, List, [], ◌∷◌, ◌++◌, length, length-append, ap, ◌∙◌, arith, append-nil}
use Rattle.std.specs.List.{flat_map, sum_by}
use Rattle.lane_core.specs.declared.job.Plain.{Plain}
use Rattle.lane_core.specs.Weights.{OneForOne}
use Rattle.hub_core.specs.declared.rule.Trace.{Trace}
use Rattle.hub_core.specs.declared.lane_seat.LaneSeat.{LaneSeat}
use Rattle.hub_core.specs.declared.worker_seat.WorkerSeat.{WorkerSeat}
use Rattle.hub_core.specs.Lanes.{submitted}
use Rattle.hub_core.specs.Rule.{trace}
use Rattle.hub_core.specs.inner.Rule.{JoinsPops, JoinsPushes}
use Rattle.hub_core.specs.Workers.{posted, taken}
use Rattle.std.proofs.lemmas.List.{flat_map_more}

-- traces of the same parts are the same
pub trace_is : (a b : ℕ) (c d e f : List Plain) → a ≡ b → c ≡ d → e ≡ f → trace a c e ≡ trace b d f
trace_is a b c d e f x y z i = trace (x i) (y i) (z i)

-- the parts of a pass that was joined with one more: that of a lane, or of a worker
shares_joined : {X : Type 0} (b v p : Trace) (xs : List X) (x : X) → p.shares ≡ 1 → v.shares ≡ b.shares + length xs
    → v.shares + p.shares ≡ b.shares + length (xs ++ x ∷ [])
shares_joined b v p xs x share was = omega (arith, share, was, length-append xs (x ∷ []))

list_joined : {X : Type 0} (f : X → List Plain) (b v p : List Plain) (xs : List X) (x : X) → p ≡ f x → v ≡ b ++ flat_map f xs
    → v ++ p ≡ b ++ flat_map f (xs ++ x ∷ [])
list_joined f b v p xs x mine was = (λ i. was i ++ mine i) ∙ flat_map_more f b xs x

none_joined : (b v p : List Plain) → p ≡ [] → v ≡ b → v ++ p ≡ b
none_joined b v p none was = (λ i. was i ++ none i) ∙ append-nil b

-- one more pass of a seat that only pushes is joined, and one of a seat that only pops
pub pushes_more : {X : Type 0} (pushed : X → List Plain) (b v w p : Trace) (xs : List X) (x : X)
    → p.shares ≡ 1 → p.popped ≡ [] → p.pushed ≡ pushed x → JoinsPushes pushed xs b v
    → w ≡ trace (v.shares + p.shares) (v.pushed ++ p.pushed) (v.popped ++ p.popped) → JoinsPushes pushed (xs ++ x ∷ []) b w
pushes_more pushed b v w p xs x share none mine was is = is ∙ trace_is _ _ _ _ _ _
    (shares_joined b v p xs x share (ap (λ (h : Trace). h.shares) was))
    (list_joined pushed b.pushed v.pushed p.pushed xs x mine (ap (λ (h : Trace). h.pushed) was))
    (none_joined b.popped v.popped p.popped none (ap (λ (h : Trace). h.popped) was))

pub pops_more : {X : Type 0} (popped : X → List Plain) (b v w p : Trace) (xs : List X) (x : X)
    → p.shares ≡ 1 → p.pushed ≡ [] → p.popped ≡ popped x → JoinsPops popped xs b v
    → w ≡ trace (v.shares + p.shares) (v.pushed ++ p.pushed) (v.popped ++ p.popped) → JoinsPops popped (xs ++ x ∷ []) b w
pops_more popped b v w p xs x share none mine was is = is ∙ trace_is _ _ _ _ _ _
    (shares_joined b v p xs x share (ap (λ (h : Trace). h.shares) was))
    (none_joined b.pushed v.pushed p.pushed none (ap (λ (h : Trace). h.pushed) was))
    (list_joined popped b.popped v.popped p.popped xs x mine (ap (λ (h : Trace). h.popped) was))

-- what the queue of jobs held is what was submitted and not taken
pub jobs_whole : (b v w : Trace) (p q : ℕ) (ls : List LaneSeat) (ws : List WorkerSeat) (xs : List Plain) → b.pushed ≡ [] → b.popped ≡ []
    → v ≡ trace p (b.pushed ++ flat_map submitted ls) b.popped → w ≡ trace q v.pushed (v.popped ++ flat_map taken ws)
    → ((h : Plain → ℕ) → sum_by h w.pushed ≡ sum_by h w.popped + sum_by h xs) → OneForOne (flat_map submitted ls) (flat_map taken ws) xs
jobs_whole b v w p q ls ws xs none_pushed none_popped v_is w_is whole h =
    let pushed : w.pushed ≡ flat_map submitted ls = ap (λ (t : Trace). t.pushed) w_is
    ∙ (ap (λ (t : Trace). t.pushed) v_is ∙ ap (λ l. l ++ flat_map submitted ls) none_pushed) in
    let popped : w.popped ≡ flat_map taken ws = ap (λ (t : Trace). t.popped) w_is
    ∙ (ap (λ (t : Trace). t.popped ++ flat_map taken ws) v_is ∙ ap (λ l. l ++ flat_map taken ws) none_popped) in
    omega (arith, whole h, ap (sum_by h) pushed, ap (sum_by h) popped)

-- what the queue of results held is what was posted and not collected
pub results_whole : (b w : Trace) (q : ℕ) (ws : List WorkerSeat) (xs : List Plain) → b.pushed ≡ [] → w ≡ trace q (b.pushed ++ flat_map posted ws) b.popped
    → ((h : Plain → ℕ) → sum_by h w.pushed ≡ sum_by h w.popped + sum_by h xs) → OneForOne (flat_map posted ws) b.popped xs
results_whole b w q ws xs none w_is whole h =
    let pushed : w.pushed ≡ flat_map posted ws = ap (λ (t : Trace). t.pushed) w_is ∙ ap (λ l. l ++ flat_map posted ws) none in
    let popped : w.popped ≡ b.popped = ap (λ (t : Trace). t.popped) w_is in
    omega (arith, whole h, ap (sum_by h) pushed, ap (sum_by h) popped)
