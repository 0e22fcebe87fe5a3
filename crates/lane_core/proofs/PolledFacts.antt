-- Each issued ticket is in one place (the law `tickets_once`), and what a lane has polled is the first of what it has submitted: the laws
-- `polled_in_order`, `lists_grow` and `done_stays_done`.
use Rattle.std.proofs.Common.{◌≡◌, ℕ, ◌≤◌, nat_lt, zero, suc, List, ◌++◌, length, take, sym, ap, ◌∙◌, arith, drop, take-append-drop}
use Rattle.std.proofs.lemmas.Bool.Decides.{nat_tests}
use Rattle.std.proofs.lemmas.List.{length-take-le, take_all, take-append-le, take-take}
use Rattle.lane_core.specs.declared.job.Plain.{Plain}
use Rattle.lane_core.specs.History.{DoneStaysDone, ListsGrow, PolledInOrder}
use Rattle.lane_core.specs.Machine.{State, handed_of, issued_of, polled_of, run, submitted_by}
use Rattle.lane_core.specs.Weights.{once}
use Rattle.lane_core.specs.Whereabouts.{TicketsOnce}
use Rattle.lane_core.proofs.GoodFacts.{Good}
use Rattle.lane_core.proofs.HistoryFacts.{nothing_after_close, run_grows}
use Rattle.lane_core.proofs.StepFacts.{reached_good, reached_run}
use Rattle.lane_core.proofs.TruthFacts.{once_below, once_not_below, between_or_below}
use Rattle.lane_core.proofs.TicketFacts.{numbered-take}

pub tickets_once : TicketsOnce
tickets_once s r l k =
    let good = reached_good s r in
    omega (arith, good.one l k, between_or_below k (polled_of s l) (handed_of s l) (good.few l))

-- where each number below h is below i, h is no more than i
no_further : (h i : ℕ) → ((k : ℕ) → once (nat_lt k h) ≤ once (nat_lt k i)) → h ≤ i
no_further zero i each = omega arith
no_further (suc h) i each = let a = each h in let b = once_below h (suc h) (omega arith) in let c = once_not_below h i in grind (arith, nat_tests)

-- a lane was handed no more than it has issued, and has polled no more
pub handed_issued : (s : State) (l : ℕ) → Good s → handed_of s l ≤ issued_of s l
handed_issued s l good = no_further (handed_of s l) (issued_of s l) (λ k. omega (arith, good.one l k))

pub polled_issued : (s : State) (l : ℕ) → Good s → polled_of s l ≤ issued_of s l
polled_issued s l good = let a = good.few l in let b = handed_issued s l good in omega arith

pub polled_in_order : PolledInOrder
polled_in_order s l r =
    let good = reached_good s r in (
      good.in_order l,
      good.same_year l,
      numbered-take l 0 (polled_of s l) (submitted_by s l) (good.in_order l),
      length-take-le (polled_of s l) (submitted_by s l) (polled_issued s l good),
    )

-- the first p of a list begin the first q of a longer one
begins : (p q : ℕ) (xs ys : List Plain) → p ≤ q → p ≤ length xs → (more : List Plain) × (take q (xs ++ ys) ≡ take p xs ++ more)
begins p q xs ys a b =
    let front = take q (xs ++ ys) in
    (drop p front, sym (take-append-drop p front) ∙ ap (λ zs. zs ++ drop p front) (take-take p q (xs ++ ys) a ∙ take-append-le p xs ys b))

pub lists_grow : ListsGrow
lists_grow s es l r =
    let g = run_grows l s es in
    let first = begins (polled_of s l) (polled_of (run s es) l) (submitted_by s l) g.more g.polled (polled_issued s l (reached_good s r)) in (
      (g.more, g.submitted),
      (first.0, ap (take (polled_of (run s es) l)) g.submitted ∙ first.1),
    )

pub done_stays_done : DoneStaysDone
done_stays_done s es l r closed all =
    let g = run_grows l s es in
    let held = nothing_after_close s es l closed in
    let most = polled_issued (run s es) l (reached_good (run s es) (reached_run s es r)) in
    let least = g.polled in
    let count = ap (λ (xs : List Plain). length xs) held.0 in
    let now = take_all (polled_of s l) (submitted_by s l) (omega arith) in
    let then : take (polled_of (run s es) l) (submitted_by s l) ≡ submitted_by s l = take_all (polled_of (run s es) l) (submitted_by s l) (omega arith) in
    (now, ap (take (polled_of (run s es) l)) held.0 ∙ (then ∙ sym now))
