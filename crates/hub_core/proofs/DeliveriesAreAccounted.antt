-- What a deliverer's seat has, as one more delivery is collected or handed: for `collect_by_lane` and `hand`.
use Rattle.std.proofs.Common.{◌≡◌, ◌≢◌, ℕ, ◌+◌, ◌<◌, ◌&&◌, ◌||◌, not, nat_lt, cond, Bool, true, false, List, [], ◌∷◌, ◌++◌, get_or, length, refl, sym, ap, ◌∙◌, subst, arith, Option, Some, None, option_to_list}
use Rattle.std.specs.List.{list_all, sum_by}
use Rattle.std.proofs.lemmas.List.Sums.{fold_push, sum_by-append, sum_by-set}
use Rattle.std.proofs.lemmas.List.Folds.{list_any-append}
use Rattle.lane_core.specs.declared.job.Plain.{Plain}
use Rattle.lane_core.specs.ReorderBuffer.{ReorderBuffer, GivesNext, TakesIn, is_new, lanes_of, next_of, was_taken}
use Rattle.lane_core.specs.Settling.{sift, sifted}
use Rattle.lane_core.specs.Tickets.{is_among, is_ticket_of}
use Rattle.lane_core.specs.Weights.{once}
use Rattle.hub_core.specs.inner.Accounting.{Accounted, GivenInOrder}
use Rattle.hub_core.specs.inner.Sums.{sum_all}
use Rattle.hub_core.specs.declared.rule.Trace.{Trace}
use Rattle.hub_core.specs.Rule.{trace}
use Rattle.hub_core.specs.Traffics.{with_more}
use Rattle.std.proofs.lemmas.Bool.{and_from, and_parts}
use Rattle.std.proofs.lemmas.List.{get_or-set_other, get_or-set_same, length-set}
use Rattle.hub_core.proofs.GivesInOrder.{gives_in_order}
use Rattle.std.proofs.Math.Bool.{and-true, or-false}
use Rattle.hub_core.proofs.TestsAndCounts.{once_or, not_taken}
use Rattle.lane_core.proofs.TicketFacts.{ticket_parts}

-- x was collected, and is not taken in yet
pub record Pending (d : ReorderBuffer) (c : List Plain) (x : Plain) (given : List (List Plain)) : Type 0 where
  pub giving : GivenInOrder d given
  pub none_lost : (h : Plain → ℕ) → sum_by h (sifted (lanes_of d) c) ≡ (sum_by h d.waiting + cond (is_new d x) (h x) 0) + sum_all h given
  pub known : (l k : ℕ) → (was_taken d l k || (is_new d x && is_ticket_of l k x)) ≡ is_among l k (sifted (lanes_of d) c)

-- the test that sifts is the deliverer's own
same_test : (d : ReorderBuffer) (c : List Plain) (x : Plain) → ((l k : ℕ) → (was_taken d l k || false) ≡ is_among l k (sifted (lanes_of d) c))
    → (nat_lt x.lane (lanes_of d) && not (is_among x.lane x.number (sifted (lanes_of d) c))) ≡ is_new d x
same_test d c x known = ap (λ b. nat_lt x.lane (lanes_of d) && not b) (sym (known x.lane x.number) ∙ or-false (was_taken d x.lane x.number))

-- what is not set aside of one more: it too, if it is new
sifted_more : (d : ReorderBuffer) (c : List Plain) (x : Plain) → ((l k : ℕ) → (was_taken d l k || false) ≡ is_among l k (sifted (lanes_of d) c))
    → sifted (lanes_of d) (c ++ x ∷ []) ≡ cond (is_new d x) (sifted (lanes_of d) c ++ x ∷ []) (sifted (lanes_of d) c)
sifted_more d c x known = fold_push (sift (lanes_of d)) [] c x
    ∙ ap (λ b. cond b (sifted (lanes_of d) c ++ x ∷ []) (sifted (lanes_of d) c)) (same_test d c x known)

-- the sum of a list that has x more if b is so, and what is among its items
sum_cond : (b : Bool) (h : Plain → ℕ) (xs : List Plain) (x : Plain) → sum_by h (cond b (xs ++ x ∷ []) xs) ≡ sum_by h xs + cond b (h x) 0
sum_cond true h xs x = omega (arith, sum_by-append h xs (x ∷ []))
sum_cond false h xs x = omega arith

pub among_cond : (b : Bool) (l k : ℕ) (xs : List Plain) (x : Plain) → is_among l k (cond b (xs ++ x ∷ []) xs) ≡ (is_among l k xs || (b && is_ticket_of l k x))
among_cond true l k xs x = list_any-append (λ (p : Plain). is_ticket_of l k p) xs (x ∷ []) ∙ ap (λ b. is_among l k xs || b) (or-false (is_ticket_of l k x))
among_cond false l k xs x = sym (or-false (is_among l k xs))

-- x came out of the queue of results
pending_popped : (d : ReorderBuffer) (c c' : List Plain) (x : Plain) (given : List (List Plain)) → Accounted d c [] given → c' ≡ c ++ x ∷ [] → Pending d c' x given
pending_popped d c c' x given was is =
    let more : sifted (lanes_of d) c' ≡ cond (is_new d x) (sifted (lanes_of d) c ++ x ∷ []) (sifted (lanes_of d) c) =
    ap (sifted (lanes_of d)) is ∙ sifted_more d c x was.known in
    record {
      giving = was.giving;
      none_lost = λ h. ap (sum_by h) more ∙ (sum_cond (is_new d x) h (sifted (lanes_of d) c) x ∙ omega (arith, was.none_lost h));
      known = λ l k. ap (λ b. b || (is_new d x && is_ticket_of l k x)) (sym (or-false (was_taken d l k)) ∙ was.known l k)
          ∙ sym (ap (is_among l k) more ∙ among_cond (is_new d x) l k (sifted (lanes_of d) c) x);
    }

-- x was in the hand before
pending_again : (d : ReorderBuffer) (c : List Plain) (x : Plain) (given : List (List Plain)) → Accounted d c (x ∷ []) given → Pending d c x given
pending_again d c x given was =
    let new : is_new d x ≡ true = sym (and-true (is_new d x)) ∙ was.fresh in
    record {
      giving = was.giving;
      none_lost = λ h. let e = ap (λ b. cond b (h x) 0) new in omega (arith, was.none_lost h, e);
      known = λ l k. ap (λ b. was_taken d l k || (b && is_ticket_of l k x)) new
          ∙ (ap (λ b. was_taken d l k || b) (sym (or-false (is_ticket_of l k x))) ∙ was.known l k);
    }

-- what is new was not taken in
pub at_ticket : (d : ReorderBuffer) (l k : ℕ) (x : Plain) → is_new d x ≡ true → is_ticket_of l k x ≡ true → was_taken d l k ≡ false
at_ticket d l k x new is = let p = ticket_parts l k x is in subst (λ (m : ℕ × ℕ). was_taken d m.0 m.1 ≡ false) (λ i. (p.0 i, p.1 i))
    (not_taken (nat_lt x.lane (lanes_of d)) (was_taken d x.lane x.number) new)

-- what the lanes were given stays in order as x is taken in
takes_in_order : (d e : ReorderBuffer) (x : Plain) (given : List (List Plain)) → TakesIn d x e → GivenInOrder d given → GivenInOrder e given
takes_in_order d e x given t giving = record {
  lanes = giving.lanes ∙ sym (ap length t.nexts);
  in_order = giving.in_order;
  counted = λ l. giving.counted l ∙ sym (ap (λ ns. get_or ns l 0) t.nexts);
  taken = λ l k.
      let a = ap once (t.known l k) ∙ once_or (was_taken d l k) (is_ticket_of l k x) (λ h. at_ticket d l k x t.new h) in
      let b = t.waiting (λ y. once (is_ticket_of l k y)) in
      let c = ap (λ (ns : List ℕ). once (nat_lt k (get_or ns l 0))) t.nexts in
      let s = giving.taken l k in
      omega arith;
}

-- the three ways on: x is taken in, it is set aside, or it stays in the hand
pub accounted_taken : (d e : ReorderBuffer) (c : List Plain) (x : Plain) (given : List (List Plain)) → Pending d c x given → TakesIn d x e → Accounted e c [] given
accounted_taken d e c x given was t =
    let same : sifted (lanes_of e) c ≡ sifted (lanes_of d) c = ap (λ (ns : List ℕ). sifted (length ns) c) t.nexts in
    record {
      giving = takes_in_order d e x given t was.giving;
      none_lost = λ h. ap (sum_by h) same ∙ (let n = ap (λ b. cond b (h x) 0) t.new in omega (arith, was.none_lost h, n, t.waiting h));
      known = λ l k. or-false (was_taken e l k) ∙ (t.known l k
          ∙ (ap (λ b. was_taken d l k || (b && is_ticket_of l k x)) (sym t.new) ∙ (was.known l k ∙ ap (is_among l k) (sym same))));
      fresh = refl;
    }

pub accounted_aside : (d e : ReorderBuffer) (c : List Plain) (x : Plain) (given : List (List Plain)) → Pending d c x given → is_new d x ≡ false → e ≡ d
    → Accounted e c [] given
accounted_aside d e c x given was not_new is =
    subst (λ (e : ReorderBuffer). Accounted e c [] given) (sym is) record {
      giving = was.giving;
      none_lost = λ h. let n = ap (λ b. cond b (h x) 0) not_new in omega (arith, was.none_lost h, n);
      known = λ l k. ap (λ b. was_taken d l k || (b && is_ticket_of l k x)) (sym not_new) ∙ was.known l k;
      fresh = refl;
    }

pub accounted_held : (d e : ReorderBuffer) (c : List Plain) (x y : Plain) (given : List (List Plain)) → Pending d c x given → is_new d x ≡ true → y ≡ x → e ≡ d
    → Accounted e c (y ∷ []) given
accounted_held d e c x y given was new same is =
    subst (λ (p : ReorderBuffer × Plain). Accounted p.0 c (p.1 ∷ []) given) (λ i. (sym is i, sym same i)) record {
      giving = was.giving;
      none_lost = λ h. let n = ap (λ b. cond b (h x) 0) new in omega (arith, was.none_lost h, n);
      known = λ l k. ap (λ b. was_taken d l k || b) (or-false (is_ticket_of l k x))
          ∙ (ap (λ b. was_taken d l k || (b && is_ticket_of l k x)) (sym new) ∙ was.known l k);
      fresh = and-true (is_new d x) ∙ new;
    }

-- the pass of the deliverer's seat while it has a delivery that is not taken in yet
pub record Stands (v : Trace) (d : ReorderBuffer) (x : Plain) (given : List (List Plain)) : Type 0 where
  pub pops_only : v.pushed ≡ []
  pub share : 0 < v.shares
  pub pending : Pending d v.popped x given

-- x was in the hand before, or came out of the queue
pub stands_again : (v w : Trace) (d : ReorderBuffer) (held : Option Plain) (x y : Plain) (given : List (List Plain)) → v.pushed ≡ [] → 0 < v.shares
    → Accounted d v.popped (option_to_list held) given
    → held ≡ Some x → w ≡ v → y ≡ x → Stands w d y given
stands_again v w d held x y given none share was is same what =
    subst (λ (p : Trace × Plain). Stands p.0 d p.1 given) (λ i. (sym same i, sym what i)) record {
      pops_only = none;
      share = share;
      pending = pending_again d v.popped x given (subst (λ (o : Option Plain). Accounted d v.popped (option_to_list o) given) is was);
    }

pub stands_popped : (v w : Trace) (d : ReorderBuffer) (held : Option Plain) (x y : Plain) (given : List (List Plain)) → v.pushed ≡ [] → 0 < v.shares
    → Accounted d v.popped (option_to_list held) given
    → held ≡ None → w ≡ trace v.shares v.pushed (v.popped ++ x ∷ []) → y ≡ x → Stands w d y given
stands_popped v w d held x y given none share was is same what =
    subst (λ (p : Trace × Plain). Stands p.0 d p.1 given) (λ i. (sym same i, sym what i)) record {
      pops_only = none;
      share = share;
      pending = pending_popped d v.popped (v.popped ++ x ∷ []) x given (subst (λ (o : Option Plain). Accounted d v.popped (option_to_list o) given) is was) refl;
    }

-- the account with the hand as it is known to be
pub accounted_at : (d : ReorderBuffer) (c : List Plain) (o p : Option Plain) (given : List (List Plain)) → o ≡ p → Accounted d c (option_to_list p) given
    → Accounted d c (option_to_list o) given
accounted_at d c o p given is was = subst (λ (q : Option Plain). Accounted d c (option_to_list q) given) (sym is) was

-- what is new stays new where nothing more was taken in
fresh_same : (d e : ReorderBuffer) (ys : List Plain) → lanes_of e ≡ lanes_of d → ((l k : ℕ) → was_taken e l k ≡ was_taken d l k) → list_all (is_new d) ys ≡ true
    → list_all (is_new e) ys ≡ true
fresh_same d e [] long same all = refl
fresh_same d e (y ∷ ys) long same all =
    let s = and_parts (is_new d y) (list_all (is_new d) ys) all in
    let here : is_new e y ≡ is_new d y = (λ i. nat_lt y.lane (long i) && not (same y.lane y.number i)) in
    and_from (is_new e y) (list_all (is_new e) ys) (here ∙ s.0) (fresh_same d e ys long same s.1)

-- a lane was given its next number
pub handed_one : (d e : ReorderBuffer) (l : ℕ) (x : Plain) (c hand : List Plain) (gs gs' : List (List Plain)) → l < lanes_of d → GivesNext d l x e → gs' ≡ with_more l x gs
    → Accounted d c hand gs → Accounted e c hand gs'
handed_one d e l x c hand gs gs' low g is was =
    let new = get_or gs l [] ++ x ∷ [] in
    let long : lanes_of e ≡ lanes_of d = ap length g.nexts ∙ length-set d.nexts l (next_of d l + 1) in
    subst (λ (zs : List (List Plain)). Accounted e c hand zs) (sym is) record {
      giving = gives_in_order d e l x gs low g was.giving;
      none_lost = λ h.
          let there : l < length gs = omega (arith, was.giving.lanes) in
          let a = sum_by-set (λ (xs : List Plain). sum_by h xs) gs l new [] there in
          let b = sum_by-append h (get_or gs l []) (x ∷ []) in
          let w = g.leaves.waiting h in
          let s = ap (λ n. sum_by h (sifted n c)) long in
          omega (arith, was.none_lost h);
      known = λ m k. ap (λ b. b || is_among m k hand) (g.leaves.known m k) ∙ (was.known m k ∙ ap (λ n. is_among m k (sifted n c)) (sym long));
      fresh = fresh_same d e hand long g.leaves.known was.fresh;
    }

-- so that lane has one more, and each other lane what it had
pub given_now : (gs gs' : List (List Plain)) (l : ℕ) (x : Plain) → l < length gs → gs' ≡ with_more l x gs → get_or gs' l [] ≡ get_or gs l []
    ++ x ∷ []
given_now gs gs' l x low is = ap (λ zs. get_or zs l []) is ∙ get_or-set_same gs l (get_or gs l [] ++ x ∷ []) [] low

pub given_else : (gs gs' : List (List Plain)) (l m : ℕ) (x : Plain) → m ≢ l → gs' ≡ with_more l x gs → get_or gs' m [] ≡ get_or gs m []
given_else gs gs' l m x apart is = ap (λ zs. get_or zs m []) is ∙ get_or-set_other gs l m (get_or gs l [] ++ x ∷ []) [] apart
