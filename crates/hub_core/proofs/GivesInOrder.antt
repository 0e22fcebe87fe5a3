-- The deliverer has given each lane its numbers in order (`GivenInOrder`): at first, and as it gives a lane its next.
use Rattle.std.proofs.Common.{◌≡◌, ◌≢◌, ◌+◌, ◌<◌, ◌∷◌, ◌∙◌, ◌++◌, [], List, ℕ, ap, arith, get_or, inl, inr, length, ltb, replicate, set, subst, sym, true}
use Rattle.std.proofs.lemmas.Bool.{cases_eq}
use Rattle.std.proofs.lemmas.List.{get_or-set_other, get_or-set_same, length-append, length-replicate, length-set}
use Rattle.std.specs.List.{count_by}
use Rattle.lane_core.specs.ReorderBuffer.{ReorderBuffer, GivesNext, is_known, lanes_of, new_buffer, next_of, was_taken}
use Rattle.lane_core.specs.declared.job.Plain.{Plain}
use Rattle.lane_core.specs.Tickets.{is_ticket_of, numbered}
use Rattle.lane_core.specs.Weights.{once}
use Rattle.hub_core.specs.Traffics.{with_more}
use Rattle.hub_core.specs.inner.Accounting.{GivenInOrder}
use Rattle.hub_core.proofs.ListsOfLists.{empties_at}
use Rattle.lane_core.proofs.ListFacts.{get_or_zeros}
use Rattle.lane_core.proofs.TicketFacts.{numbered_more, own_ticket, other_ticket}
use Rattle.lane_core.proofs.TruthFacts.{or_false, once_below_next}

-- the next number of a lane that was given one, and of the others
next_own : (d e : ReorderBuffer) (l : ℕ) (x : Plain) → l < lanes_of d → GivesNext d l x e → next_of e l ≡ next_of d l + 1
next_own d e l x low g = ap (λ ns. get_or ns l 0) g.nexts ∙ get_or-set_same d.nexts l (next_of d l + 1) 0 low

next_other : (d e : ReorderBuffer) (l m : ℕ) (x : Plain) → m ≢ l → GivesNext d l x e → next_of e m ≡ next_of d m
next_other d e l m x apart g = ap (λ ns. get_or ns m 0) g.nexts ∙ get_or-set_other d.nexts l m (next_of d l + 1) 0 apart

-- a lane is given its next number
pub gives_in_order : (d e : ReorderBuffer) (l : ℕ) (x : Plain) (gs : List (List Plain)) → l < lanes_of d → GivesNext d l x e → GivenInOrder d gs
    → GivenInOrder e (with_more l x gs)
gives_in_order d e l x gs low g giving =
    let old = get_or gs l [] in
    let new = old ++ x ∷ [] in
    let there : l < length gs = omega (arith, giving.lanes) in
    let own = get_or-set_same gs l new [] there in
    let long : lanes_of e ≡ lanes_of d = ap length g.nexts ∙ length-set d.nexts l (next_of d l + 1) in
    record {
      lanes = omega (arith, length-set gs l new, giving.lanes, long);
      in_order = λ m. elim (cases_eq m l) [
        | inl is ↦ subst (λ j. numbered j 0 (get_or (set gs l new) j []) ≡ true) (sym is)
            (ap (numbered l 0) own ∙ numbered_more l 0 old x (giving.in_order l) g.lane (omega (arith, g.number, giving.counted l)))
        | inr apart ↦ ap (numbered m 0) (get_or-set_other gs l m new [] apart) ∙ giving.in_order m
      ];
      counted = λ m. elim (cases_eq m l) [
        | inl is ↦ subst (λ j. length (get_or (set gs l new) j []) ≡ next_of e j) (sym is)
            (omega (arith, ap length own, length-append old (x ∷ []), giving.counted l, next_own d e l x low g))
        | inr apart ↦ ap length (get_or-set_other gs l m new [] apart) ∙ (giving.counted m ∙ sym (next_other d e l m x apart g))
      ];
      taken = λ m k. elim (cases_eq m l) [
        | inl is ↦ subst (λ j. once (was_taken e j k) ≡ once (ltb k (next_of e j)) + count_by (is_ticket_of j k) e.waiting) (sym is)
            (let known = ap once (g.leaves.known l k) in
            let before = giving.taken l k in
            let gone = g.leaves.waiting (λ y. once (is_ticket_of l k y)) in
            let mine = own_ticket l (next_of d l) k x g.lane g.number in
            let more = once_below_next k (next_of d l) in
            let next = ap (λ n. once (ltb k n)) (next_own d e l x low g) in
            omega arith)
        | inr apart ↦
            let known = ap once (g.leaves.known m k) in
            let before = giving.taken m k in
            let gone = g.leaves.waiting (λ y. once (is_ticket_of m k y)) in
            let other = other_ticket l m k x g.lane apart in
            let next = ap (λ n. once (ltb k n)) (next_other d e l m x apart g) in
            omega arith
      ];
    }

-- a deliverer that took nothing in, and lanes that were given nothing
pub fresh_in_order : (n : ℕ) (d : ReorderBuffer) → d ≡ new_buffer n → GivenInOrder d (replicate n [])
fresh_in_order n d is =
    let nexts = ap (λ (t : ReorderBuffer). t.nexts) is in
    let next : (l : ℕ) → next_of d l ≡ 0 = λ l. ap (λ ns. get_or ns l 0) nexts ∙ get_or_zeros n l in
    record {
      lanes = length-replicate n [] ∙ (sym (length-replicate n 0) ∙ sym (ap length nexts));
      in_order = λ l. ap (numbered l 0) (empties_at n l);
      counted = λ l. ap length (empties_at n l) ∙ sym (next l);
      taken = λ l k.
          let waiting = ap (λ (t : ReorderBuffer). t.waiting) is in
          let known = ap (λ (t : ReorderBuffer). is_known l k t.known) is in
          let was : was_taken d l k ≡ ltb k (next_of d l) = or_false (ltb k (next_of d l)) (is_known l k d.known) known in
          let taken = ap once was in
          let t = ap (count_by (is_ticket_of l k)) waiting in
          omega arith;
    }
