-- How a deliverer's buffer changes with what the deliverer keeps: for each call of `Deliverer`.
-- `nexts`, `hs`, `es` and `ks` are a deliverer's fields: next numbers, slots, entries of later numbers, known tickets. `fs` and `ts` are `es` and `ks`
-- after the call, and `a` is a slot's new content. The clause `known` of a call looks at lane l, whose slot changed, and at the others apart.
use Rattle.std.proofs.Common.{◌≡◌, ◌≢◌, ℕ, ◌+◌, ◌<◌, ◌^◌, ◌==◌, ◌&&◌, ◌||◌, not, nat_lt, Bool, true, false, List, [], ◌∷◌, ◌++◌, length, replicate, set, get_or, zero, suc, ⊎_elim, refl, sym, ap, ◌∙◌, subst, arith}
use Rattle.std.specs.Map.{values_of}
use Rattle.std.proofs.lemmas.Grind.{get_or-set_at}
use Rattle.std.proofs.lemmas.List.{get_or-set_other, length-set}
use Rattle.std.proofs.lemmas.List.Folds.{list_any-append}
use Rattle.std.specs.List.{sum_by}
use Rattle.std.proofs.lemmas.List.Sums.{sum_by-append, sum_by-cons}
use Rattle.std.proofs.lemmas.Bool.{and_parts, cases_eq, eqb-true, false_from_ne_true, lt-ltb, ne_eqb, or_cases, or_left, or_right, eq-eqb}
use Rattle.std.proofs.Math.Bool.{and-false, and-true, or_assoc, or-false}
use Rattle.lane_core.specs.declared.next_slot.NextSlot.{NextSlot}
use Rattle.lane_core.specs.declared.next_slot.NextSlot.TheVariants.{Missing, Here, Out}
use Rattle.lane_core.specs.declared.job.Plain.{Plain}
use Rattle.lane_core.specs.declared.ticket.Ticket.{Ticket}
use Rattle.lane_core.specs.ReorderBuffer.{GivesAny, GivesNext, TakesIn, buffer, is_known, new_buffer, was_taken}
use Rattle.lane_core.specs.inner.NextSlots.{Advances, AreIndexed, AreKept, IsSlotOf, are_tied, has_come, slot_at}
use Rattle.lane_core.specs.NextSlots.{come_tickets, buffer_by_slots, waiting_at, waiting_of}
use Rattle.lane_core.specs.Tickets.{is_among, is_ticket_of}
use Rattle.lane_core.proofs.TicketLookup.{MoreBy}
use Rattle.lane_core.proofs.SlotFacts.{own_parts, set_sum}
use Rattle.lane_core.proofs.TruthFacts.{or_three_parts, below_next, or_of_three_with, or_false}

-- whether lane l's number k was taken in: it is below the lane's next number, or is that and has come, or is a later one that is known
abbrev took_in : List ℕ → List NextSlot → List Ticket → ℕ → ℕ → Bool
took_in nexts hs ks l k = nat_lt k (get_or nexts l 0) || ((get_or nexts l 0 == k) && has_come (slot_at hs l)) || is_known l k ks

-- of the tickets that have come from lane b on, none is of an earlier lane
none_below : (b : ℕ) (ns : List ℕ) (hs : List NextSlot) (m k : ℕ) → m < b → is_known m k (come_tickets b ns hs) ≡ false
none_below b [] hs m k less = refl
none_below b (n ∷ ns) [] m k less = refl
none_below b (n ∷ ns) (Missing ∷ hs) m k less = none_below (suc b) ns hs m k (omega arith)
none_below b (n ∷ ns) (Here x ∷ hs) m k less = (λ i. (ne_eqb b m (λ e. absurd (omega arith)) i && (n == k)) || none_below (suc b) ns hs m k (omega arith) i)
none_below b (n ∷ ns) (Out ∷ hs) m k less = (λ i. (ne_eqb b m (λ e. absurd (omega arith)) i && (n == k)) || none_below (suc b) ns hs m k (omega arith) i)

-- the ticket is of the first lane, b, and no later one has it: only c is left to say whether it has come
this_lane : (b m : ℕ) (c rest : Bool) → m ≡ b → rest ≡ false → (((b == m) && c) || rest) ≡ (c && true)
this_lane b m c rest at none = (λ i. ((same i && c) || none i)) ∙ last_false c
  where
    same : (b == m) ≡ true
    same = ap (λ j. b == j) at ∙ eq-eqb b b refl

    last_false : (d : Bool) → ((true && d) || false) ≡ (d && true)
    last_false d = or-false d ∙ sym (and-true d)

-- lane m's number k has come if it is the lane's next and the lane's slot says so; the lists begin with lane b
come_at : (b j m k : ℕ) (ns : List ℕ) (hs : List NextSlot) → length hs ≡ length ns → m ≡ b + j
    → is_known m k (come_tickets b ns hs) ≡ ((get_or ns j 0 == k) && has_come (slot_at hs j))
come_at b j m k [] [] long at = sym (and-false (0 == k))
come_at b j m k [] (h ∷ hs) long at = absurd (omega arith)
come_at b j m k (n ∷ ns) [] long at = absurd (omega arith)
come_at b zero m k (n ∷ ns) (Missing ∷ hs) long at = none_below (suc b) ns hs m k (omega arith) ∙ sym (and-false (n == k))
come_at b zero m k (n ∷ ns) (Here x ∷ hs) long at = this_lane b m (n == k) (is_known m k (come_tickets (suc b) ns hs)) (omega arith)
    (none_below (suc b) ns hs m k (omega arith))
come_at b zero m k (n ∷ ns) (Out ∷ hs) long at = this_lane b m (n == k) (is_known m k (come_tickets (suc b) ns hs)) (omega arith)
    (none_below (suc b) ns hs m k (omega arith))
come_at b (suc j) m k (n ∷ ns) (Missing ∷ hs) long at = come_at (suc b) j m k ns hs (omega arith) (omega arith)
come_at b (suc j) m k (n ∷ ns) (Here x ∷ hs) long at =
    ap (λ c. (c && (n == k)) || is_known m k (come_tickets (suc b) ns hs)) (ne_eqb b m (λ e. absurd (omega arith)))
    ∙ come_at (suc b) j m k ns hs (omega arith) (omega arith)
come_at b (suc j) m k (n ∷ ns) (Out ∷ hs) long at =
    ap (λ c. (c && (n == k)) || is_known m k (come_tickets (suc b) ns hs)) (ne_eqb b m (λ e. absurd (omega arith)))
    ∙ come_at (suc b) j m k ns hs (omega arith) (omega arith)

-- what the buffer says of a ticket is what the parts of a deliverer say
pub was_is : (nexts : List ℕ) (hs : List NextSlot) (es : List (Ticket × Plain)) (ks : List Ticket) → length hs ≡ length nexts → (l k : ℕ)
    → was_taken (buffer_by_slots nexts hs es ks) l k ≡ took_in nexts hs ks l k
was_is nexts hs es ks long l k =
    let more : is_known l k (come_tickets 0 nexts hs ++ ks) ≡ (is_known l k (come_tickets 0 nexts hs) || is_known l k ks) =
    list_any-append (λ (t : Ticket). (t.lane == l) && (t.number == k)) (come_tickets 0 nexts hs) ks in
    ap (λ b. nat_lt k (get_or nexts l 0) || b) (more ∙ ap (λ b. b || is_known l k ks) (come_at 0 l l k nexts hs long (omega arith)))
    ∙ sym (or_assoc (nat_lt k (get_or nexts l 0)) ((get_or nexts l 0 == k) && has_come (slot_at hs l)) (is_known l k ks))

-- what waits in slots and what waits as later numbers
sum_both : (h : Plain → ℕ) (hs : List NextSlot) (es : List (Ticket × Plain)) → sum_by h (waiting_at hs ++ values_of es)
    ≡ sum_by h (waiting_at hs) + sum_by h (values_of es)
sum_both h hs es = sum_by-append h (waiting_at hs) (values_of es)

-- std's `get_or-set_at` and `get_or-set_other`, of slots
slot_set : (hs : List NextSlot) (l : ℕ) (a : NextSlot) → l < length hs → slot_at (set hs l a) l ≡ a
slot_set hs l a low = get_or-set_at hs l l a Missing refl low

slot_other : (hs : List NextSlot) (l m : ℕ) (a : NextSlot) → m ≢ l → slot_at (set hs l a) m ≡ slot_at hs m
slot_other hs l m a other = get_or-set_other hs l m a Missing other

-- lane l's slot has something else of the same number: `AreKept` still holds
pub kept_set : (nexts : List ℕ) (hs : List NextSlot) (es : List (Ticket × Plain)) (ks : List Ticket) (l : ℕ) (a : NextSlot)
    → AreKept nexts hs es ks → l < length nexts → IsSlotOf l (get_or nexts l 0) a → AreKept nexts (set hs l a) es ks
kept_set nexts hs es ks l a kept low own = record {
  lanes = length-set hs l a ∙ kept.lanes;
  own = λ m less. ⊎_elim
      (λ (e : m ≡ l). subst (λ j. IsSlotOf j (get_or nexts j 0) (slot_at (set hs l a) j)) (sym e)
      (subst (IsSlotOf l (get_or nexts l 0)) (sym (slot_set hs l a (let n = kept.lanes in omega arith))) own))
      (λ (other : m ≢ l). subst (IsSlotOf m (get_or nexts m 0)) (sym (slot_other hs l m a other)) (kept.own m less))
      (cases_eq m l);
  indexed = kept.indexed;
  apart = kept.apart;
}

-- a number that has not come does not wait
none_come : (a : NextSlot) → has_come a ≡ false → (h : Plain → ℕ) → sum_by h (waiting_of a) ≡ 0
none_come Missing e h = refl
none_come (Here x) e h = absurd (cc)
none_come Out e h = absurd (cc)

-- lane l's next number was not taken in, so there is none of it
not_come : (nexts : List ℕ) (hs : List NextSlot) (ks : List Ticket) (l : ℕ) → took_in nexts hs ks l (get_or nexts l 0) ≡ false → has_come (slot_at hs l) ≡ false
not_come nexts hs ks l fresh =
    let n = get_or nexts l 0 in
    let p = (or_three_parts (nat_lt n n) ((n == n) && has_come (slot_at hs l)) (is_known l n ks) fresh).1 in
    sym (ap (λ b. b && has_come (slot_at hs l)) (eq-eqb n n refl)) ∙ p

-- a delivery came that is its lane's next number
pub took_next : (nexts : List ℕ) (hs : List NextSlot) (es : List (Ticket × Plain)) (ks : List Ticket) (l : ℕ) (x : Plain)
    → AreKept nexts hs es ks → l < length nexts → x.lane ≡ l → x.number ≡ get_or nexts l 0 → was_taken (buffer_by_slots nexts hs es ks) x.lane x.number ≡ false
    → TakesIn (buffer_by_slots nexts hs es ks) x (buffer_by_slots nexts (set hs l (Here x)) es ks)
took_next nexts hs es ks l x kept low lane number fresh =
    let n = get_or nexts l 0 in
    let there : l < length hs = let c = kept.lanes in omega arith in
    let none = not_come nexts hs ks l (sym (was_is nexts hs es ks kept.lanes l n)
    ∙ (sym (λ i. was_taken (buffer_by_slots nexts hs es ks) (lane i) (number i)) ∙ fresh)) in
    let long : length (set hs l (Here x)) ≡ length nexts = length-set hs l (Here x) ∙ kept.lanes in
    record {
      new = (λ i. lt-ltb x.lane (length nexts) (let c = lane in omega arith) i && not (fresh i));
      nexts = refl;
      waiting = λ h.
          let new = sum_both h (set hs l (Here x)) es in
          let old = sum_both h hs es in
          let put = set_sum h hs l (Here x) there in
          let was = none_come (slot_at hs l) none h in
          omega arith;
      known = λ m k. was_is nexts (set hs l (Here x)) es ks long m k ∙ (⊎_elim
          (λ (e : m ≡ l).
          let same : is_ticket_of m k x ≡ (get_or nexts m 0 == k) =
          (λ i. (lane i == m) && (number i == k)) ∙ (ap (λ j. (l == j) && (n == k)) e
          ∙ (ap (λ b. b && (n == k)) (eq-eqb l l refl) ∙ ap (λ j. get_or nexts j 0 == k) (sym e))) in
          ap (λ b. nat_lt k (get_or nexts m 0) || ((get_or nexts m 0 == k) && b) || is_known m k ks)
          (ap (λ j. has_come (slot_at (set hs l (Here x)) j)) e ∙ ap has_come (slot_set hs l (Here x) there))
          ∙ or_of_three_with (nat_lt k (get_or nexts m 0)) (get_or nexts m 0 == k) (is_known m k ks) (is_ticket_of m k x) (has_come (slot_at hs m))
          (ap (λ j. has_come (slot_at hs j)) e ∙ none) same)
          (λ (other : m ≢ l).
          ap (λ (a : NextSlot). nat_lt k (get_or nexts m 0) || ((get_or nexts m 0 == k) && has_come a) || is_known m k ks) (slot_other hs l m (Here x) other)
          ∙ sym (or_false (took_in nexts hs ks m k) (is_ticket_of m k x) (ap (λ b. b && (x.number == k)) (ne_eqb x.lane m (λ e. other (sym e ∙ lane))))))
          (cases_eq m l)
          ∙ ap (λ b. b || is_ticket_of m k x) (sym (was_is nexts hs es ks kept.lanes m k)));
    }

-- a delivery came that is a later number
pub took_later : (nexts : List ℕ) (hs : List NextSlot) (es fs : List (Ticket × Plain)) (ks ts : List Ticket) (x : Plain)
    → length hs ≡ length nexts → x.lane < length nexts → was_taken (buffer_by_slots nexts hs es ks) x.lane x.number ≡ false → MoreBy es x fs
    → ((l k : ℕ) → is_known l k ts ≡ (is_known l k ks || is_ticket_of l k x))
    → TakesIn (buffer_by_slots nexts hs es ks) x (buffer_by_slots nexts hs fs ts)
took_later nexts hs es fs ks ts x long low fresh more known = record {
  new = (λ i. lt-ltb x.lane (length nexts) low i && not (fresh i));
  nexts = refl;
  waiting = λ h.
      let new = sum_both h hs fs in
      let old = sum_both h hs es in
      let put = more.weight h in
      omega arith;
  known = λ l k.
      let given = nat_lt k (get_or nexts l 0) in
      let next = (get_or nexts l 0 == k) && has_come (slot_at hs l) in
      was_is nexts hs fs ts long l k
      ∙ (ap (λ b. given || next || b) (known l k)
      ∙ (sym (or_assoc (given || next) (is_known l k ks) (is_ticket_of l k x))
      ∙ ap (λ b. b || is_ticket_of l k x) (sym (was_is nexts hs es ks long l k))));
}

-- a later number was taken in: `AreKept` still holds
pub kept_later : (nexts : List ℕ) (hs : List NextSlot) (es fs : List (Ticket × Plain)) (ks ts : List Ticket) (x : Plain)
    → AreKept nexts hs es ks → x.number ≢ get_or nexts x.lane 0 → MoreBy es x fs → are_tied fs ≡ true
    → ((l k : ℕ) → is_known l k ts ≡ (is_known l k ks || is_ticket_of l k x))
    → AreKept nexts hs fs ts
kept_later nexts hs es fs ks ts x kept later more tied known = record {
  lanes = kept.lanes;
  own = kept.own;
  indexed = record {
    tied = tied;
    among = λ l k is. known l k ∙ ⊎_elim
        (λ (e : is_among l k (values_of es) ≡ true). or_left (is_known l k ks) (is_ticket_of l k x) (kept.indexed.among l k e))
        (λ (e : is_ticket_of l k x ≡ true). or_right (is_known l k ks) (is_ticket_of l k x) e)
        (or_cases (is_among l k (values_of es)) (is_ticket_of l k x) (sym (more.among l k) ∙ is));
  };
  apart = λ l low small. known l (get_or nexts l 0) ∙ (λ i. kept.apart l low small i || false_from_ne_true (is_ticket_of l (get_or nexts l 0) x) (λ e.
      let p = and_parts (x.lane == l) (x.number == get_or nexts l 0) e in
      later (eqb-true x.number (get_or nexts l 0) p.1 ∙ ap (λ j. get_or nexts j 0) (sym (eqb-true x.lane l p.0)))) i);
}

-- lane l was given its next number, and what there is of the number after it is known as much as it was
pub gave : (nexts : List ℕ) (hs : List NextSlot) (es fs : List (Ticket × Plain)) (ks ts : List Ticket) (l : ℕ) (x : Plain) (a : NextSlot)
    → l < length nexts → length hs ≡ length nexts → slot_at hs l ≡ Here x → IsSlotOf l (get_or nexts l 0) (Here x)
    → ((h : Plain → ℕ) → sum_by h (values_of es) ≡ sum_by h (waiting_of a) + sum_by h (values_of fs))
    → ((k : ℕ) → (((get_or nexts l 0 + 1 == k) && has_come a) || is_known l k ts) ≡ is_known l k ks)
    → ((m k : ℕ) → m ≢ l → is_known m k ts ≡ is_known m k ks)
    → GivesNext (buffer_by_slots nexts hs es ks) l x (buffer_by_slots (set nexts l (get_or nexts l 0 + 1)) (set (set hs l Missing) l a) fs ts)
gave nexts hs es fs ks ts l x a low lanes here own weight same others =
    let n = get_or nexts l 0 in
    let p = own_parts l n x own in
    let there : l < length hs = omega arith in
    let there' : l < length (set hs l Missing) = let c = length-set hs l Missing in omega arith in
    let long : length (set (set hs l Missing) l a) ≡ length (set nexts l (n + 1)) =
    length-set (set hs l Missing) l a ∙ (length-set hs l Missing ∙ (lanes ∙ sym (length-set nexts l (n + 1)))) in
    record {
      lane = p.0;
      number = p.1;
      nexts = refl;
      leaves = record {
        waiting = λ h.
            let old = sum_both h hs es in
            let new = sum_both h (set (set hs l Missing) l a) fs in
            let out = set_sum h hs l Missing there in
            let back = set_sum h (set hs l Missing) l a there' in
            let was = ap (λ (b : NextSlot). sum_by h (waiting_of b)) here in
            let now = ap (λ (b : NextSlot). sum_by h (waiting_of b)) (slot_set hs l Missing there) in
            let moved = weight h in
            omega arith;
        known = λ m k. was_is (set nexts l (n + 1)) (set (set hs l Missing) l a) fs ts long m k ∙ (⊎_elim
            (λ (e : m ≡ l). subst (λ j. took_in (set nexts l (n + 1)) (set (set hs l Missing) l a) ts j k ≡ took_in nexts hs ks j k) (sym e)
            ((λ i. nat_lt k (get_or-set_at nexts l l (n + 1) 0 refl low i) ||
            ((get_or-set_at nexts l l (n + 1) 0 refl low i == k) && has_come (slot_set (set hs l Missing) l a there' i)) || is_known l k ts)
            ∙ (or_assoc (nat_lt k (n + 1)) ((n + 1 == k) && has_come a) (is_known l k ts) ∙ ap (λ b. nat_lt k (n + 1) || b) (same k)
            ∙ (ap (λ b. b || is_known l k ks) (below_next n k)
            ∙ (ap (λ b. nat_lt k n || b || is_known l k ks) (sym (and-true (n == k)))
            ∙ ap (λ (b : NextSlot). nat_lt k n || ((n == k) && has_come b) || is_known l k ks) (sym here))))))
            (λ (other : m ≢ l).
            (λ i. nat_lt k (get_or-set_other nexts l m (n + 1) 0 other i) ||
            ((get_or-set_other nexts l m (n + 1) 0 other i == k) && has_come
            ((slot_other (set hs l Missing) l m a other ∙ slot_other hs l m Missing other) i)) || others m k other i))
            (cases_eq m l)
            ∙ sym (was_is nexts hs es ks lanes m k));
      };
    }

-- lane l was given its next number: `AreKept` still holds
pub kept_next : (nexts : List ℕ) (hs : List NextSlot) (es fs : List (Ticket × Plain)) (ks ts : List Ticket) (l : ℕ) (a : NextSlot)
    → AreKept nexts hs es ks → l < length nexts → IsSlotOf l (get_or nexts l 0 + 1) a → AreIndexed fs ts
    → (get_or nexts l 0 + 1 < 2 ^ 32 → is_known l (get_or nexts l 0 + 1) ts ≡ false)
    → ((m k : ℕ) → m ≢ l → is_known m k ts ≡ is_known m k ks)
    → AreKept (set nexts l (get_or nexts l 0 + 1)) (set (set hs l Missing) l a) fs ts
kept_next nexts hs es fs ks ts l a kept low own indexed gone others =
    let n = get_or nexts l 0 in
    let there : l < length hs = let c = kept.lanes in omega arith in
    let there' : l < length (set hs l Missing) = let c = length-set hs l Missing in omega arith in
    let long = length-set nexts l (n + 1) in
    record {
      lanes = length-set (set hs l Missing) l a ∙ (length-set hs l Missing ∙ (kept.lanes ∙ sym long));
      own = λ m less. ⊎_elim
          (λ (e : m ≡ l). subst (λ j. IsSlotOf j (get_or (set nexts l (n + 1)) j 0) (slot_at (set (set hs l Missing) l a) j)) (sym e)
          (subst (λ (q : ℕ × NextSlot). IsSlotOf l q.0 q.1) (λ i.
          (sym (get_or-set_at nexts l l (n + 1) 0 refl low) i, sym (slot_set (set hs l Missing) l a there') i)) own))
          (λ (other : m ≢ l). subst (λ (q : ℕ × NextSlot). IsSlotOf m q.0 q.1)
          (λ i. (sym (get_or-set_other nexts l m (n + 1) 0 other) i, sym (slot_other (set hs l Missing) l m a other ∙ slot_other hs l m Missing other) i))
          (kept.own m (omega arith)))
          (cases_eq m l);
      indexed = indexed;
      apart = λ m less small. ⊎_elim
          (λ (e : m ≡ l).
          let at : get_or (set nexts l (n + 1)) m 0 ≡ n + 1 = ap (λ j. get_or (set nexts l (n + 1)) j 0) e ∙ get_or-set_at nexts l l (n + 1) 0 refl low in
          (λ i. is_known (e i) (at i) ts) ∙ gone (omega arith))
          (λ (other : m ≢ l).
          let at = get_or-set_other nexts l m (n + 1) 0 other in
          ap (λ k. is_known m k ts) at ∙ (others m (get_or nexts m 0) other ∙ kept.apart m (omega arith) (omega arith)))
          (cases_eq m l);
    }

-- what `Advances` says of known tickets (`same`): of lane l's own, and of another lane's
pub known_same : (l n : ℕ) (es fs : List (Ticket × Plain)) (ks ts : List Ticket) (a : NextSlot) → Advances l n es ks fs ts a
    → (k : ℕ) → (((n == k) && has_come a) || is_known l k ts) ≡ is_known l k ks
known_same l n es fs ks ts a moved k = ap (λ b. ((b && (n == k)) && has_come a) || is_known l k ts) (sym (eq-eqb l l refl)) ∙ moved.same l k

pub others_same : (l n : ℕ) (es fs : List (Ticket × Plain)) (ks ts : List Ticket) (a : NextSlot) → Advances l n es ks fs ts a
    → (m k : ℕ) → m ≢ l → is_known m k ts ≡ is_known m k ks
others_same l n es fs ks ts a moved m k other = ap (λ b. ((b && (n == k)) && has_come a) || is_known m k ts) (sym (ne_eqb l m (λ e. other (sym e))))
    ∙ moved.same m k

-- a delivery of a later number was taken out of turn
pub took_out : (nexts : List ℕ) (hs : List NextSlot) (es fs : List (Ticket × Plain)) (ks : List Ticket) (t : Ticket) (x : Plain) → es ≡ (t, x) ∷ fs
    → GivesAny (buffer_by_slots nexts hs es ks) x (buffer_by_slots nexts hs fs ks)
took_out nexts hs es fs ks t x is = record {
  nexts = refl;
  leaves = record {
    waiting = λ h.
        let old = sum_both h hs es in
        let new = sum_both h hs fs in
        let first = ap (λ gs. sum_by h (values_of gs)) is in
        omega (arith, sum_by-cons h x (values_of fs));
    known = λ l k. refl;
  };
}

-- a delivery that waited as its lane's next number was taken out of turn
pub took_slot : (nexts : List ℕ) (hs : List NextSlot) (es : List (Ticket × Plain)) (ks : List Ticket) (l : ℕ) (x : Plain) → length hs ≡ length nexts
    → l < length hs → slot_at hs l ≡ Here x
    → GivesAny (buffer_by_slots nexts hs es ks) x (buffer_by_slots nexts (set hs l Out) es ks)
took_slot nexts hs es ks l x long low here = record {
  nexts = refl;
  leaves = record {
    waiting = λ h.
        let old = sum_both h hs es in
        let new = sum_both h (set hs l Out) es in
        let put = set_sum h hs l Out low in
        let was = ap (λ (b : NextSlot). sum_by h (waiting_of b)) here in
        omega arith;
    known = λ m k. was_is nexts (set hs l Out) es ks (length-set hs l Out ∙ long) m k
        ∙ (ap (λ b. nat_lt k (get_or nexts m 0) || ((get_or nexts m 0 == k) && b) || is_known m k ks) (⊎_elim
        (λ (e : m ≡ l). ap (λ j. has_come (slot_at (set hs l Out) j)) e
        ∙ (ap has_come (slot_set hs l Out low) ∙ (sym (ap has_come here) ∙ ap (λ j. has_come (slot_at hs j)) (sym e))))
        (λ (other : m ≢ l). ap has_come (slot_other hs l m Out other))
        (cases_eq m l))
        ∙ sym (was_is nexts hs es ks long m k));
  };
}

-- a number that was not taken in is not known as a later one; and one that is not known so does not wait as one
pub not_known : (nexts : List ℕ) (hs : List NextSlot) (es : List (Ticket × Plain)) (ks : List Ticket) (l k : ℕ) → length hs ≡ length nexts
    → was_taken (buffer_by_slots nexts hs es ks) l k ≡ false → is_known l k ks ≡ false
not_known nexts hs es ks l k long fresh =
    (or_three_parts (nat_lt k (get_or nexts l 0)) ((get_or nexts l 0 == k) && has_come (slot_at hs l)) (is_known l k ks)
    (sym (was_is nexts hs es ks long l k) ∙ fresh)).2

pub not_later : (es : List (Ticket × Plain)) (ks : List Ticket) (l k : ℕ) → AreIndexed es ks → is_known l k ks ≡ false → is_among l k (values_of es) ≡ false
not_later es ks l k indexed none = false_from_ne_true (is_among l k (values_of es)) (λ is. let c : true ≡ false = sym (indexed.among l k is) ∙ none in cc)

-- in slots that are all `Missing` nothing waits, and none of their numbers has come
none_waits_yet : (n : ℕ) → waiting_at (replicate n Missing) ≡ []
none_waits_yet zero = refl
none_waits_yet (suc n) = none_waits_yet n

none_come_yet : (l n : ℕ) → come_tickets l (replicate n 0) (replicate n Missing) ≡ []
none_come_yet l zero = refl
none_come_yet l (suc n) = none_come_yet (suc l) n

-- a deliverer that took nothing in
pub new_buffer_is : (n : ℕ) → buffer_by_slots (replicate n 0) (replicate n Missing) [] [] ≡ new_buffer n
new_buffer_is n = λ i. buffer (replicate n 0) (none_waits_yet n i ++ []) (none_come_yet 0 n i ++ [])
