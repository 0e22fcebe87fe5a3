-- What stands in a deliverer's map under a ticket, and which tickets are known.
-- `es` are the map's entries, `ts` the known tickets, `R` an order of tickets, and `test` the test of a look-up. A lemma `.._here`, `put_at`,
-- `out_at` or `gone_at` is the step of the lemma after it: it goes by whether the first entry or ticket is the one, or by how the two compare.
use Rattle.std.proofs.Common.{◌≡◌, ℕ, ◌+◌, ◌<◌, ◌≤◌, ◌^◌, ◌==◌, ◌&&◌, ◌||◌, nat_lt, cond, Bool, true, false, List, [], ◌∷◌, Some, refl, sym, ap, ◌∙◌, subst, arith}
use Rattle.std.specs.Map.{lookup, remove_entry, values_of}
use Rattle.std.specs.Ordering.{is_eq, nat_cmp, ordering_then, match_ordering}
use Rattle.std.specs.Cmp.{tied_then}
use Rattle.std.specs.declared.cmp.Ordering.{Ordering}
use Rattle.std.specs.declared.cmp.Ordering.TheVariants.{Less, Equal, Greater}
use Rattle.std.specs.BTreeMap.{insert_entry, is_at}
use Rattle.std.specs.BTreeSet.{insert_key}
use Rattle.std.specs.List.{list_any, sum_by}
use Rattle.std.specs.Set.{remove_key}
use Rattle.std.specs.Option.{is_some}
use Rattle.std.proofs.lemmas.Bool.Decides.{nat_tests}
use Rattle.std.proofs.lemmas.List.Sums.{sum_by-cons}
use Rattle.std.proofs.lemmas.Bool.{and_parts, eqb-true, ltb-true, or_parts, and_from, eq-eqb, ne_eqb}
use Rattle.std.proofs.Math.Bool.{or_comm, or_assoc}
use Rattle.lane_core.specs.declared.job.Plain.{Plain}
use Rattle.lane_core.specs.declared.ticket.Ticket.{Ticket}
use Rattle.lane_core.specs.Tickets.{is_ticket_of, is_among}
use Rattle.lane_core.specs.ReorderBuffer.{is_known}
use Rattle.lane_core.specs.inner.NextSlots.{are_tied, is_tied}
use Rattle.lane_core.proofs.TruthFacts.{or_again, and_false_or}
use Rattle.lane_core.proofs.TicketFacts.{ticket_parts}
use Rattle.lane_core.proofs.ResultFacts.{some_or}

-- the order of tickets
abbrev pub cmp_tickets : Ticket → Ticket → Ordering
cmp_tickets a t = ordering_then (nat_cmp a.lane t.lane) (nat_cmp a.number t.number)

-- the test finds lane l's number k alone: `is_ticket_of` of a ticket
abbrev pub Finds : (Ticket → Bool) → ℕ → ℕ → Type 0
Finds test l k = (t : Ticket) → test t ≡ ((t.lane == l) && (t.number == k))

-- numbers that compare as equal are one number
nat_cmp_eq : (a b : ℕ) → is_eq (nat_cmp a b) ≡ (b == a)
nat_cmp_eq a b = grind (arith, nat_tests)

-- the order of tickets finds a ticket's own lane and number: `Finds`, of its test
pub finds_own : (a t : Ticket) → is_eq (cmp_tickets a t) ≡ ((t.lane == a.lane) && (t.number == a.number))
finds_own a t =
    sym (tied_then (nat_cmp a.lane t.lane) (nat_cmp a.number t.number))
    ∙ (ap (λ b. b && is_eq (nat_cmp a.number t.number)) (nat_cmp_eq a.lane t.lane)
    ∙ ap (λ b. (t.lane == a.lane) && b) (nat_cmp_eq a.number t.number))

-- so the test of a ticket that is lane l's number k finds that number alone
pub finds_at : (a : Ticket) (l k : ℕ) → a.lane ≡ l → a.number ≡ k → Finds (is_at (cmp_tickets a)) l k
finds_at a l k lane number = λ t. finds_own a t ∙ (λ i. (t.lane == lane i) && (t.number == number i))

-- a tied delivery's lane, number and its bound
pub tied_parts : (e : Ticket × Plain) → is_tied e ≡ true → (e.1.lane ≡ e.0.lane) × (e.1.number ≡ e.0.number) × (e.0.number < 2 ^ 32)
tied_parts e h =
    let s = and_parts (is_ticket_of e.0.lane e.0.number e.1) (nat_lt e.0.number (2 ^ 32)) h in
    let t = ticket_parts e.0.lane e.0.number e.1 s.0 in (t.0, t.1, ltb-true e.0.number (2 ^ 32) s.1)

-- a tied delivery is the one that the test finds
tied_test : (test : Ticket → Bool) (l k : ℕ) → Finds test l k → (e : Ticket × Plain) → is_tied e ≡ true → is_ticket_of l k e.1 ≡ test e.0
tied_test test l k finds e h =
    let p = tied_parts e h in
    ap (λ n. (n == l) && (e.1.number == k)) p.0 ∙ (ap (λ n. (e.0.lane == l) && (n == k)) p.1 ∙ sym (finds e.0))

-- a look-up finds what is among the values
pub found_among : (test : Ticket → Bool) (l k : ℕ) → Finds test l k → (es : List (Ticket × Plain)) → are_tied es ≡ true → is_some (lookup test es)
    ≡ is_among l k (values_of es)
found_among test l k finds [] tied = refl
found_among test l k finds (e ∷ es) tied =
    let s = and_parts (is_tied e) (are_tied es) tied in
    some_or (test e.0) e.1 (lookup test es)
    ∙ (ap (λ b. b || is_some (lookup test es)) (sym (tied_test test l k finds e s.0))
    ∙ ap (λ b. is_ticket_of l k e.1 || b) (found_among test l k finds es s.1))

-- no number of more than 32 bits is there
pub none_past : (l k : ℕ) (es : List (Ticket × Plain)) → are_tied es ≡ true → 2 ^ 32 ≤ k → is_among l k (values_of es) ≡ false
none_past l k [] tied past = refl
none_past l k (e ∷ es) tied past =
    let s = and_parts (is_tied e) (are_tied es) tied in
    let p = tied_parts e s.0 in
    let rest = none_past l k es s.1 past in
    let apart : (e.1.number == k) ≡ false = ne_eqb e.1.number k (λ f. absurd (omega arith)) in
    ap (λ b. ((e.1.lane == l) && b) || is_among l k (values_of es)) apart ∙ (and_false_or (e.1.lane == l) (is_among l k (values_of es)) ∙ rest)

-- what a look-up finds has the ticket
found_here : (test : Ticket → Bool) (l k : ℕ) → Finds test l k → (e : Ticket × Plain) (es : List (Ticket × Plain)) (v : Plain) → is_tied e ≡ true
    → (lookup test es ≡ Some v → is_ticket_of l k v ≡ true)
    → (b : Bool) → b ≡ test e.0 → cond b (Some e.1) (lookup test es) ≡ Some v → is_ticket_of l k v ≡ true
found_here test l k finds e es v tied later true at is = let same : e.1 ≡ v =
    cc in ap (is_ticket_of l k) (sym same) ∙ (tied_test test l k finds e tied ∙ sym at)
found_here test l k finds e es v tied later false at is = later is

pub found_ticket : (test : Ticket → Bool) (l k : ℕ) → Finds test l k → (es : List (Ticket × Plain)) (v : Plain) → are_tied es ≡ true → lookup test es ≡ Some v
    → is_ticket_of l k v ≡ true
found_ticket test l k finds [] v tied is = absurd (cc)
found_ticket test l k finds (e ∷ es) v tied is =
    let s = and_parts (is_tied e) (are_tied es) tied in
    found_here test l k finds e es v s.0 (λ h. found_ticket test l k finds es v s.1 h) (test e.0) refl is

-- the entries fs are es and v
pub record MoreBy (es : List (Ticket × Plain)) (v : Plain) (fs : List (Ticket × Plain)) : Type 0 where
  pub weight : (h : Plain → ℕ) → sum_by h (values_of fs) ≡ sum_by h (values_of es) + h v
  pub among : (l k : ℕ) → is_among l k (values_of fs) ≡ (is_among l k (values_of es) || is_ticket_of l k v)

-- one more in front, and one more behind the first
more_first : (e : Ticket × Plain) (es : List (Ticket × Plain)) → MoreBy es e.1 (e ∷ es)
more_first e es = record {
  weight = λ h. omega (arith, sum_by-cons h e.1 (values_of es));
  among = λ l k. or_comm (is_ticket_of l k e.1) (is_among l k (values_of es));
}

more_later : (e : Ticket × Plain) (es : List (Ticket × Plain)) (v : Plain) (fs : List (Ticket × Plain)) → MoreBy es v fs → MoreBy (e ∷ es) v (e ∷ fs)
more_later e es v fs more = record {
  weight = λ h. omega (arith, more.weight h, sum_by-cons h e.1 (values_of es), sum_by-cons h e.1 (values_of fs));
  among = λ l k. ap (λ b. is_ticket_of l k e.1 || b) (more.among l k) ∙ sym (or_assoc (is_ticket_of l k e.1) (is_among l k (values_of es)) (is_ticket_of l k v));
}

-- an entry under a key that was not there
put_here : (R : Ticket → Ticket → Ordering) (t : Ticket) (v : Plain) (e : Ticket × Plain) (es : List (Ticket × Plain))
    → (is_some (lookup (is_at (R t)) es) ≡ false → MoreBy es v (insert_entry R es t v))
    → (o : Ordering) → is_some (cond (is_eq o) (Some e.1) (lookup (is_at (R t)) es)) ≡ false
    → MoreBy (e ∷ es) v (match_ordering o ((t, v) ∷ e ∷ es) ((e.0, v) ∷ es) (e ∷ insert_entry R es t v))
put_here R t v e es later Less absent = more_first (t, v) (e ∷ es)
put_here R t v e es later Equal absent = absurd (cc)
put_here R t v e es later Greater absent = more_later e es v (insert_entry R es t v) (later absent)

pub put_more : (R : Ticket → Ticket → Ordering) (t : Ticket) (v : Plain) (es : List (Ticket × Plain))
    → is_some (lookup (is_at (R t)) es) ≡ false → MoreBy es v (insert_entry R es t v)
put_more R t v [] absent = more_first (t, v) []
put_more R t v (e ∷ es) absent = put_here R t v e es (put_more R t v es) (R t e.0) absent

-- deliveries under their own tickets stay so if one more is put in
tied_first : (e : Ticket × Plain) (es : List (Ticket × Plain)) → is_tied e ≡ true → are_tied es ≡ true → are_tied (e ∷ es) ≡ true
tied_first e es a b = ap (λ x. x && are_tied es) a ∙ b

tied_here : (R : Ticket → Ticket → Ordering) (t : Ticket) (v : Plain) (e : Ticket × Plain) (es : List (Ticket × Plain))
    → is_tied (t, v) ≡ true → is_tied e ≡ true → are_tied es ≡ true
    → (is_some (lookup (is_at (R t)) es) ≡ false → are_tied (insert_entry R es t v) ≡ true)
    → (o : Ordering) → is_some (cond (is_eq o) (Some e.1) (lookup (is_at (R t)) es)) ≡ false
    → are_tied (match_ordering o ((t, v) ∷ e ∷ es) ((e.0, v) ∷ es) (e ∷ insert_entry R es t v)) ≡ true
tied_here R t v e es new first rest later Less absent = tied_first (t, v) (e ∷ es) new (tied_first e es first rest)
tied_here R t v e es new first rest later Equal absent = absurd (cc)
tied_here R t v e es new first rest later Greater absent = tied_first e (insert_entry R es t v) first (later absent)

pub put_tied : (R : Ticket → Ticket → Ordering) (t : Ticket) (v : Plain) (es : List (Ticket × Plain))
    → is_tied (t, v) ≡ true → are_tied es ≡ true → is_some (lookup (is_at (R t)) es) ≡ false → are_tied (insert_entry R es t v) ≡ true
put_tied R t v [] new tied absent = tied_first (t, v) [] new refl
put_tied R t v (e ∷ es) new tied absent =
    let s = and_parts (is_tied e) (are_tied es) tied in
    tied_here R t v e es new s.0 s.1 (put_tied R t v es new s.1) (R t e.0) absent

-- an entry that was there and is no more; std's `sum_by-remove_entry` has the weights alone
gone_here : (test : Ticket → Bool) (e : Ticket × Plain) (es : List (Ticket × Plain)) (v : Plain)
    → (lookup test es ≡ Some v → MoreBy (remove_entry test es) v es)
    → (b : Bool) → cond b (Some e.1) (lookup test es) ≡ Some v → MoreBy (cond b es (e ∷ remove_entry test es)) v (e ∷ es)
gone_here test e es v later true is = let same : e.1 ≡ v = cc in subst (λ (w : Plain). MoreBy es w (e ∷ es)) same (more_first e es)
gone_here test e es v later false is = more_later e (remove_entry test es) v es (later is)

pub gone_more : (test : Ticket → Bool) (es : List (Ticket × Plain)) (v : Plain) → lookup test es ≡ Some v → MoreBy (remove_entry test es) v es
gone_more test [] v is = absurd (cc)
gone_more test (e ∷ es) v is = gone_here test e es v (gone_more test es v) (test e.0) is

-- deliveries under their own tickets stay so if one is taken out
kept_here : (test : Ticket → Bool) (e : Ticket × Plain) (es : List (Ticket × Plain)) → is_tied e ≡ true → are_tied es ≡ true → are_tied (remove_entry test es)
    ≡ true
    → (b : Bool) → are_tied (cond b es (e ∷ remove_entry test es)) ≡ true
kept_here test e es first rest later true = rest
kept_here test e es first rest later false = tied_first e (remove_entry test es) first later

pub gone_tied : (test : Ticket → Bool) (es : List (Ticket × Plain)) → are_tied es ≡ true → are_tied (remove_entry test es) ≡ true
gone_tied test [] tied = refl
gone_tied test (e ∷ es) tied =
    let s = and_parts (is_tied e) (are_tied es) tied in
    kept_here test e es s.0 s.1 (gone_tied test es s.1) (test e.0)

-- a delivery under its own ticket is tied
pub own_tied : (t : Ticket) (x : Plain) → t.lane ≡ x.lane → t.number ≡ x.number → t.number < 2 ^ 32 → is_tied (t, x) ≡ true
own_tied t x lane number less = grind (arith, nat_tests)

-- one of the tickets passes the test exactly if lane l's number k is known
pub any_finds : (test : Ticket → Bool) (l k : ℕ) → Finds test l k → (ts : List Ticket) → list_any test ts ≡ is_known l k ts
any_finds test l k finds [] = refl
any_finds test l k finds (t ∷ ts) = (λ i. finds t i || any_finds test l k finds ts i)

-- tickets that the order holds for equal are the same lane's same number
same_ticket : (a t : Ticket) → is_eq (cmp_tickets a t) ≡ true → (l k : ℕ) → ((t.lane == l) && (t.number == k))
    ≡ ((a.lane == l) && (a.number == k))
same_ticket a t is l k =
    let s = and_parts (t.lane == a.lane) (t.number == a.number) (sym (finds_own a t) ∙ is) in
    (λ i. (eqb-true t.lane a.lane s.0 i == l) && (eqb-true t.number a.number s.1 i == k))

-- a ticket is its own lane's own number
own_test : (t : Ticket) → ((t.lane == t.lane) && (t.number == t.number)) ≡ true
own_test t = and_from (t.lane == t.lane) (t.number == t.number) (eq-eqb t.lane t.lane refl) (eq-eqb t.number t.number refl)

put_at : (t u : Ticket) (l k : ℕ) (ts : List Ticket) → is_known l k (insert_key cmp_tickets ts t) ≡ (is_known l k ts || ((t.lane == l) && (t.number == k)))
    → (o : Ordering) → cmp_tickets t u ≡ o
    → is_known l k (match_ordering o (t ∷ u ∷ ts) (u ∷ ts) (u ∷ insert_key cmp_tickets ts t)) ≡ (is_known l k (u ∷ ts) || ((t.lane == l) && (t.number == k)))
put_at t u l k ts later Less e = or_comm ((t.lane == l) && (t.number == k)) (is_known l k (u ∷ ts))
put_at t u l k ts later Equal e = or_again ((u.lane == l) && (u.number == k)) (is_known l k ts) ((t.lane == l) && (t.number == k))
    (same_ticket t u (ap is_eq e) l k)
put_at t u l k ts later Greater e = ap (λ b. ((u.lane == l) && (u.number == k)) || b) later
    ∙ sym (or_assoc ((u.lane == l) && (u.number == k)) (is_known l k ts) ((t.lane == l) && (t.number == k)))

-- one more ticket is known
pub put_known : (t : Ticket) (l k : ℕ) (ts : List Ticket) → is_known l k (insert_key cmp_tickets ts t) ≡ (is_known l k ts || ((t.lane == l) && (t.number == k)))
put_known t l k [] = or_comm ((t.lane == l) && (t.number == k)) false
put_known t l k (u ∷ ts) = put_at t u l k ts (put_known t l k ts) (cmp_tickets t u) refl

out_at : (t u : Ticket) (ts : List Ticket) → remove_key (is_at (cmp_tickets t)) (insert_key cmp_tickets ts t) ≡ ts
    → ((u.lane == t.lane) && (u.number == t.number)) ≡ false
    → (o : Ordering) → cmp_tickets t u ≡ o → remove_key (is_at (cmp_tickets t)) (match_ordering o (t ∷ u ∷ ts) (u ∷ ts) (u ∷ insert_key cmp_tickets ts t))
    ≡ u ∷ ts
out_at t u ts later other Less e = ap (λ b. cond b (u ∷ ts) (t ∷ remove_key (is_at (cmp_tickets t)) (u ∷ ts))) (finds_own t t ∙ own_test t)
out_at t u ts later other Equal e = absurd (let c : true ≡ false = sym (ap is_eq e) ∙ (finds_own t u ∙ other) in cc)
out_at t u ts later other Greater e =
    ap (λ b. cond b (insert_key cmp_tickets ts t) (u ∷ remove_key (is_at (cmp_tickets t)) (insert_key cmp_tickets ts t))) (ap is_eq e) ∙ ap (λ us. u ∷ us) later

-- a ticket that was not known, put in and taken out again
pub put_gone : (t : Ticket) (ts : List Ticket) → is_known t.lane t.number ts ≡ false → remove_key (is_at (cmp_tickets t)) (insert_key cmp_tickets ts t) ≡ ts
put_gone t [] absent = ap (λ b. cond b [] (t ∷ [])) (finds_own t t ∙ own_test t)
put_gone t (u ∷ ts) absent =
    let p = or_parts ((u.lane == t.lane) && (u.number == t.number)) (is_known t.lane t.number ts) absent in
    out_at t u ts (put_gone t ts p.1) p.0 (cmp_tickets t u) refl

gone_at : (test : Ticket → Bool) (l k m n : ℕ) → Finds test l k → ((l == m) && (k == n)) ≡ false → (t : Ticket) (ts : List Ticket)
    → is_known m n (remove_key test ts) ≡ is_known m n ts
    → (b : Bool) → test t ≡ b → is_known m n (cond b ts (t ∷ remove_key test ts)) ≡ is_known m n (t ∷ ts)
gone_at test l k m n finds other t ts later true e =
    let s = and_parts (t.lane == l) (t.number == k) (sym (finds t) ∙ e) in
    let no : ((t.lane == m) && (t.number == n)) ≡ false = (λ i. (eqb-true t.lane l s.0 i == m) && (eqb-true t.number k s.1 i == n)) ∙ other in
    sym (ap (λ b. b || is_known m n ts) no)
gone_at test l k m n finds other t ts later false e = ap (λ b. ((t.lane == m) && (t.number == n)) || b) later

-- the other tickets are known as before
pub gone_known : (test : Ticket → Bool) (l k : ℕ) → Finds test l k → (m n : ℕ) → ((l == m) && (k == n)) ≡ false → (ts : List Ticket)
    → is_known m n (remove_key test ts) ≡ is_known m n ts
gone_known test l k finds m n other [] = refl
gone_known test l k finds m n other (t ∷ ts) = gone_at test l k m n finds other t ts (gone_known test l k finds m n other ts) (test t) refl
