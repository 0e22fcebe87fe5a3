-- Looking an AI up in the table.
use Rattle.std.proofs.Common.{◌≡◌, ◌⊎◌, ℕ, zero, suc, false, cond, None, ◌+◌, Bool, true, eqb, not, ◌&&◌, ◌||◌, List, [], ◌∷◌, ◌++◌, length, drop, Option, Some, None, refl, sym, ap, ◌∙◌, arith, inl, inr, add-one}
use Rattle.std.specs.Prelude.{find, Contains, is_some}
use Rattle.std.specs.List.{filter, list_all}
use Rattle.std.proofs.lemmas.Bool.{and_parts, and_from, eqb-true, eq-eqb, cases_Bool, not-true, both_ways}
use Rattle.element_core.specs.Table.{Row, every_row, begins, row_at, none_begins_another, first_digits_decide, predefined_length, least_of, greatest_of}
use Rattle.element_core.specs.Terms.{Terms, is_read_by, rows_by, row_by_terms}
use Rattle.element_core.proofs.TableLaws.{no_ai_begins_another, first_digits_decide as digits_decide}

pub begins-append : (a r : List ℕ) → begins a (a ++ r) ≡ true
begins-append [] r = refl
begins-append (x ∷ a) r = and_from (eqb x x) (begins a (a ++ r)) (eq-eqb x x refl) (begins-append a r)

pub begins-split : (a t : List ℕ) → begins a t ≡ true → t ≡ a ++ drop (length a) t
begins-split [] t h = refl
begins-split (x ∷ a) [] h = absurd cc
begins-split (x ∷ a) (y ∷ t) h =
    let p = and_parts (eqb x y) (begins a t) h in
    let e : x ≡ y = eqb-true x y p.0 in
    let rest = begins-split a t p.1 in
    cc

-- of two AIs that a text begins with one begins with the other
begins-both : (a b t : List ℕ) → begins a t ≡ true → begins b t ≡ true → (begins a b || begins b a) ≡ true
begins-both [] b t h k = refl
begins-both (x ∷ a) [] t h k = refl
begins-both (x ∷ a) (y ∷ b) [] h k = absurd cc
begins-both (x ∷ a) (y ∷ b) (z ∷ t) h k =
    let p = and_parts (eqb x z) (begins a t) h in
    let q = and_parts (eqb y z) (begins b t) k in
    let xz : x ≡ z = eqb-true x z p.0 in
    let yz : y ≡ z = eqb-true y z q.0 in
    let one : eqb x y ≡ true = eq-eqb x y (xz ∙ sym yz) in
    let other : eqb y x ≡ true = eq-eqb y x (yz ∙ sym xz) in
    rw (one, other) (begins-both a b t p.1 q.1)

-- what passes of each element passes of one of them
pub all_at : {X : Type 0} (p : X → Bool) (xs : List X) (x : X) → Contains xs x → list_all p xs ≡ true → p x ≡ true
all_at p [] x (k, lt, e) h = absurd (omega arith)
all_at p (y ∷ xs) x (zero, lt, e) h = ap p (sym e) ∙ (and_parts (p y) (list_all p xs) h).0
all_at p (y ∷ xs) x (suc k, lt, e) h = all_at p xs x (k, omega arith, e) (and_parts (p y) (list_all p xs) h).1

found : (rows : List Row) (r : Row) (t : List ℕ) → none_begins_another rows ≡ true → Contains rows r → begins r.ai t ≡ true → find (λ s. begins s.ai t) rows
    ≡ Some r
found [] r t apart (k, lt, e) h = absurd (omega arith)
found (s ∷ rows) r t apart (zero, lt, e) h =
    let here : begins s.ai t ≡ true = ap (λ (q : Row). begins q.ai t) e ∙ h in
    rw here (ap Some e)
found (s ∷ rows) r t apart (suc k, lt, e) h =
    let p = and_parts (list_all (λ q. not (begins s.ai q.ai || begins q.ai s.ai)) rows) (none_begins_another rows) apart in
    let in_rest : Contains rows r = (k, omega arith, e) in
    let other = not-true (begins s.ai r.ai || begins r.ai s.ai) (all_at (λ q. not (begins s.ai q.ai || begins q.ai s.ai)) rows r in_rest p.0) in
    elim (cases_Bool (begins s.ai t)) [
      | inl here ↦ absurd (both_ways (begins s.ai r.ai || begins r.ai s.ai) other (begins-both s.ai r.ai t here h))
      | inr here ↦ rw here (found rows r t p.1 in_rest h)
    ]

find_is : (rows : List Row) (r : Row) (t : List ℕ) → find (λ s. begins s.ai t) rows ≡ Some r → Contains rows r × (begins r.ai t ≡ true)
find_is [] r t e = absurd cc
find_is (s ∷ rows) r t e =
    elim (cases_Bool (begins s.ai t)) [
      | inl here ↦
          let same : Some s ≡ Some r = rw here at e in
          let is : s ≡ r = cc in
          ((0, omega arith, is), ap (λ (q : Row). begins q.ai t) (sym is) ∙ here)
      | inr here ↦
          let more = find_is rows r t (rw here at e) in
          ((more.0.0 + 1, omega arith, rw add-one more.0.2), more.1)
    ]

-- the text that begins with an AI of the table has that row
pub row_found : (r : Row) (t : List ℕ) → Contains every_row r → begins r.ai t ≡ true → row_at t ≡ Some r
row_found r t listed h = found every_row r t no_ai_begins_another listed h

pub row_is : (r : Row) (t : List ℕ) → row_at t ≡ Some r → Contains every_row r × (begins r.ai t ≡ true)
row_is r t e = find_is every_row r t e

-- a predefined value has one length
one_length : (r : Row) (all : Option ℕ) → first_digits_decide r all ≡ true → r.predefined ≡ true → least_of r.parts ≡ greatest_of r.parts
one_length r None h p = absurd (both_ways r.predefined (not-true r.predefined h) p)
one_length r (Some all) h p =
    let a = and_parts (r.predefined && eqb (least_of r.parts + length r.ai) all) (eqb (greatest_of r.parts + length r.ai) all) h in
    let b = and_parts r.predefined (eqb (least_of r.parts + length r.ai) all) a.0 in
    omega (arith, eqb-true (least_of r.parts + length r.ai) all b.1, eqb-true (greatest_of r.parts + length r.ai) all a.1)

pub predefined_length_is : (r : Row) → Contains every_row r → r.predefined ≡ true → least_of r.parts ≡ greatest_of r.parts
predefined_length_is r listed p = one_length r (predefined_length r.ai)
    (all_at (λ row. first_digits_decide row (predefined_length row.ai)) every_row r listed digits_decide) p

decided_by : (r : Row) (all : Option ℕ) → first_digits_decide r all ≡ true → r.predefined ≡ is_some all
decided_by r None h = not-true r.predefined h
decided_by r (Some all) h = (and_parts _ _ (and_parts _ _ h).0).0

-- the first two digits decide of each row
pub predefined_is : (r : Row) → Contains every_row r → r.predefined ≡ is_some (predefined_length r.ai)
predefined_is r listed = decided_by r (predefined_length r.ai)
    (all_at (λ row. first_digits_decide row (predefined_length row.ai)) every_row r listed digits_decide)

-- ---- the rows that are read by

in_rest : (r s : Row) (rows : List Row) → Contains rows r → Contains (s ∷ rows) r
in_rest r s rows (k, lt, e) = (suc k, omega arith, e)

pass_cond : (b : Bool) (q : Row → Bool) (s : Row) (ks : List Row) → q s ≡ b → list_all q ks ≡ true → list_all q (cond b (s ∷ ks) ks) ≡ true
pass_cond true q s ks e h = and_from (q s) (list_all q ks) e h
pass_cond false q s ks e h = h

kept_passes : (q : Row → Bool) (rows : List Row) → list_all q (filter q rows) ≡ true
kept_passes q [] = refl
kept_passes q (s ∷ rows) = pass_cond (q s) q s (filter q rows) refl (kept_passes q rows)

below_cond : (b : Bool) (s r : Row) (ks rows : List Row) → (Contains ks r → Contains rows r) → Contains (cond b (s ∷ ks) ks) r → Contains (s ∷ rows) r
below_cond true s r ks rows f (zero, lt, e) = (zero, omega arith, e)
below_cond true s r ks rows f (suc k, lt, e) = in_rest r s rows (f (k, omega arith, e))
below_cond false s r ks rows f c = in_rest r s rows (f c)

kept_listed : (q : Row → Bool) (rows : List Row) (r : Row) → Contains (filter q rows) r → Contains rows r
kept_listed q [] r listed = listed
kept_listed q (s ∷ rows) r listed = below_cond (q s) s r (filter q rows) rows (kept_listed q rows r) listed

keep_cond : (b : Bool) (s r : Row) (ks : List Row) → Contains ks r → Contains (cond b (s ∷ ks) ks) r
keep_cond true s r ks c = in_rest r s ks c
keep_cond false s r ks c = c

kept_first : (b : Bool) (s r : Row) (ks : List Row) → b ≡ true → s ≡ r → Contains (cond b (s ∷ ks) ks) r
kept_first true s r ks holds e = (zero, omega arith, e)
kept_first false s r ks holds e = absurd (let k = holds in cc)

pub listed_kept : (q : Row → Bool) (rows : List Row) (r : Row) → Contains rows r → q r ≡ true → Contains (filter q rows) r
listed_kept q [] r listed holds = listed
listed_kept q (s ∷ rows) r (zero, lt, e) holds =
    let is : s ≡ r = e in
    kept_first (q s) s r (filter q rows) (ap q is ∙ holds) is
listed_kept q (s ∷ rows) r (suc k, lt, e) holds = keep_cond (q s) s r (filter q rows) (listed_kept q rows r (k, omega arith, e) holds)

find_kept : (p q : Row → Bool) (rows : List Row) (r : Row) → find p rows ≡ Some r → q r ≡ true → find p (filter q rows) ≡ Some r
find_kept p q [] r e holds = absurd cc
find_kept p q (s ∷ rows) r e holds =
    elim (cases_Bool (p s)) [
      | inl here ↦
          let same : Some s ≡ Some r = rw here at e in
          let is : s ≡ r = cc in
          let stays : q s ≡ true = ap q is ∙ holds in
          rw (stays, here) same
      | inr other ↦
          let more = find_kept p q rows r (rw other at e) holds in
          elim (cases_Bool (q s)) [
            | inl stays ↦ rw (stays, other) more
            | inr goes ↦ rw goes more
          ]
    ]

-- each stands in the table of all
pub in_table : (terms : Terms) (r : Row) → Contains (rows_by terms) r → Contains every_row r
in_table terms r listed = kept_listed (is_read_by terms) every_row r listed

pub is_read : (terms : Terms) (r : Row) → Contains (rows_by terms) r → is_read_by terms r ≡ true
is_read terms r listed = all_at (is_read_by terms) (rows_by terms) r listed (kept_passes (is_read_by terms) every_row)

-- the row of the table is that of the terms, where it is read by
pub read_row : (terms : Terms) (r : Row) (t : List ℕ) → row_at t ≡ Some r → is_read_by terms r ≡ true → row_by_terms terms t ≡ Some r
read_row terms r t there holds = find_kept (λ s. begins s.ai t) (is_read_by terms) every_row r there holds

pub read_row_is : (terms : Terms) (r : Row) (t : List ℕ) → row_by_terms terms t ≡ Some r
    → Contains (rows_by terms) r × (begins r.ai t ≡ true) × (row_at t ≡ Some r)
read_row_is terms r t there =
    let is = find_is (rows_by terms) r t there in
    (is.0, is.1, row_found r t (in_table terms r is.0) is.1)

pub read_row_found : (terms : Terms) (r : Row) (t : List ℕ) → Contains (rows_by terms) r → begins r.ai t ≡ true → row_by_terms terms t ≡ Some r
read_row_found terms r t listed h = read_row terms r t (row_found r t (in_table terms r listed) h) (is_read terms r listed)

some_or_none : (o : Option Row) → (o ≡ None) ⊎ ((r : Row) × (o ≡ Some r))
some_or_none None = inl refl
some_or_none (Some r) = inr (r, refl)

abbrev some_row : Row → Option Row
some_row r = Some r

same_row : (r s : Row) → some_row r ≡ some_row s → r ≡ s
same_row r s e = cc

-- where the table has none, or one that is not read by, the terms have none
pub no_read_row : (terms : Terms) (t : List ℕ) → row_at t ≡ None → row_by_terms terms t ≡ None
no_read_row terms t none =
    elim (some_or_none (row_by_terms terms t)) [
      | inl is ↦ is
      | inr there ↦ absurd (let k = (read_row_is terms there.0 t there.1).2 in let n = none in cc)
    ]

pub unread_row : (terms : Terms) (r : Row) (t : List ℕ) → row_at t ≡ Some r → is_read_by terms r ≡ false → row_by_terms terms t ≡ None
unread_row terms r t here lacks =
    elim (some_or_none (row_by_terms terms t)) [
      | inl is ↦ is
      | inr there ↦
          let is = read_row_is terms there.0 t there.1 in
          let same : there.0 ≡ r = same_row there.0 r (sym is.2 ∙ here) in
          let holds : is_read_by terms r ≡ true = ap (is_read_by terms) (sym same) ∙ is_read terms there.0 is.0 in
          absurd (both_ways (is_read_by terms r) lacks holds)
    ]
