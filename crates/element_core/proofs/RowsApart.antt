-- Rows of families whose AIs differ in a digit.
use Rattle.std.proofs.Common.{◌≡◌, ℕ, zero, suc, ◌+◌, ◌-◌, ◌<◌, ◌≤◌, Bool, true, false, eqb, ltb, not, ◌&&◌, ◌||◌, List, [], ◌∷◌, ◌++◌, map, refl, arith, inl, inr}
use Rattle.std.specs.Prelude.{flat_map, ⊤}
use Rattle.std.specs.List.{list_all, range_with_len}
use Rattle.std.proofs.lemmas.Bool.{and_parts, and_from, cases_lt, le-ltb, ne_eqb}
use Rattle.element_core.specs.Table.{Family, Row, ais, begins, none_begins_another, rows_of}

-- each digit of the AI lies between those of the two
abbrev LiesIn : List ℕ → List ℕ → List ℕ → Type 0
LiesIn [] g [] = ⊤
LiesIn [] g (d ∷ ai) = ⊥
LiesIn (x ∷ l) [] ai = ⊥
LiesIn (x ∷ l) (z ∷ g) [] = ⊥
LiesIn (x ∷ l) (z ∷ g) (d ∷ ai) = (x ≤ d) × (d ≤ z) × LiesIn l g ai

all_append : {X : Type 0} (p : X → Bool) (xs ys : List X) → list_all p xs ≡ true → list_all p ys ≡ true → list_all p (xs ++ ys) ≡ true
all_append p [] ys h k = k
all_append p (x ∷ xs) ys h k =
    let q = and_parts (p x) (list_all p xs) h in and_from (p x) (list_all p (xs ++ ys)) q.0 (all_append p xs ys q.1 k)

all_map : {X Y : Type 0} (p : Y → Bool) (f : X → Y) (xs : List X) → list_all (λ x. p (f x)) xs ≡ true → list_all p (map f xs) ≡ true
all_map p f [] h = refl
all_map p f (x ∷ xs) h =
    let q = and_parts (p (f x)) (list_all (λ y. p (f y)) xs) h in and_from (p (f x)) (list_all p (map f xs)) q.0 (all_map p f xs q.1)

all_range : (p : List ℕ → Bool) (tails : List (List ℕ)) (n x : ℕ) → ((d : ℕ) → x ≤ d → d < x + n → list_all (λ ai. p (d ∷ ai)) tails ≡ true)
    → list_all p (flat_map (λ d. map (λ ai. d ∷ ai) tails) (range_with_len x n)) ≡ true
all_range p tails zero x h = refl
all_range p tails (suc n) x h =
    all_append p (map (λ ai. x ∷ ai) tails) (flat_map (λ d. map (λ ai. d ∷ ai) tails) (range_with_len (x + 1) n))
    (all_map p (λ ai. x ∷ ai) tails (h x (omega arith) (omega arith)))
    (all_range p tails n (x + 1) (λ d low high. h d (omega arith) (omega arith)))

all_ais : (p : List ℕ → Bool) (l g : List ℕ) → ((ai : List ℕ) → LiesIn l g ai → p ai ≡ true) → list_all p (ais l g) ≡ true
all_ais p [] g h = and_from (p []) true (h [] tt) refl
all_ais p (x ∷ l) [] h = refl
all_ais p (x ∷ l) (z ∷ g) h =
    all_range p (ais l g) (z + 1 - x) x
    (λ d low high. all_ais (λ ai. p (d ∷ ai)) l g (λ ai lies. h (d ∷ ai) (low, omega arith, lies)))

-- at some place the digits of the one lie past those of the other
abbrev digits_apart : List ℕ → List ℕ → List ℕ → List ℕ → Bool
digits_apart [] g m h = false
digits_apart (x ∷ l) [] m h = false
digits_apart (x ∷ l) (z ∷ g) [] h = false
digits_apart (x ∷ l) (z ∷ g) (y ∷ m) [] = false
digits_apart (x ∷ l) (z ∷ g) (y ∷ m) (w ∷ h) = ltb z y || (ltb w x || digits_apart l g m h)

no_more : (p q r s : Bool) → not (r || s) ≡ true → not ((p && r) || (q && s)) ≡ true
no_more true true r s e = e
no_more true false true s e = absurd cc
no_more true false false s e = refl
no_more false true true s e = absurd cc
no_more false true false s e = e
no_more false false r s e = refl

differ : (l g m h a b : List ℕ) → digits_apart l g m h ≡ true → LiesIn l g a → LiesIn m h b → not (begins a b || begins b a) ≡ true
differ [] g m h a b e in_l in_m = absurd cc
differ (x ∷ l) [] m h a b e in_l in_m = absurd cc
differ (x ∷ l) (z ∷ g) [] h a b e in_l in_m = absurd cc
differ (x ∷ l) (z ∷ g) (y ∷ m) [] a b e in_l in_m = absurd cc
differ (x ∷ l) (z ∷ g) (y ∷ m) (w ∷ h) [] b e in_l in_m = absurd in_l
differ (x ∷ l) (z ∷ g) (y ∷ m) (w ∷ h) (d ∷ a) [] e in_l in_m = absurd in_m
differ (x ∷ l) (z ∷ g) (y ∷ m) (w ∷ h) (d ∷ a) (c ∷ b) e in_l in_m =
    let (x_d, d_z, rest_l) = in_l in
    let (y_c, c_w, rest_m) = in_m in
    elim (cases_lt z y) [
      | inl lt ↦ rw (ne_eqb d c (omega arith), ne_eqb c d (omega arith)) refl
      | inr le ↦ elim (cases_lt w x) [
        | inl lt ↦ rw (ne_eqb d c (omega arith), ne_eqb c d (omega arith)) refl
        | inr ge ↦ no_more (eqb d c) (eqb c d) (begins a b) (begins b a)
            (differ l g m h a b (rw (le-ltb z y le, le-ltb w x ge) at e) rest_l rest_m)
      ]
    ]

abbrev are_apart : Family → Family → Bool
are_apart f g = digits_apart f.least f.greatest g.least g.greatest

abbrev begin_apart : Row → Row → Bool
begin_apart r s = not (begins r.ai s.ai || begins s.ai r.ai)

-- the AIs of a family are apart, and so are those of each two families
abbrev pub families_apart : List Family → Bool
families_apart [] = true
families_apart (f ∷ fs) = none_begins_another (rows_of f) && (list_all (are_apart f) fs && families_apart fs)

apart_from : (f : Family) (r : Row) (gs : List Family) → LiesIn f.least f.greatest r.ai → list_all (are_apart f) gs ≡ true
    → list_all (begin_apart r) (flat_map rows_of gs) ≡ true
apart_from f r [] lies e = refl
apart_from f r (g ∷ gs) lies e =
    let q = and_parts (are_apart f g) (list_all (are_apart f) gs) e in
    all_append (begin_apart r) (rows_of g) (flat_map rows_of gs)
    (all_map (begin_apart r) (λ ai. record { ai = ai; parts = g.parts; predefined = g.predefined; profile = g.profile }) (ais g.least g.greatest)
    (all_ais (λ ai. not (begins r.ai ai || begins ai r.ai)) g.least g.greatest
    (λ ai in_g. differ f.least f.greatest g.least g.greatest r.ai ai q.0 lies in_g)))
    (apart_from f r gs lies q.1)

none_append : (xs ys : List Row) → none_begins_another xs ≡ true → none_begins_another ys ≡ true
    → list_all (λ r. list_all (begin_apart r) ys) xs ≡ true → none_begins_another (xs ++ ys) ≡ true
none_append [] ys h k e = k
none_append (r ∷ xs) ys h k e =
    let p = and_parts (list_all (begin_apart r) xs) (none_begins_another xs) h in
    let q = and_parts (list_all (begin_apart r) ys) (list_all (λ s. list_all (begin_apart s) ys) xs) e in
    and_from (list_all (begin_apart r) (xs ++ ys)) (none_begins_another (xs ++ ys)) (all_append (begin_apart r) xs ys p.0 q.0)
    (none_append xs ys p.1 k q.1)

pub rows_apart : (fs : List Family) → families_apart fs ≡ true → none_begins_another (flat_map rows_of fs) ≡ true
rows_apart [] e = refl
rows_apart (f ∷ fs) e =
    let p = and_parts (none_begins_another (rows_of f)) (list_all (are_apart f) fs && families_apart fs) e in
    let q = and_parts (list_all (are_apart f) fs) (families_apart fs) p.1 in
    none_append (rows_of f) (flat_map rows_of fs) p.0 (rows_apart fs q.1)
    (all_map (λ r. list_all (begin_apart r) (flat_map rows_of fs)) (λ ai. record { ai = ai; parts = f.parts; predefined = f.predefined; profile = f.profile })
    (ais f.least f.greatest)
    (all_ais (λ ai. list_all (begin_apart (record { ai = ai; parts = f.parts; predefined = f.predefined; profile = f.profile })) (flat_map rows_of fs)) f.least f.greatest
    (λ ai lies. apart_from f (record { ai = ai; parts = f.parts; predefined = f.predefined; profile = f.profile }) fs lies q.0)))
