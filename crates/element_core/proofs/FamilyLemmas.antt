-- The family of an AI is that of its row.
use Rattle.std.proofs.Common.{◌≡◌, ℕ, zero, suc, ◌+◌, ◌-◌, ◌<◌, ◌≤◌, Bool, true, false, cond, eqb, leb, ltb, ◌&&◌, ◌||◌, List, [], ◌∷◌, ◌++◌, map, length, take, drop, get_or, Option, Some, None, refl, sym, ap, ◌∙◌, arith, inl, inr, add-zero, length-drop, get_or-drop}
use Rattle.std.specs.Prelude.{find, flat_map, option_map, ◌⊎◌}
use Rattle.std.specs.List.{list_any, range_with_len}
use Rattle.std.proofs.lemmas.Bool.{cases_Bool, eqb-true, cases_lt, le-leb, lt-leb, lt-ltb, le-ltb, ne_eqb, eq-eqb, and_parts, leb-true}
use Rattle.std.proofs.lemmas.Bool.Decides.{nat_tests}
use Rattle.std.proofs.lemmas.List.{length-take-le}
use Rattle.element_core.specs.declared.family.AiFamily.{AiFamily}
use Rattle.element_core.specs.Table.{Row, ais, rows_of, every_row, begins, row_at}
use Rattle.element_core.specs.inner.Table.{has_few_parts, is_short_ai}
use Rattle.element_core.proofs.TableLaws.{each_has_few_parts, each_is_short}
use Rattle.element_core.proofs.Look.{all_at, row_is}
use Rattle.element_core.specs.inner.Families.{family_of, is_in_family, row_by, row_in, row_with}

abbrev pub or_else : {X : Type 0} → Option X → Option X → Option X
or_else (Some x) o = Some x
or_else None o = o

pub find-append : {X : Type 0} (p : X → Bool) (xs ys : List X) → find p (xs ++ ys) ≡ or_else (find p xs) (find p ys)
find-append p [] ys = refl
find-append p (x ∷ xs) ys =
    elim (p x) as (λ t. cond t (Some x) (find p (xs ++ ys)) ≡ or_else (cond t (Some x) (find p xs)) (find p ys)) [
      | true ↦ refl
      | false ↦ find-append p xs ys
    ]

pub find-map : {X Y : Type 0} (p : Y → Bool) (f : X → Y) (xs : List X) → find p (map f xs) ≡ option_map f (find (λ x. p (f x)) xs)
find-map p f [] = refl
find-map p f (x ∷ xs) =
    elim (p (f x)) as (λ t. cond t (Some (f x)) (find p (map f xs)) ≡ option_map f (cond t (Some x) (find (λ y. p (f y)) xs))) [
      | true ↦ refl
      | false ↦ find-map p f xs
    ]

-- one after another, from the first on
from_any : (n a b : ℕ) → list_any (λ d. eqb d b) (range_with_len a n) ≡ (leb a b && ltb b (a + n))
from_any zero a b =
    elim (cases_lt b a) [
      | inl lt ↦ rw (lt-leb a b lt) refl
      | inr le ↦ rw (le-leb a b le, le-ltb b (a + 0) (omega arith)) refl
    ]
from_any (suc n) a b =
    let more = from_any n (a + 1) b in
    elim (cases_lt b a) [
      | inl lt ↦ rw (ne_eqb a b (omega arith), more, lt-leb a b lt, lt-leb (a + 1) b (omega arith)) refl
      | inr le ↦ elim (cases_lt a b) [
        | inl lt ↦ rw (ne_eqb a b (omega arith), more, le-leb a b le, le-leb (a + 1) b (omega arith))
            (ap (λ (m : ℕ). ltb b m) (let e : a + 1 + n ≡ a + suc n = omega arith in e))
        | inr ge ↦ rw (eq-eqb a b (omega arith), le-leb a b le, lt-ltb b (a + suc n) (omega arith)) refl
      ]
    ]

digit_any : (a z b : ℕ) → list_any (λ d. eqb d b) (range_with_len a (z + 1 - a)) ≡ (leb a b && leb b z)
digit_any a z b = from_any (z + 1 - a) a b ∙ grind (arith, nat_tests)

-- a text whose first byte is d, and goes on with text, begins with what of the AIs
find-cons : (d : ℕ) (tails : List (List ℕ)) (b : ℕ) (text : List ℕ) → find (λ ai. begins ai (b ∷ text)) (map (λ ai. d ∷ ai) tails)
    ≡ cond (eqb d b) (option_map (λ ai. b ∷ ai) (find (λ ai. begins ai text) tails)) None
find-cons d tails b text =
    find-map (λ ai. begins ai (b ∷ text)) (λ ai. d ∷ ai) tails ∙ elim (cases_Bool (eqb d b)) [
      | inl here ↦ rw (here, eqb-true d b here) refl
      | inr here ↦ rw (here, find_none tails) refl
    ]
  where
    find_none : (tails : List (List ℕ)) → find (λ ai. false) tails ≡ None
    find_none [] = refl
    find_none (a ∷ tails) = find_none tails

find-places : (ds : List ℕ) (tails : List (List ℕ)) (b : ℕ) (text : List ℕ) → find (λ ai. begins ai (b ∷ text)) (flat_map (λ d. map (λ ai. d ∷ ai) tails) ds)
    ≡ cond (list_any (λ d. eqb d b) ds) (option_map (λ ai. b ∷ ai) (find (λ ai. begins ai text) tails)) None
find-places [] tails b text = refl
find-places (d ∷ ds) tails b text =
    let first = find-cons d tails b text in
    let more = find-places ds tails b text in
    let o = option_map (λ ai. b ∷ ai) (find (λ ai. begins ai text) tails) in
    find-append (λ ai. begins ai (b ∷ text)) (map (λ ai. d ∷ ai) tails) (flat_map (λ e. map (λ ai. e ∷ ai) tails) ds)
    ∙ rw (first, more) (joined (eqb d b) (list_any (λ e. eqb e b) ds) o)
  where
    joined : (p q : Bool) (o : Option (List ℕ)) → or_else (cond p o None) (cond q o None) ≡ cond (p || q) o None
    joined true q (Some x) = refl
    joined true true None = refl
    joined true false None = refl
    joined false q o = refl

find-no_text : (ds : List ℕ) (tails : List (List ℕ)) → find (λ ai. begins ai []) (flat_map (λ d. map (λ ai. d ∷ ai) tails) ds) ≡ None
find-no_text [] tails = refl
find-no_text (d ∷ ds) tails = find-append (λ ai. begins ai []) (map (λ ai. d ∷ ai) tails) (flat_map (λ e. map (λ ai. e ∷ ai) tails) ds)
    ∙ rw (none tails) (find-no_text ds tails)
  where
    none : (tails : List (List ℕ)) → find (λ ai. begins ai []) (map (λ ai. d ∷ ai) tails) ≡ None
    none [] = refl
    none (a ∷ tails) = none tails

pub find-ais : (least greatest text : List ℕ) → find (λ ai. begins ai text) (ais least greatest)
    ≡ cond (is_in_family least greatest text) (Some (take (length least) text)) None
find-ais [] greatest text = refl
find-ais (a ∷ least) [] text = refl
find-ais (a ∷ least) (z ∷ greatest) [] = find-no_text (range_with_len a (z + 1 - a)) (ais least greatest)
find-ais (a ∷ least) (z ∷ greatest) (b ∷ text) =
    find-places (range_with_len a (z + 1 - a)) (ais least greatest) b text
    ∙ rw (digit_any a z b, find-ais least greatest text) (joined (leb a b && leb b z) (is_in_family least greatest text) (take (length least) text))
  where
    joined : (p q : Bool) (ai : List ℕ) → cond p (option_map (λ x. b ∷ x) (cond q (Some ai) None)) None ≡ cond (p && q) (Some (b ∷ ai)) None
    joined true true ai = refl
    joined true false ai = refl
    joined false q ai = refl

find-rows_of : (f : AiFamily) (text : List ℕ) → find (λ row. begins row.ai text) (rows_of (family_of f))
    ≡ cond (is_in_family f.least.now f.greatest.now text) (Some (row_with f text)) None
find-rows_of f text =
    find-map (λ row. begins row.ai text) (row_in (family_of f)) (ais f.least.now f.greatest.now)
    ∙ rw (find-ais f.least.now f.greatest.now text) (mapped (is_in_family f.least.now f.greatest.now text))
  where
    mapped : (p : Bool) → option_map (row_in (family_of f)) (cond p (Some (take (length f.least.now) text)) None) ≡ cond p (Some (row_with f text)) None
    mapped true = refl
    mapped false = refl

pub row_by_is : (fs : List AiFamily) (text : List ℕ) → row_by text fs ≡ find (λ row. begins row.ai text) (flat_map rows_of (map family_of fs))
row_by_is [] text = refl
row_by_is (f ∷ fs) text =
    sym (find-append (λ row. begins row.ai text) (rows_of (family_of f)) (flat_map rows_of (map family_of fs))
    ∙ rw (find-rows_of f text, ← row_by_is fs text) (joined (is_in_family f.least.now f.greatest.now text) (row_by text fs)))
  where
    joined : (p : Bool) (o : Option Row) → or_else (cond p (Some (row_with f text)) None) o ≡ cond p (Some (row_with f text)) o
    joined true o = refl
    joined false o = refl

-- ---- a text that is not in a family

pub not_in_family : (l g t : List ℕ) → 0 < length l → (length g ≡ 0) ⊎ ((length t ≡ 0) ⊎ ((get_or t 0 0 < get_or l 0 0) ⊎ (get_or g 0 0 < get_or t 0 0)))
    → is_in_family l g t ≡ false
not_in_family [] g t some why = absurd (omega arith)
not_in_family (a ∷ l) [] t some why = refl
not_in_family (a ∷ l) (z ∷ g) [] some why = refl
not_in_family (a ∷ l) (z ∷ g) (b ∷ t) some (inl e) = absurd (omega arith)
not_in_family (a ∷ l) (z ∷ g) (b ∷ t) some (inr (inl e)) = absurd (omega arith)
not_in_family (a ∷ l) (z ∷ g) (b ∷ t) some (inr (inr (inl lt))) = rw (lt-leb a b lt) refl
not_in_family (a ∷ l) (z ∷ g) (b ∷ t) some (inr (inr (inr lt))) = rw (lt-leb b z lt) (no_more (leb a b))
  where
    no_more : (p : Bool) → (p && false && is_in_family l g t) ≡ false
    no_more true = refl
    no_more false = refl

pub not_in_at : (l g t : List ℕ) (i : ℕ) → i < length l → (length g ≤ i) ⊎ ((length t ≤ i) ⊎ ((get_or t i 0 < get_or l i 0) ⊎ (get_or g i 0 < get_or t i 0)))
    → is_in_family (drop i l) (drop i g) (drop i t) ≡ false
not_in_at l g t i lt why =
    not_in_family (drop i l) (drop i g) (drop i t) (omega (arith, length-drop i l)) (elim why [
      | inl e ↦ inl (omega (arith, length-drop i g))
      | inr (inl e) ↦ inr (inl (omega (arith, length-drop i t)))
      | inr (inr (inl e)) ↦ inr (inr (inl (rw (get_or-drop i t 0 0, get_or-drop i l 0 0, add-zero i) e)))
      | inr (inr (inr e)) ↦ inr (inr (inr (rw (get_or-drop i t 0 0, get_or-drop i g 0 0, add-zero i) e)))
    ])

pub in_family_within : (l g t : List ℕ) → is_in_family l g t ≡ true → length l ≤ length t
in_family_within [] g t h = omega arith
in_family_within (a ∷ l) [] t h = absurd cc
in_family_within (a ∷ l) (z ∷ g) [] h = absurd cc
in_family_within (a ∷ l) (z ∷ g) (b ∷ t) h = omega (arith, in_family_within l g t (and_parts _ _ h).1)

-- the AIs of a family have at most four digits
pub family_short : (f : AiFamily) (text : List ℕ) → Some (row_with f text) ≡ row_at text → length f.least.now ≤ length text → length f.least.now ≤ 4
family_short f text e within =
    let row = row_with f text in
    let k = leb-true (length row.ai) 4 (all_at is_short_ai every_row row (row_is row text (sym e)).0 each_is_short) in
    omega (arith, length-take-le (length f.least.now) text within)

-- and its values five parts at most, and in the profile two
pub family_few : (f : AiFamily) (text : List ℕ) → Some (row_with f text) ≡ row_at text → length f.parts.now ≤ cond f.profile 2 5
family_few f text e =
    let row = row_with f text in
    leb-true (length row.parts) (cond f.profile 2 5) (all_at has_few_parts every_row row (row_is row text (sym e)).0 each_has_few_parts)
