-- The families of AIs by their first two digits.
use Rattle.std.proofs.Common.{◌≡◌, ℕ, zero, suc, ◌+◌, ◌*◌, ◌<◌, ◌≤◌, Bool, true, false, leb, not, ◌&&◌, List, [], ◌∷◌, ◌++◌, cond, map, length, take, drop, get_or, Option, None, refl, sym, ap, subst, ◌∙◌, arith, inl, inr, length-append}
use Rattle.std.specs.Prelude.{find, flat_map, filter, nat_lt}
use Rattle.std.proofs.lemmas.List.{append-nil}
use Rattle.std.specs.List.{list_all}
use Rattle.std.proofs.lemmas.Bool.{cases_Bool, and_parts, and_from, leb-true, not-true, both_ways}
use Rattle.element_core.specs.declared.family.AiFamily.{AiFamily}
use Rattle.element_core.specs.declared.first_digits.TheConstants.{STARTS, ENDS}
use Rattle.element_core.specs.Table.{Family, Row, rows_of, families, first_families, last_families, every_row, begins, row_at}
use Rattle.element_core.specs.inner.Table.{is_of_digits}
use Rattle.element_core.specs.Elements.{is_digit}
use Rattle.element_core.specs.inner.Families.{families_from, family_of, has_first_two, is_in_family, row_by, row_in}
use Rattle.element_core.proofs.TableLaws.{each_is_of_digits}
use Rattle.element_core.proofs.Look.{all_at, begins-split, row_is}
use Rattle.element_core.proofs.FamilyLemmas.{or_else, find-append, find-map, find-ais, row_by_is}
use Rattle.element_core.proofs.PairLemmas.{seen}

-- ---- a text is in no family of other first digits

short_front : (p q r : Bool) → (p && (q && true)) ≡ false → (p && (q && r)) ≡ false
short_front true true r h = absurd cc
short_front true false r h = refl
short_front false q r h = refl

other_digits : (l g t : List ℕ) (a b : ℕ) → is_in_family (take 2 l) (take 2 g) (a ∷ b ∷ []) ≡ false → is_in_family l g (a ∷ b ∷ t) ≡ false
other_digits [] g t a b h = h
other_digits (x ∷ []) [] t a b h = refl
other_digits (x ∷ []) (z ∷ g) t a b h = h
other_digits (x ∷ y ∷ l) [] t a b h = refl
other_digits (x ∷ y ∷ l) (z ∷ []) t a b h = h
other_digits (x ∷ y ∷ l) (z ∷ w ∷ g) t a b h = short_front (leb x a && leb a z) (leb y b && leb b w) (is_in_family l g t) h

no_row : (f : Family) (t : List ℕ) (a b : ℕ) → has_first_two a b f ≡ false → find (λ row. begins row.ai (a ∷ b ∷ t)) (rows_of f) ≡ None
no_row f t a b h =
    find-map (λ row. begins row.ai (a ∷ b ∷ t)) (row_in f) (Rattle.element_core.specs.Table.ais f.least f.greatest)
    ∙ rw (find-ais f.least f.greatest (a ∷ b ∷ t), other_digits f.least f.greatest t a b h) refl

-- so those of these first digits are enough
rows_kept : (fs : List Family) (t : List ℕ) (a b : ℕ) → find (λ row. begins row.ai (a ∷ b ∷ t)) (flat_map rows_of (filter (has_first_two a b) fs))
    ≡ find (λ row. begins row.ai (a ∷ b ∷ t)) (flat_map rows_of fs)
rows_kept [] t a b = refl
rows_kept (f ∷ fs) t a b =
    let p : Row → Bool = λ row. begins row.ai (a ∷ b ∷ t) in
    let more = rows_kept fs t a b in
    let all = find-append p (rows_of f) (flat_map rows_of fs) in
    elim (cases_Bool (has_first_two a b f)) [
      | inl here ↦ rw here (find-append p (rows_of f) (flat_map rows_of (filter (has_first_two a b) fs)) ∙ ap (or_else (find p (rows_of f))) more ∙ sym all)
      | inr here ↦ rw here (more ∙ sym (all ∙ ap (λ (o : Option Row). or_else o (find p (flat_map rows_of fs))) (no_row f t a b here)))
    ]

-- the row of a text among the families of its first two digits
row_by_digits : (fs : List AiFamily) (t : List ℕ) (a b : ℕ) → map family_of fs ≡ filter (has_first_two a b) families → row_by (a ∷ b ∷ t) fs
    ≡ row_at (a ∷ b ∷ t)
unfolding every_row
row_by_digits fs t a b e =
    row_by_is fs (a ∷ b ∷ t)
    ∙ ap (λ (gs : List Family). find (λ row. begins row.ai (a ∷ b ∷ t)) (flat_map rows_of gs)) e
    ∙ rows_kept families t a b

pub row_by_first_two : (fs : List AiFamily) (text : List ℕ) → 2 ≤ length text → map family_of fs
    ≡ filter (has_first_two (get_or text 0 0) (get_or text 1 0)) families → row_by text fs ≡ row_at text
row_by_first_two fs [] two e = absurd (omega arith)
row_by_first_two fs (a ∷ []) two e = absurd (omega arith)
row_by_first_two fs (a ∷ b ∷ t) two e = row_by_digits fs t a b e

-- a text of less than two bytes begins with no AI
pub too_short : (text : List ℕ) → length text < 2 → row_at text ≡ None
too_short text short =
    elim (seen (row_at text)) [
      | inl none ↦ none
      | inr found ↦
          let r = row_is found.0 text found.1 in
          let digits = and_parts (leb 2 (length found.0.ai)) (list_all is_digit found.0.ai) (all_at is_of_digits every_row found.0 r.0 each_is_of_digits) in
          let two = leb-true 2 (length found.0.ai) digits.0 in
          absurd (omega (arith, ap length (begins-split found.0.ai text r.1), length-append found.0.ai (drop (length found.0.ai) text)))
    ]

-- ---- where the families of two digits stand in the table

-- those that pass stand from the first of these places up to before the second, and no others there
abbrev stand_between : (Family → Bool) → ℕ → ℕ → List Family → Bool
stand_between p zero zero [] = true
stand_between p zero zero (f ∷ fs) = not (p f) && stand_between p 0 0 fs
stand_between p zero (suc e) [] = false
stand_between p zero (suc e) (f ∷ fs) = p f && stand_between p 0 e fs
stand_between p (suc s) zero fs = false
stand_between p (suc s) (suc e) [] = false
stand_between p (suc s) (suc e) (f ∷ fs) = not (p f) && stand_between p s e fs

pub record AreThere (p : Family → Bool) (s e : ℕ) (fs : List Family) : Type 0 where
  pub rising : s ≤ e
  pub within : e ≤ length fs
  pub these : (n : ℕ) → s + n ≡ e → take n (drop s fs) ≡ filter p fs

are_there : (p : Family → Bool) (s e : ℕ) (fs : List Family) → stand_between p s e fs ≡ true → AreThere p s e fs
are_there p zero zero [] h = record { rising = omega arith; within = omega arith; these = λ n k. rw (none_left n k) refl }
  where
    none_left : (n : ℕ) → 0 + n ≡ 0 → n ≡ 0
    none_left n k = omega arith
are_there p zero zero (f ∷ fs) h =
    let q = and_parts (not (p f)) (stand_between p 0 0 fs) h in
    let more = are_there p 0 0 fs q.1 in
    record {
      rising = omega arith;
      within = omega arith;
      these = λ n k. (let z : n ≡ 0 = omega arith in rw (z, not-true (p f) q.0) (more.these 0 (omega arith)));
    }
are_there p zero (suc e) [] h = absurd cc
are_there p zero (suc e) (f ∷ fs) h =
    let q = and_parts (p f) (stand_between p 0 e fs) h in
    let more = are_there p 0 e fs q.1 in
    let within = more.within in
    record {
      rising = omega arith;
      within = omega arith;
      these = λ n k. (let z : n ≡ suc e = omega arith in rw (z, q.0) (ap (λ (gs : List Family). f ∷ gs) (more.these e (omega arith))));
    }
are_there p (suc s) zero fs h = absurd cc
are_there p (suc s) (suc e) [] h = absurd cc
are_there p (suc s) (suc e) (f ∷ fs) h =
    let q = and_parts (not (p f)) (stand_between p s e fs) h in
    let more = are_there p s e fs q.1 in
    let within = more.within in
    let rising = more.rising in
    record {
      rising = omega arith;
      within = omega arith;
      these = λ n k. (let z : s + n ≡ e = omega arith in rw (not-true (p f) q.0) (more.these n z));
    }

abbrev all_below : (ℕ → Bool) → ℕ → Bool
all_below p zero = true
all_below p (suc n) = p n && all_below p n

all_below-at : (p : ℕ → Bool) (n i : ℕ) → all_below p n ≡ true → i < n → p i ≡ true
all_below-at p zero i h lt = absurd (omega arith)
all_below-at p (suc n) i h lt =
    let k = and_parts (p n) (all_below p n) h in
    elim (Rattle.std.proofs.lemmas.Bool.cases_eq i n) [
      | inl is ↦ ap p is ∙ k.0
      | inr ne ↦ all_below-at p n i k.1 (omega arith)
    ]

abbrev place_test : ℕ → ℕ → Bool
place_test a b =
    stand_between (has_first_two (a + 48) (b + 48)) (get_or STARTS (10 * a + b) 0) (get_or ENDS (10 * a + b) 0) (families_from (a + 48))

places_tested : all_below (λ a. all_below (place_test a) 10) 10 ≡ true
unfolding families first_families last_families
places_tested = refl

places : (a b : ℕ) → a < 10 → b < 10
    → AreThere (has_first_two (a + 48) (b + 48)) (get_or STARTS (10 * a + b) 0) (get_or ENDS (10 * a + b) 0) (families_from (a + 48))
places a b la lb = are_there (has_first_two (a + 48) (b + 48)) (get_or STARTS (10 * a + b) 0) (get_or ENDS (10 * a + b) 0) (families_from (a + 48))
    (all_below-at (place_test a) 10 b (all_below-at (λ x. all_below (place_test x) 10) 10 a places_tested la) lb)

-- the same, as the code finds them
pub places_as : (first second number s e a b : ℕ) → a < 10 → b < 10 → a + 48 ≡ first → b + 48 ≡ second → 10 * a + b ≡ number → get_or STARTS number 0 ≡ s
    → get_or ENDS number 0 ≡ e → AreThere (has_first_two first second) s e (families_from first)
places_as first second number s e a b la lb first_is second_is number_is s_is e_is =
    subst (λ (x : ℕ). AreThere (has_first_two x second) s e (families_from x)) first_is
    (subst (λ (x : ℕ). AreThere (has_first_two (a + 48) x) s e (families_from (a + 48))) second_is
    (subst (λ (x : ℕ). AreThere (has_first_two (a + 48) (b + 48)) s x (families_from (a + 48))) e_is
    (subst (λ (x : ℕ). AreThere (has_first_two (a + 48) (b + 48)) x (get_or ENDS number 0) (families_from (a + 48))) s_is
    (subst (λ (x : ℕ). AreThere (has_first_two (a + 48) (b + 48)) (get_or STARTS x 0) (get_or ENDS x 0) (families_from (a + 48))) number_is (places a b la lb)))))

-- ---- the other part has none of this first digit

filter_empty : (p : Family → Bool) (fs : List Family) → list_all (λ f. not (p f)) fs ≡ true → filter p fs ≡ []
filter_empty p [] h = refl
filter_empty p (f ∷ fs) h =
    let q = and_parts (not (p f)) (list_all (λ g. not (p g)) fs) h in
    rw (not-true (p f) q.0) (filter_empty p fs q.1)

filter_both : (p : Family → Bool) (xs ys : List Family) → filter p (xs ++ ys) ≡ filter p xs ++ filter p ys
filter_both p [] ys = refl
filter_both p (x ∷ xs) ys =
    elim (cases_Bool (p x)) [
      | inl here ↦ rw here (ap (λ (gs : List Family). x ∷ gs) (filter_both p xs ys))
      | inr other ↦ rw other (filter_both p xs ys)
    ]

abbrev part : Bool → List Family
part early = cond early first_families last_families

abbrev other_part : Bool → List Family
other_part early = cond early last_families first_families

in_part : (early : Bool) (p : Family → Bool) → list_all (λ f. not (p f)) (other_part early) ≡ true → filter p (part early) ≡ filter p families
unfolding families
in_part true p none = sym (filter_both p first_families last_families ∙ ap (λ gs. filter p first_families ++ gs) (filter_empty p last_families none)
    ∙ append-nil (filter p first_families))
in_part false p none = sym (filter_both p first_families last_families ∙ ap (λ gs. gs ++ filter p last_families) (filter_empty p first_families none))

abbrev none_test : ℕ → ℕ → Bool
none_test a b = list_all (λ f. not (has_first_two (a + 48) (b + 48) f)) (other_part (nat_lt (a + 48) 53))

none_tested : all_below (λ a. all_below (none_test a) 10) 10 ≡ true
unfolding families first_families last_families
none_tested = refl

pub in_part_as : (first second a b : ℕ) → a < 10 → b < 10 → a + 48 ≡ first → b + 48 ≡ second
    → filter (has_first_two first second) (families_from first) ≡ filter (has_first_two first second) families
in_part_as first second a b la lb first_is second_is =
    subst (λ (x : ℕ). filter (has_first_two x second) (families_from x) ≡ filter (has_first_two x second) families) first_is
    (subst (λ (y : ℕ). filter (has_first_two (a + 48) y) (families_from (a + 48)) ≡ filter (has_first_two (a + 48) y) families) second_is
    (in_part (nat_lt (a + 48) 53) (has_first_two (a + 48) (b + 48))
    (all_below-at (none_test a) 10 b (all_below-at (λ x. all_below (none_test x) 10) 10 a none_tested la) lb)))

-- ---- other bytes than digits

abbrev digits_alone : List ℕ → List ℕ → Bool
digits_alone (l ∷ m ∷ []) (g ∷ h ∷ []) = (leb 48 l && leb g 57) && (leb 48 m && leb h 57)
digits_alone _ _ = false

digits_only : (l g : List ℕ) (a b : ℕ) → digits_alone l g ≡ true → is_in_family l g (a ∷ b ∷ []) ≡ true → (48 ≤ a × (a ≤ 57)) × (48 ≤ b × (b ≤ 57))
digits_only (l ∷ m ∷ []) (g ∷ h ∷ []) a b d i =
    let p = and_parts (leb 48 l && leb g 57) (leb 48 m && leb h 57) d in
    let q = and_parts (leb 48 l) (leb g 57) p.0 in
    let r = and_parts (leb 48 m) (leb h 57) p.1 in
    let u = and_parts (leb l a && leb a g) ((leb m b && leb b h) && true) i in
    let v = and_parts (leb l a) (leb a g) u.0 in
    let w = and_parts (leb m b && leb b h) true u.1 in
    let x = and_parts (leb m b) (leb b h) w.0 in
    let p1 = leb-true 48 l q.0 in
    let p2 = leb-true g 57 q.1 in
    let p3 = leb-true 48 m r.0 in
    let p4 = leb-true h 57 r.1 in
    let p5 = leb-true l a v.0 in
    let p6 = leb-true a g v.1 in
    let p7 = leb-true m b x.0 in
    let p8 = leb-true b h x.1 in
    ((omega arith, omega arith), (omega arith, omega arith))
digits_only [] g a b d i = absurd (let k : false ≡ true = d in cc)
digits_only (l ∷ []) g a b d i = absurd (let k : false ≡ true = d in cc)
digits_only (l ∷ m ∷ n ∷ ls) g a b d i = absurd (let k : false ≡ true = d in cc)
digits_only (l ∷ m ∷ []) [] a b d i = absurd (let k : false ≡ true = d in cc)
digits_only (l ∷ m ∷ []) (g ∷ []) a b d i = absurd (let k : false ≡ true = d in cc)
digits_only (l ∷ m ∷ []) (g ∷ h ∷ k ∷ gs) a b d i = absurd (let k : false ≡ true = d in cc)

each_of_digits : list_all (λ f. digits_alone (take 2 f.least) (take 2 f.greatest)) families ≡ true
unfolding families first_families last_families
each_of_digits = refl

none_of : (a b : ℕ) → (((48 ≤ a × (a ≤ 57)) × (48 ≤ b × (b ≤ 57))) → ⊥) → (fs : List Family)
    → list_all (λ f. digits_alone (take 2 f.least) (take 2 f.greatest)) fs ≡ true → filter (has_first_two a b) fs ≡ []
none_of a b other [] h = refl
none_of a b other (f ∷ fs) h =
    let q = and_parts (digits_alone (take 2 f.least) (take 2 f.greatest)) (list_all (λ g. digits_alone (take 2 g.least) (take 2 g.greatest)) fs) h in
    elim (cases_Bool (has_first_two a b f)) [
      | inl here ↦ absurd (other (digits_only (take 2 f.least) (take 2 f.greatest) a b q.0 here))
      | inr here ↦ rw here (none_of a b other fs q.1)
    ]

-- no family has other first bytes than digits
pub no_digits : (a b : ℕ) → (((48 ≤ a × (a ≤ 57)) × (48 ≤ b × (b ≤ 57))) → ⊥) → filter (has_first_two a b) families ≡ []
no_digits a b other = none_of a b other families each_of_digits
