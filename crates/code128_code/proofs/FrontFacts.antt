-- The values of the front of a text, and of the rest.
use Rattle.std.proofs.Common.{◌≡◌, ℕ, ◌+◌, ◌-◌, ◌<◌, ◌≤◌, Bool, true, false, leb, List, [], ◌∷◌, ◌++◌, length, refl, sym, ap, ◌∙◌, arith, inl, inr, append_assoc, drop, eq-eqb, get_or, ◌≢◌}
use Rattle.std.proofs.lemmas.Bool.{cases_Bool, and_parts, leb-false, leb-true, le-leb, lt-leb, ne_eqb}
use Rattle.element_core.specs.Elements.{is_digit}
use Rattle.code128_code.specs.Coding.{digits_ahead, pair}
use Rattle.code128_code.specs.inner.Steps.{begins_pair, change, coded_on, has_even_run}
use Rattle.code128_code.proofs.CodedFacts.{two}

-- one more value
pub one_more : (xs ys zs new : List ℕ) (v : ℕ) → new ≡ xs ++ v ∷ [] → zs ≡ v ∷ ys → new ++ ys ≡ xs ++ zs
one_more xs ys zs new v e f = ap (λ ws. ws ++ ys) e ∙ append_assoc xs (v ∷ []) ys ∙ ap (λ ws. xs ++ ws) (sym f)

-- a change of code set, and one more value
pub changed_more : (xs ys zs cs mid new : List ℕ) (v : ℕ) → mid ≡ xs ++ cs → new ≡ mid ++ v ∷ [] → zs ≡ cs ++ v ∷ ys → new ++ ys ≡ xs ++ zs
changed_more xs ys zs cs mid new v e f g = one_more mid ys (v ∷ ys) new v f refl
    ∙ (ap (λ ws. ws ++ v ∷ ys) e ∙ (append_assoc xs cs (v ∷ ys) ∙ ap (λ ws. xs ++ ws) (sym g)))

pub pair_ahead : (text : List ℕ) → 2 ≤ digits_ahead text → (2 ≤ length text) × (is_digit (get_or text 0 0) ≡ true) × (is_digit (get_or text 1 0) ≡ true)
pair_ahead [] h = absurd (omega arith)
pair_ahead (a ∷ []) h = absurd (elim (cases_Bool (is_digit a)) [
  | inl x ↦ let e : digits_ahead (a ∷ []) ≡ 1 = rw x refl in omega arith
  | inr x ↦ let e : digits_ahead (a ∷ []) ≡ 0 = rw x refl in omega arith
])
pair_ahead (a ∷ b ∷ text) h = let d = two a b text h in (omega arith, d.0, d.1)

pub ahead_pair : (text : List ℕ) → 2 ≤ length text → is_digit (get_or text 0 0) ≡ true → is_digit (get_or text 1 0) ≡ true → 2 ≤ digits_ahead text
ahead_pair [] h x y = absurd (omega arith)
ahead_pair (a ∷ []) h x y = absurd (omega arith)
ahead_pair (a ∷ b ∷ text) h x y = let e : digits_ahead (a ∷ b ∷ text) ≡ 1 + (1 + digits_ahead text) = rw (x, y) refl in omega arith

pub separator_coded : (in_c : Bool) (text : List ℕ) → 0 < length text → get_or text 0 0 ≡ 29 → coded_on in_c text ≡ 102 ∷ coded_on in_c (drop 1 text)
separator_coded in_c [] h e = absurd (omega arith)
separator_coded true (b ∷ []) h e = rw (eq-eqb b 29 e) refl
separator_coded false (b ∷ []) h e = rw (eq-eqb b 29 e) refl
separator_coded true (a ∷ b ∷ text) h e = rw (eq-eqb a 29 e) refl
separator_coded false (a ∷ b ∷ text) h e = rw (eq-eqb a 29 e) refl

pub pair_coded : (in_c : Bool) (text : List ℕ) → in_c ≡ true → get_or text 0 0 ≢ 29 → 2 ≤ digits_ahead text → coded_on in_c text
    ≡ pair (get_or text 0 0) (get_or text 1 0) ∷ coded_on in_c (drop 2 text)
pair_coded false text e ne h = cc
pair_coded true [] e ne h = absurd (omega arith)
pair_coded true (a ∷ []) e ne h = absurd (let p = (pair_ahead (a ∷ []) h).0 in omega arith)
pair_coded true (a ∷ b ∷ text) e ne h = rw (ne_eqb a 29 ne, le-leb 2 (digits_ahead (a ∷ b ∷ text)) h) refl

pub letter_coded_c : (in_c : Bool) (text : List ℕ) → in_c ≡ true → 0 < length text → get_or text 0 0 ≢ 29 → (2 ≤ digits_ahead text → ⊥) → coded_on in_c text
    ≡ 100 ∷ (get_or text 0 0 - 32) ∷ coded_on false (drop 1 text)
letter_coded_c false text e some ne few = cc
letter_coded_c true [] e some ne few = absurd (omega arith)
letter_coded_c true (a ∷ []) e some ne few = rw (ne_eqb a 29 ne) refl
letter_coded_c true (a ∷ b ∷ text) e some ne few =
    let test : leb 2 (digits_ahead (a ∷ b ∷ text)) ≡ false = lt-leb 2 (digits_ahead (a ∷ b ∷ text)) (omega arith) in
    rw (ne_eqb a 29 ne, test) refl

pub run_coded : (in_c : Bool) (text : List ℕ) → in_c ≡ false → get_or text 0 0 ≢ 29 → has_even_run text ≡ true → coded_on in_c text
    ≡ 99 ∷ pair (get_or text 0 0) (get_or text 1 0) ∷ coded_on true (drop 2 text)
run_coded true text e ne h = cc
run_coded false [] e ne h = cc
run_coded false (a ∷ []) e ne h = absurd (let p = leb-true 4 (digits_ahead (a ∷ [])) (and_parts _ _ h).0 in let q =
    (pair_ahead (a ∷ []) (omega arith)).0 in omega arith)
run_coded false (a ∷ b ∷ text) e ne h = rw (ne_eqb a 29 ne, h) refl

pub letter_coded_b : (in_c : Bool) (text : List ℕ) → in_c ≡ false → 0 < length text → get_or text 0 0 ≢ 29 → has_even_run text ≡ false → coded_on in_c text
    ≡ (get_or text 0 0 - 32) ∷ coded_on in_c (drop 1 text)
letter_coded_b true text e some ne h = cc
letter_coded_b false [] e some ne h = absurd (omega arith)
letter_coded_b false (a ∷ []) e some ne h = rw (ne_eqb a 29 ne) refl
letter_coded_b false (a ∷ b ∷ text) e some ne h = rw (ne_eqb a 29 ne, h) refl

-- the front of a text as two digits
pub pair_front : (in_c to_c now_c : Bool) (text : List ℕ) (v : ℕ) → to_c ≡ begins_pair in_c text → to_c ≡ true → now_c ≡ to_c → get_or text 0 0 ≢ 29 → v
    ≡ pair (get_or text 0 0) (get_or text 1 0)
    → coded_on in_c text ≡ change in_c to_c ++ v ∷ coded_on now_c (drop 2 text)
pair_front in_c false now_c text v is t same ne e = cc
pair_front in_c true false text v is t same ne e = cc
pair_front true true true text v is t same ne e = pair_coded true text refl ne (leb-true 2 (digits_ahead text) (sym is))
    ∙ ap (λ w. w ∷ coded_on true (drop 2 text)) (sym e)
pair_front false true true text v is t same ne e = run_coded false text refl ne (sym is) ∙ ap (λ w. 99 ∷ w ∷ coded_on true (drop 2 text)) (sym e)

-- and as one byte
pub letter_front : (in_c to_c now_c : Bool) (text : List ℕ) → to_c ≡ begins_pair in_c text → to_c ≡ false → now_c ≡ to_c → 0 < length text
    → get_or text 0 0 ≢ 29
    → coded_on in_c text ≡ change in_c to_c ++ (get_or text 0 0 - 32) ∷ coded_on now_c (drop 1 text)
letter_front in_c true now_c text is f same some ne = cc
letter_front in_c false true text is f same some ne = cc
letter_front true false false text is f same some ne = letter_coded_c true text refl some ne
    (λ h. let few = leb-false 2 (digits_ahead text) (sym is) in omega arith)
letter_front false false false text is f same some ne = letter_coded_b false text refl some ne (sym is)
