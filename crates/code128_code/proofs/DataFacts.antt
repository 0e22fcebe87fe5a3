-- The data values of an element string: few, and each of a data character.
use Rattle.std.proofs.Common.{◌≡◌, ℕ, zero, suc, ◌-◌, ◌≤◌, Bool, true, false, eqb, leb, ◌&&◌, ◌||◌, List, [], ◌∷◌, length, refl, sym, subst, arith, inl, inr, drop, take}
use Rattle.std.specs.Int.{is_in_range}
use Rattle.std.specs.List.{list_all}
use Rattle.std.proofs.lemmas.Bool.{cases_Bool, and_parts, or_cases, eqb-true, leb-true, le-leb, both_ways}
use Rattle.std.proofs.lemmas.List.{length-drop, take_all}
use Rattle.std.proofs.Math.Bool.{or-true}
use Rattle.element_core.specs.Elements.{begins_with_digits, is_character, is_digit, is_printable, is_text_byte, is_value_byte}
use Rattle.code128_code.specs.Characters.{fnc1}
use Rattle.code128_code.specs.Coding.{data_values, digits_ahead, is_coded_byte, pair}
use Rattle.code128_code.specs.inner.Steps.{coded_on, has_even_run}
use Rattle.code128_code.specs.Symbols.{AreValues}
use Rattle.code128_code.proofs.CodedFacts.{digit_is, on_is_short, run_is, two}
use Rattle.code128_code.proofs.RunsAreCoded.{coded_is}

-- what is left from a place on
pub rest_of : (xs : List ℕ) (n : ℕ) → take (length xs - n) (drop n xs) ≡ drop n xs
rest_of xs n = take_all (length xs - n) (drop n xs) (omega (arith, length-drop n xs))

pub list_all-drop : (p : ℕ → Bool) (n : ℕ) (xs : List ℕ) → list_all p xs ≡ true → list_all p (drop n xs) ≡ true
list_all-drop p zero xs h = h
list_all-drop p (suc n) [] h = h
list_all-drop p (suc n) (x ∷ xs) h = list_all-drop p n xs (and_parts (p x) (list_all p xs) h).1

-- the data values of a text that begins with two digits
pub few_values : (text : List ℕ) → length text ≤ 48 → 2 ≤ digits_ahead text → length (fnc1 ∷ coded_on true text) ≤ 49
few_values text few h = let short = on_is_short text h in omega arith

letter_valid : (b : ℕ) → is_coded_byte b ≡ true → eqb b 29 ≡ false → b - 32 ≤ 102
letter_valid b h apart =
    elim (or_cases (eqb b 29) (leb 32 b && leb b 127) h) [
      | inl here ↦ absurd (both_ways (eqb b 29) apart here)
      | inr here ↦ let high = leb-true b 127 (and_parts (leb 32 b) (leb b 127) here).1 in omega arith
    ]

pair_valid : (a b : ℕ) → is_digit a ≡ true → is_digit b ≡ true → pair a b ≤ 102
pair_valid a b h k =
    let x = digit_is a h in let y = digit_is b k in
    let x1 = x.1 in let y1 = y.1 in omega arith

-- each is a data value
pub coded_valid : (text : List ℕ) (in_c : Bool) → list_all is_coded_byte text ≡ true → AreValues (coded_on in_c text)
coded_valid [] true h = tt
coded_valid [] false h = tt
coded_valid (b ∷ []) true h =
    elim (cases_Bool (eqb b 29)) [
      | inl here ↦ rw here (omega arith, tt)
      | inr here ↦ rw here (omega arith, (letter_valid b (and_parts _ _ h).0 here, tt))
    ]
coded_valid (b ∷ []) false h =
    elim (cases_Bool (eqb b 29)) [
      | inl here ↦ rw here (omega arith, tt)
      | inr here ↦ rw here (letter_valid b (and_parts _ _ h).0 here, tt)
    ]
coded_valid (a ∷ b ∷ text) true h =
    let p = and_parts (is_coded_byte a) (list_all is_coded_byte (b ∷ text)) h in
    elim (cases_Bool (eqb a 29)) [
      | inl here ↦ rw here (omega arith, coded_valid (b ∷ text) true p.1)
      | inr here ↦ elim (cases_Bool (leb 2 (digits_ahead (a ∷ b ∷ text)))) [
        | inl enough ↦
            let d = two a b text (leb-true 2 _ enough) in
            rw (here, enough) (pair_valid a b d.0 d.1, coded_valid text true (and_parts _ _ p.1).1)
        | inr few ↦ rw (here, few) (omega arith, (letter_valid a p.0 here, coded_valid (b ∷ text) false p.1))
      ]
    ]
coded_valid (a ∷ b ∷ text) false h =
    let p = and_parts (is_coded_byte a) (list_all is_coded_byte (b ∷ text)) h in
    elim (cases_Bool (eqb a 29)) [
      | inl here ↦ rw here (omega arith, coded_valid (b ∷ text) false p.1)
      | inr here ↦ elim (cases_Bool (has_even_run (a ∷ b ∷ text))) [
        | inl run ↦
            let four = run_is a b text run in
            let d = two a b text (omega arith) in
            rw (here, run) (omega arith, (pair_valid a b d.0 d.1, coded_valid text true (and_parts _ _ p.1).1))
        | inr none ↦ rw (here, none) (letter_valid a p.0 here, coded_valid (b ∷ text) false p.1)
      ]
    ]

pub data_valid : (text : List ℕ) → list_all is_coded_byte text ≡ true → AreValues (data_values text)
data_valid text h = (omega arith, subst AreValues (sym (coded_is text)) (coded_valid text true h))

-- the characters of an element string stand in code set B
between_coded : (m n b : ℕ) → 32 ≤ m → n ≤ 127 → is_in_range m n b ≡ true → (leb 32 b && leb b 127) ≡ true
between_coded m n b low high h =
    let p = and_parts (leb m b) (leb b n) h in
    let from = leb-true m b p.0 in let to = leb-true b n p.1 in rw (le-leb 32 b (omega arith), le-leb b 127 (omega arith)) refl

character_coded : (b : ℕ) → is_character b ≡ true → (leb 32 b && leb b 127) ≡ true
character_coded b h =
    elim (or_cases (is_in_range 33 34 b || is_in_range 37 63 b || is_in_range 65 90 b || eqb b 95) (is_in_range 97 122 b) h) [
      | inl h4 ↦ elim (or_cases (is_in_range 33 34 b || is_in_range 37 63 b || is_in_range 65 90 b) (eqb b 95) h4) [
        | inl h3 ↦ elim (or_cases (is_in_range 33 34 b || is_in_range 37 63 b) (is_in_range 65 90 b) h3) [
          | inl h2 ↦ elim (or_cases (is_in_range 33 34 b) (is_in_range 37 63 b) h2) [
            | inl x ↦ between_coded 33 34 b (omega arith) (omega arith) x
            | inr x ↦ between_coded 37 63 b (omega arith) (omega arith) x
          ]
          | inr x ↦ between_coded 65 90 b (omega arith) (omega arith) x
        ]
        | inr x ↦ let e = eqb-true b 95 x in rw e refl
      ]
      | inr x ↦ between_coded 97 122 b (omega arith) (omega arith) x
    ]

value_byte_coded : (b : ℕ) → is_value_byte b ≡ true → (leb 32 b && leb b 127) ≡ true
value_byte_coded b h =
    elim (or_cases (is_character b) (eqb b 35) h) [
      | inl x ↦ character_coded b x
      | inr x ↦ let e = eqb-true b 35 x in rw e refl
    ]

byte_coded : (b : ℕ) → is_text_byte b ≡ true → is_coded_byte b ≡ true
byte_coded b h =
    elim (or_cases (eqb b 29) (is_value_byte b) h) [
      | inl x ↦ rw x refl
      | inr x ↦ rw (value_byte_coded b x) (or-true (eqb b 29))
    ]

bytes_coded : (text : List ℕ) → list_all is_text_byte text ≡ true → list_all is_coded_byte text ≡ true
bytes_coded [] h = refl
bytes_coded (b ∷ text) h =
    let p = and_parts (is_text_byte b) (list_all is_text_byte text) h in rw (byte_coded b p.0) (bytes_coded text p.1)

pub printable_coded : (text : List ℕ) → is_printable text ≡ true → list_all is_coded_byte text ≡ true
printable_coded text h = bytes_coded text (and_parts (list_all is_text_byte text) (begins_with_digits text) h).0
