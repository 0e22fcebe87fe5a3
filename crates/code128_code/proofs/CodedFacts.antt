-- What is coded says its text, and is short.
use Rattle.std.proofs.Common.{◌≡◌, ℕ, ◌+◌, ◌-◌, ◌/◌, ◌%◌, ◌≤◌, Bool, true, false, eqb, leb, ◌&&◌, List, [], ◌∷◌, ◌++◌, length, Ok, refl, ap, ◌∙◌, arith, inl, inr}
use Rattle.std.specs.List.{list_all}
use Rattle.std.proofs.lemmas.Bool.{cases_Bool, and_parts, or_cases, eqb-true, leb-true, leb-false, le-leb, lt-ltb, both_ways}
use Rattle.element_core.specs.Elements.{is_digit}
use Rattle.code128_code.specs.declared.code_set.CodeSet.{CodeSet}
use Rattle.code128_code.specs.declared.code_set.CodeSet.TheVariants.{B, C}
use Rattle.code128_code.specs.declared.meanings.Meaning.TheVariants.{Byte, Digits}
use Rattle.code128_code.specs.Coding.{digits_ahead, is_coded_byte, pair}
use Rattle.code128_code.specs.inner.Steps.{coded_on, has_even_run}
use Rattle.code128_code.specs.Texts.{before, meaning, text_from, two_digits}
use Rattle.code128_code.proofs.ValuesSay.{plain_step}

abbrev pub set_by : Bool → CodeSet
set_by true = C
set_by false = B

say : (s : CodeSet) (v : ℕ) (values : List ℕ) (b : ℕ) (text : List ℕ) → meaning s v ≡ Byte b → text_from s values ≡ Ok text → text_from s (v ∷ values)
    ≡ Ok (b ∷ text)
say s v values b text e more = plain_step s false v values _ refl e ∙ ap (before (b ∷ [])) more

say_pair : (s : CodeSet) (v : ℕ) (values : List ℕ) (d : ℕ) (text : List ℕ) → meaning s v ≡ Digits d → text_from s values ≡ Ok text → text_from s (v ∷ values)
    ≡ Ok (two_digits d ++ text)
say_pair s v values d text e more = plain_step s false v values _ refl e ∙ ap (before (two_digits d)) more

-- a byte in set B
pub letter : (b : ℕ) → is_coded_byte b ≡ true → eqb b 29 ≡ false → meaning B (b - 32) ≡ Byte b
letter b h apart =
    elim (or_cases (eqb b 29) (leb 32 b && leb b 127) h) [
      | inl here ↦ absurd (both_ways (eqb b 29) apart here)
      | inr here ↦
          let p = and_parts (leb 32 b) (leb b 127) here in
          let low = leb-true 32 b p.0 in
          let high = leb-true b 127 p.1 in
          let same : b - 32 + 32 ≡ b = omega arith in
          rw (lt-ltb (b - 32) 96 (omega arith)) (ap Byte same)
    ]

pub digit_is : (b : ℕ) → is_digit b ≡ true → (48 ≤ b) × (b ≤ 57)
digit_is b h = let p = and_parts (leb 48 b) (leb b 57) h in (leb-true 48 b p.0, leb-true b 57 p.1)

-- the two digits of a pair
pair_says : (a b : ℕ) → is_digit a ≡ true → is_digit b ≡ true → (meaning C (pair a b) ≡ Digits (pair a b)) × (two_digits (pair a b) ≡ a ∷ b ∷ [])
pair_says a b h k =
    let x = digit_is a h in let y = digit_is b k in
    let x0 = x.0 in let x1 = x.1 in let y0 = y.0 in let y1 = y.1 in
    let first : 48 + pair a b / 10 ≡ a = omega arith in
    let second : 48 + pair a b % 10 ≡ b = omega arith in
    (rw (lt-ltb (pair a b) 100 (omega arith)) refl, rw (first, second) refl)

say_digits : (a b : ℕ) (values text : List ℕ) → is_digit a ≡ true → is_digit b ≡ true → text_from C values ≡ Ok text → text_from C (pair a b ∷ values)
    ≡ Ok (a ∷ b ∷ text)
say_digits a b values text h k more =
    let p = pair_says a b h k in
    say_pair C (pair a b) values (pair a b) text p.0 more ∙ ap (λ (ds : List ℕ). Ok (ds ++ text)) p.1

-- at least two digits
pub two : (a b : ℕ) (text : List ℕ) → 2 ≤ digits_ahead (a ∷ b ∷ text) → (is_digit a ≡ true) × (is_digit b ≡ true)
two a b text h =
    elim (cases_Bool (is_digit a)) [
      | inl x ↦ elim (cases_Bool (is_digit b)) [
        | inl y ↦ (x, y)
        | inr y ↦ absurd (let e : digits_ahead (a ∷ b ∷ text) ≡ 1 = rw (x, y) refl in omega arith)
      ]
      | inr x ↦ absurd (let e : digits_ahead (a ∷ b ∷ text) ≡ 0 = rw x refl in omega arith)
    ]

-- an even run has four digits
pub run_is : (a b : ℕ) (text : List ℕ) → has_even_run (a ∷ b ∷ text) ≡ true → 4 ≤ digits_ahead (a ∷ b ∷ text)
run_is a b text h = leb-true 4 (digits_ahead (a ∷ b ∷ text)) (and_parts _ _ h).0

read : (text : List ℕ) (in_c : Bool) → list_all is_coded_byte text ≡ true → text_from (set_by in_c) (coded_on in_c text) ≡ Ok text
read [] true h = refl
read [] false h = refl
read (b ∷ []) true h =
    elim (cases_Bool (eqb b 29)) [
      | inl here ↦ rw (here, eqb-true b 29 here) refl
      | inr here ↦ rw here (say B (b - 32) [] b [] (letter b (and_parts _ _ h).0 here) refl)
    ]
read (b ∷ []) false h =
    elim (cases_Bool (eqb b 29)) [
      | inl here ↦ rw (here, eqb-true b 29 here) refl
      | inr here ↦ rw here (say B (b - 32) [] b [] (letter b (and_parts _ _ h).0 here) refl)
    ]
read (a ∷ b ∷ text) true h =
    let p = and_parts (is_coded_byte a) (list_all is_coded_byte (b ∷ text)) h in
    elim (cases_Bool (eqb a 29)) [
      | inl here ↦ rw here (rw (eqb-true a 29 here) (say C 102 (coded_on true (b ∷ text)) 29 (b ∷ text) refl (read (b ∷ text) true p.1)))
      | inr here ↦ elim (cases_Bool (leb 2 (digits_ahead (a ∷ b ∷ text)))) [
        | inl enough ↦
            let d = two a b text (leb-true 2 _ enough) in
            rw (here, enough) (say_digits a b (coded_on true text) text d.0 d.1 (read text true (and_parts _ _ p.1).1))
        | inr few ↦ rw (here, few) (say B (a - 32) (coded_on false (b ∷ text)) a (b ∷ text) (letter a p.0 here) (read (b ∷ text) false p.1))
      ]
    ]
read (a ∷ b ∷ text) false h =
    let p = and_parts (is_coded_byte a) (list_all is_coded_byte (b ∷ text)) h in
    elim (cases_Bool (eqb a 29)) [
      | inl here ↦ rw here (rw (eqb-true a 29 here) (say B 102 (coded_on false (b ∷ text)) 29 (b ∷ text) refl (read (b ∷ text) false p.1)))
      | inr here ↦ elim (cases_Bool (has_even_run (a ∷ b ∷ text))) [
        | inl run ↦
            let four = run_is a b text run in
            let d = two a b text (omega arith) in
            rw (here, run) (say_digits a b (coded_on true text) text d.0 d.1 (read text true (and_parts _ _ p.1).1))
        | inr none ↦ rw (here, none) (say B (a - 32) (coded_on false (b ∷ text)) a (b ∷ text) (letter a p.0 here) (read (b ∷ text) false p.1))
      ]
    ]

-- what is coded from code set C on says the text
pub on_is_said : (text : List ℕ) → list_all is_coded_byte text ≡ true → text_from C (coded_on true text) ≡ Ok text
on_is_said text h = read text true h

digits-tail : (a b : ℕ) (text : List ℕ) (n : ℕ) → n + 2 ≤ digits_ahead (a ∷ b ∷ text) → n ≤ digits_ahead text
digits-tail a b text n h =
    let d = two a b text (omega arith) in
    let e : digits_ahead (a ∷ b ∷ text) ≡ 1 + (1 + digits_ahead text) = rw (d.0, d.1) refl in
    omega arith

record IsShort (text : List ℕ) : Type 0 where
  from_c : length (coded_on true text) ≤ length text + 1
  from_b : length (coded_on false text) ≤ length text
  from_pair : 2 ≤ digits_ahead text → length (coded_on true text) ≤ length text

is_short : (text : List ℕ) → IsShort text
is_short [] = record { from_c = omega arith; from_b = omega arith; from_pair = λ h. omega arith }
is_short (b ∷ []) =
    elim (cases_Bool (eqb b 29)) [
      | inl here ↦ record { from_c = rw here (omega arith); from_b = rw here (omega arith); from_pair = λ h. rw here (omega arith) }
      | inr here ↦ record { from_c = rw here (omega arith); from_b = rw here (omega arith); from_pair = λ h. absurd (one_digit b h) }
    ]
  where
    one_digit : (b : ℕ) → 2 ≤ digits_ahead (b ∷ []) → ⊥
    one_digit b h = elim (cases_Bool (is_digit b)) [
      | inl x ↦ let e : digits_ahead (b ∷ []) ≡ 1 = rw x refl in omega arith
      | inr x ↦ let e : digits_ahead (b ∷ []) ≡ 0 = rw x refl in omega arith
    ]
is_short (a ∷ b ∷ text) =
    let one = is_short (b ∷ text) in
    let rest = is_short text in
    let one_c = one.from_c in let one_b = one.from_b in let rest_c = rest.from_c in let rest_pair = rest.from_pair in
    elim (cases_Bool (eqb a 29)) [
      | inl here ↦ record {
        from_c = rw here (omega arith);
        from_b = rw here (omega arith);
        from_pair =
            λ h. absurd (let d = digit_is a (two a b text h).0 in let low = d.0 in let e = eqb-true a 29 here in omega arith);
      }
      | inr here ↦ elim (cases_Bool (has_even_run (a ∷ b ∷ text))) [
        | inl run ↦
            let four = run_is a b text run in
            let more : length (coded_on true text) ≤ length text = rest_pair (digits-tail a b text 2 (omega arith)) in
            record {
              from_c = rw (here, le-leb 2 (digits_ahead (a ∷ b ∷ text)) (omega arith)) (omega arith);
              from_b = rw (here, run) (omega arith);
              from_pair =
                  λ h. rw (here, le-leb 2 (digits_ahead (a ∷ b ∷ text)) h) (omega arith);
            }
        | inr none ↦ elim (cases_Bool (leb 2 (digits_ahead (a ∷ b ∷ text)))) [
          | inl enough ↦ record {
            from_c = rw (here, enough) (omega arith);
            from_b = rw (here, none) (omega arith);
            from_pair =
                λ h. rw (here, enough) (omega arith);
          }
          | inr few ↦ record {
            from_c = rw (here, few) (omega arith);
            from_b = rw (here, none) (omega arith);
            from_pair =
                λ h. absurd (let lt = leb-false 2 (digits_ahead (a ∷ b ∷ text)) few in omega arith);
          }
        ]
      ]
    ]

-- and is no longer than a text that begins with two digits
pub on_is_short : (text : List ℕ) → 2 ≤ digits_ahead text → length (coded_on true text) ≤ length text
on_is_short text h = (is_short text).from_pair h
