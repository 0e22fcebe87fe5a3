-- What is coded from the left, byte by byte, are the values of the runs.
use Rattle.std.proofs.Common.{◌≡◌, ℕ, ◌+◌, ◌%◌, ◌≤◌, Bool, true, false, eqb, leb, List, [], ◌∷◌, ◌++◌, length, refl, sym, ap, subst, ◌∙◌, arith, inl, inr, eq-eqb}
use Rattle.std.proofs.lemmas.Bool.{cases_Bool, cases_lt, and_parts, eqb-true, leb-false, leb-true, le-leb, le-ltb, lt-ltb, ne_eqb}
use Rattle.std.proofs.lemmas.List.{append-nil}
use Rattle.element_core.specs.Elements.{is_digit}
use Rattle.code128_code.specs.declared.code_set.CodeSet.TheVariants.{B, C}
use Rattle.code128_code.specs.Characters.{code_b, code_c, fnc1}
use Rattle.code128_code.specs.Coding.{Run, coded, coded_runs, data_values, digits_ahead, letter, pair, runs_of, with_digit}
use Rattle.code128_code.specs.Coding.Run.{Digits, Other}
use Rattle.code128_code.specs.Laws.{CodedIsSaid, CodedIsShort}
use Rattle.code128_code.specs.inner.Steps.{coded_on, has_even_run}
use Rattle.code128_code.specs.Texts.{text_from}
use Rattle.code128_code.proofs.CodedFacts.{on_is_said, on_is_short, set_by, two}

-- how long the run of digits is that stands first
abbrev run_length : List Run → ℕ
run_length [] = 0
run_length (Digits ds ∷ runs) = length ds
run_length (Other b ∷ runs) = 0

longer : (d : ℕ) (runs : List Run) → run_length (with_digit d runs) ≡ 1 + run_length runs
longer d [] = refl
longer d (Digits ds ∷ runs) = omega arith
longer d (Other b ∷ runs) = refl

ahead : (text : List ℕ) → run_length (runs_of text) ≡ digits_ahead text
ahead [] = refl
ahead (b ∷ text) =
    elim (cases_Bool (is_digit b)) [
      | inl x ↦ rw x (longer b (runs_of text) ∙ ap (λ n. 1 + n) (ahead text))
      | inr x ↦ rw x refl
    ]

-- ---- where code set C is in use

two_at_once : (a b : ℕ) (runs : List Run) → coded_runs C (with_digit a (with_digit b runs)) ≡ pair a b ∷ coded_runs C runs
two_at_once a b [] = refl
two_at_once a b (Digits ds ∷ runs) = refl
two_at_once a b (Other c ∷ runs) = refl

left_over : (a : ℕ) (runs : List Run) → run_length runs ≡ 0 → coded_runs C (with_digit a runs) ≡ code_b ∷ letter a ∷ coded_runs B runs
left_over a [] none = refl
left_over a (Digits [] ∷ runs) none = refl
left_over a (Digits (d ∷ ds) ∷ runs) none = absurd (omega arith)
left_over a (Other c ∷ runs) none = refl

-- ---- where code set B is in use

even_run : (a : ℕ) (runs : List Run) → 4 ≤ run_length (with_digit a runs) → run_length (with_digit a runs) % 2 ≡ 0
    → coded_runs B (with_digit a runs) ≡ code_c ∷ coded_runs C (with_digit a runs)
even_run a [] many even = absurd (omega arith)
even_run a (Digits ds ∷ runs) many even = rw (le-ltb (length (a ∷ ds)) 4 many, eq-eqb (length (a ∷ ds) % 2) 0 even) refl
even_run a (Other c ∷ runs) many even = absurd (omega arith)

other_run : (a : ℕ) (runs : List Run) → (4 ≤ 1 + run_length runs → (1 + run_length runs) % 2 ≡ 0 → ⊥)
    → coded_runs B (with_digit a runs) ≡ letter a ∷ coded_runs B runs
other_run a [] other = refl
other_run a (Digits [] ∷ runs) other = refl
other_run a (Digits (d ∷ ds) ∷ runs) other =
    elim (cases_lt (length (a ∷ d ∷ ds)) 4) [
      | inl few ↦ rw (lt-ltb (length (a ∷ d ∷ ds)) 4 few, lt-ltb (length (d ∷ ds)) 4 (omega arith)) refl
      | inr many ↦
          let odd : length (a ∷ d ∷ ds) % 2 ≡ 0 → ⊥ = λ even. other (omega arith) (omega arith) in
          rw (le-ltb (length (a ∷ d ∷ ds)) 4 many, ne_eqb (length (a ∷ d ∷ ds) % 2) 0 odd)
          (rw (le-ltb (length (d ∷ ds)) 4 (omega arith), eq-eqb (length (d ∷ ds) % 2) 0 (omega arith)) refl)
    ]
other_run a (Other c ∷ runs) other = refl

-- ---- byte by byte

digit_first : (a : ℕ) (text : List ℕ) → is_digit a ≡ true → runs_of (a ∷ text) ≡ with_digit a (runs_of text)
digit_first a text x = rw x refl

other_first : (a : ℕ) (text : List ℕ) → is_digit a ≡ false → runs_of (a ∷ text) ≡ Other a ∷ runs_of text
other_first a text x = rw x refl

digits_first : (a b : ℕ) (text : List ℕ) → is_digit a ≡ true → is_digit b ≡ true → runs_of (a ∷ b ∷ text) ≡ with_digit a (with_digit b (runs_of text))
digits_first a b text x y = digit_first a (b ∷ text) x ∙ ap (with_digit a) (digit_first b text y)

other_in_c : (a : ℕ) (runs : List Run) → eqb a 29 ≡ false → coded_runs C (Other a ∷ runs) ≡ code_b ∷ letter a ∷ coded_runs B runs
other_in_c a runs apart = rw apart refl

other_in_b : (a : ℕ) (runs : List Run) → eqb a 29 ≡ false → coded_runs B (Other a ∷ runs) ≡ letter a ∷ coded_runs B runs
other_in_b a runs apart = rw apart refl

on_runs : (text : List ℕ) (in_c : Bool) → coded_on in_c text ≡ coded_runs (set_by in_c) (runs_of text)
on_runs [] true = refl
on_runs [] false = refl
on_runs (b ∷ []) true =
    elim (cases_Bool (eqb b 29)) [
      | inl here ↦ rw (eqb-true b 29 here) refl
      | inr apart ↦ elim (cases_Bool (is_digit b)) [
        | inl x ↦ rw (apart, x) refl
        | inr x ↦ rw (apart, x) (rw apart refl)
      ]
    ]
on_runs (b ∷ []) false =
    elim (cases_Bool (eqb b 29)) [
      | inl here ↦ rw (eqb-true b 29 here) refl
      | inr apart ↦ elim (cases_Bool (is_digit b)) [
        | inl x ↦ rw (apart, x) refl
        | inr x ↦ rw (apart, x) (rw apart refl)
      ]
    ]
on_runs (a ∷ b ∷ text) true =
    elim (cases_Bool (eqb a 29)) [
      | inl here ↦ rw (eqb-true a 29 here) (ap (λ vs. fnc1 ∷ vs) (on_runs (b ∷ text) true))
      | inr apart ↦ elim (cases_Bool (leb 2 (digits_ahead (a ∷ b ∷ text)))) [
        | inl enough ↦
            let d = two a b text (leb-true 2 _ enough) in
            let on : coded_on true (a ∷ b ∷ text) ≡ pair a b ∷ coded_on true text = rw (apart, enough) refl in
            on
            ∙ ap (λ vs. pair a b ∷ vs) (on_runs text true)
            ∙ sym (two_at_once a b (runs_of text))
            ∙ ap (coded_runs C) (sym (digits_first a b text d.0 d.1))
        | inr few ↦
            let on : coded_on true (a ∷ b ∷ text) ≡ code_b ∷ letter a ∷ coded_on false (b ∷ text) = rw (apart, few) refl in
            let more : code_b ∷ letter a ∷ coded_on false (b ∷ text) ≡ code_b ∷ letter a ∷ coded_runs B (runs_of (b ∷ text)) =
            ap (λ vs. code_b ∷ letter a ∷ vs) (on_runs (b ∷ text) false) in
            elim (cases_Bool (is_digit a)) [
              | inl x ↦
                  let one : digits_ahead (a ∷ b ∷ text) ≡ 1 + digits_ahead (b ∷ text) = rw x refl in
                  let less = leb-false 2 (digits_ahead (a ∷ b ∷ text)) few in
                  let none : run_length (runs_of (b ∷ text)) ≡ 0 = omega (arith, ahead (b ∷ text)) in
                  on ∙ more ∙ sym (left_over a (runs_of (b ∷ text)) none) ∙ ap (coded_runs C) (sym (digit_first a (b ∷ text) x))
              | inr x ↦ on ∙ more ∙ sym (other_in_c a (runs_of (b ∷ text)) apart) ∙ ap (coded_runs C) (sym (other_first a (b ∷ text) x))
            ]
      ]
    ]
on_runs (a ∷ b ∷ text) false =
    elim (cases_Bool (eqb a 29)) [
      | inl here ↦ rw (eqb-true a 29 here) (ap (λ vs. fnc1 ∷ vs) (on_runs (b ∷ text) false))
      | inr apart ↦ elim (cases_Bool (has_even_run (a ∷ b ∷ text))) [
        | inl run ↦
            let parts = and_parts (leb 4 (digits_ahead (a ∷ b ∷ text))) (eqb (digits_ahead (a ∷ b ∷ text) % 2) 0) run in
            let many = leb-true 4 (digits_ahead (a ∷ b ∷ text)) parts.0 in
            let even = eqb-true (digits_ahead (a ∷ b ∷ text) % 2) 0 parts.1 in
            let d = two a b text (omega arith) in
            let runs = digits_first a b text d.0 d.1 in
            let count : run_length (with_digit a (with_digit b (runs_of text))) ≡ digits_ahead (a ∷ b ∷ text) =
            ap run_length (sym runs) ∙ ahead (a ∷ b ∷ text) in
            let on : coded_on false (a ∷ b ∷ text) ≡ code_c ∷ pair a b ∷ coded_on true text = rw (apart, run) refl in
            on
            ∙ ap (λ vs. code_c ∷ pair a b ∷ vs) (on_runs text true)
            ∙ ap (λ vs. code_c ∷ vs) (sym (two_at_once a b (runs_of text)))
            ∙ sym (even_run a (with_digit b (runs_of text)) (subst (λ n. 4 ≤ n) (sym count) many) (ap (λ n. n % 2) count ∙ even))
            ∙ ap (coded_runs B) (sym runs)
        | inr none ↦
            let on : coded_on false (a ∷ b ∷ text) ≡ letter a ∷ coded_on false (b ∷ text) = rw (apart, none) refl in
            let more : letter a ∷ coded_on false (b ∷ text) ≡ letter a ∷ coded_runs B (runs_of (b ∷ text)) =
            ap (λ vs. letter a ∷ vs) (on_runs (b ∷ text) false) in
            elim (cases_Bool (is_digit a)) [
              | inl x ↦
                  let one : digits_ahead (a ∷ b ∷ text) ≡ 1 + run_length (runs_of (b ∷ text)) = rw x (ap (λ n. 1 + n) (sym (ahead (b ∷ text)))) in
                  let other : 4 ≤ 1 + run_length (runs_of (b ∷ text)) → (1 + run_length (runs_of (b ∷ text))) % 2 ≡ 0 → ⊥ =
                  λ many even. let run : has_even_run (a ∷ b ∷ text) ≡ true =
                  rw (one, le-leb 4 (1 + run_length (runs_of (b ∷ text))) many, eq-eqb ((1 + run_length (runs_of (b ∷ text))) % 2) 0 even) refl in cc in
                  on ∙ more ∙ sym (other_run a (runs_of (b ∷ text)) other) ∙ ap (coded_runs B) (sym (digit_first a (b ∷ text) x))
              | inr x ↦ on ∙ more ∙ sym (other_in_b a (runs_of (b ∷ text)) apart) ∙ ap (coded_runs B) (sym (other_first a (b ∷ text) x))
            ]
      ]
    ]

pub coded_is : (text : List ℕ) → coded text ≡ coded_on true text
coded_is text = sym (on_runs text true)

pub coded_is_said : CodedIsSaid
coded_is_said = λ text h. ap (text_from C) (coded_is text) ∙ on_is_said text h

pub coded_is_short : CodedIsShort
coded_is_short = λ text h. subst (λ vs. length vs ≤ length text) (sym (coded_is text)) (on_is_short text h)

-- nothing is left to be coded
pub coded_whole : (values rest text : List ℕ) (in_c : Bool) → length rest ≡ 0 → values ++ coded_on in_c rest ≡ fnc1 ∷ coded_on true text → values
    ≡ data_values text
coded_whole values [] text true none e = sym (append-nil values) ∙ e ∙ ap (λ vs. fnc1 ∷ vs) (sym (coded_is text))
coded_whole values [] text false none e = sym (append-nil values) ∙ e ∙ ap (λ vs. fnc1 ∷ vs) (sym (coded_is text))
coded_whole values (b ∷ rest) text in_c none e = absurd (omega arith)
