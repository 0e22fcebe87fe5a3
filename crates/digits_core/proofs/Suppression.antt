-- Which line of the zero-suppression table a number's digits are by.
use Rattle.std.proofs.Common.{Bool, List, [], ap, arith, drop, false, get_or, inl, inr, length, lit<, refl, replicate, suc, sym, take, true, zero, ℕ, ◌++◌, ◌+◌, ◌-◌, ◌<◌, ◌==◌, ◌∙◌, ◌∷◌, ◌≡◌, ◌≤◌, ◌⊎◌}
use Rattle.std.specs.List.{list_all}
use Rattle.std.proofs.Math.ListN.{get_or-map}
use Rattle.std.proofs.lemmas.Bool.{and_parts, cases_lt, eq-eqb}
use Rattle.std.proofs.Common.{eqb-true}
use Rattle.std.specs.Prelude.{if◌then◌else◌, nat_le, slice_index}
use Rattle.digits_core.specs.Digits.{AreAsciiDigits, IsChecked, digits_of, padded}
use Rattle.digits_core.specs.inner.Upce.{IsFirstSix, IsSix}
use Rattle.digits_core.specs.Upce.{IsFirstUpceOf, IsUpceOf, upce_expanded, upce_line}
use Rattle.digits_core.proofs.DigitTexts.{digit_at}
use Rattle.digits_core.proofs.ZeroSuppression.{first_line, second_line, third_line, fourth_line, line_of_first, line_of_second, line_of_third, line_of_fourth}

-- n bytes of the text from the i-th on are '0'
abbrev pub HasZeros : ℕ → ℕ → List ℕ → Type 0
HasZeros i n text = list_all (λ b. b == 48) (take n (drop i text)) ≡ true

pub zeros_made : (i n : ℕ) (text : List ℕ) → AreAsciiDigits text → i + n ≤ length text
    → ((k : ℕ) → k < n → get_or text (i + k) 0 ≡ 48) → HasZeros i n text
zeros_made zero zero text valid few f = refl
zeros_made zero (suc n) [] valid few f = absurd (omega arith)
zeros_made zero (suc n) (b ∷ text) valid few f =
    let here : (b == 48) ≡ true = eq-eqb b 48 (f 0 (omega arith)) in
    rw here (zeros_made zero n text valid.1 (omega arith) (λ k h. let e : zero + suc k ≡ suc k = omega arith in let g : zero + k ≡ k =
    omega arith in rw g (rw e at (f (suc k) (omega arith)))))
zeros_made (suc i) n [] valid few f = absurd (omega arith)
zeros_made (suc i) n (b ∷ text) valid few f =
    zeros_made i n text valid.1 (omega arith) (λ k h. let e : suc i + k ≡ suc (i + k) = omega arith in rw e at (f k h))

pub zeros_read : (i n : ℕ) (text : List ℕ) → i + n ≤ length text → HasZeros i n text → (k : ℕ) → k < n → get_or text (i + k) 0 ≡ 48
zeros_read zero zero text few z k h = absurd (omega arith)
zeros_read zero (suc n) [] few z k h = absurd (omega arith)
zeros_read zero (suc n) (b ∷ text) few z zero h = eqb-true b 48 (and_parts (b == 48) (list_all (λ b. b == 48) (take n text)) z).0
zeros_read zero (suc n) (b ∷ text) few z (suc k) h =
    let e : zero + suc k ≡ suc k = omega arith in
    let g : zero + k ≡ k = omega arith in
    rw e (rw g at (zeros_read zero n text (omega arith) (and_parts (b == 48) (list_all (λ b. b == 48) (take n text)) z).1 k (omega arith)))
zeros_read (suc i) n [] few z k h = absurd (omega arith)
zeros_read (suc i) n (b ∷ text) few z k h = let e : suc i + k ≡ suc (i + k) = omega arith in rw e (zeros_read i n text (omega arith) z k h)

pub twelve : (ds : List ℕ) → length ds ≡ 12
    → ds ≡ get_or ds 0 0 ∷ get_or ds 1 0 ∷ get_or ds 2 0 ∷ get_or ds 3 0 ∷ get_or ds 4 0 ∷ get_or ds 5 0 ∷ get_or ds 6 0 ∷ get_or ds 7 0 ∷ get_or ds 8 0 ∷
    get_or ds 9 0 ∷ get_or ds 10 0 ∷ get_or ds 11 0 ∷ []
twelve (a ∷ b ∷ c ∷ d ∷ e ∷ f ∷ g ∷ h ∷ i ∷ j ∷ k ∷ l ∷ []) is = refl
twelve (a ∷ b ∷ c ∷ d ∷ e ∷ f ∷ g ∷ h ∷ i ∷ j ∷ k ∷ l ∷ m ∷ ds) is = absurd (omega arith)
twelve _ is = absurd (omega arith)

-- the digit at i of a text is 0 where its byte is '0', and the other way round
pub byte_of_zero : (text : List ℕ) (i : ℕ) → AreAsciiDigits text → i < length text → get_or (digits_of text) i 0 ≡ 0 → get_or text i 0 ≡ 48
byte_of_zero text i valid lt e =
    let digit = digit_at text i valid lt in
    let shown : get_or (digits_of text) i 0 ≡ get_or text i 0 - 48 = get_or-map (λ b. b - 48) text i 0 in omega arith

-- what the tests of each line say of the text of a number's twelve digits
pub record Tests (six text : List ℕ) : Type 0 where
  pub system : get_or text 0 0 ≡ 48
  pub lines :
      ((upce_line six ≡ 0) × (get_or text 3 0 ≤ 50) × HasZeros 4 4 text)
      ⊎ (((upce_line six ≡ 1) × HasZeros 4 5 text)
      ⊎ (((upce_line six ≡ 2) × HasZeros 5 5 text)
      ⊎ ((upce_line six ≡ 3) × (53 ≤ get_or text 10 0) × HasZeros 6 4 text)))

module _ (text : List ℕ) (long : length text ≡ 12) (valid : AreAsciiDigits text) where
  shown : (i : ℕ) → get_or (digits_of text) i 0 ≡ get_or text i 0 - 48
  shown i = get_or-map (λ b. b - 48) text i 0

  zero_byte : (ds : List ℕ) → digits_of text ≡ ds → (i : ℕ) → i < 12 → get_or ds i 0 ≡ 0 → get_or text i 0 ≡ 48
  zero_byte ds e i h z = byte_of_zero text i valid (omega arith) (ap (λ xs. get_or xs i 0) e ∙ z)

  -- by the digits that it stands for
  four_zeros : (ds : List ℕ) → digits_of text ≡ ds → (i : ℕ) → i + 4 ≤ 12 → get_or ds i 0 ≡ 0 → get_or ds (i + 1) 0 ≡ 0 → get_or ds (i + 2) 0 ≡ 0
      → get_or ds (i + 3) 0 ≡ 0 → HasZeros i 4 text
  four_zeros ds e i few a b c d = zeros_made i 4 text valid (omega arith) at
    where
      at : (k : ℕ) → k < 4 → get_or text (i + k) 0 ≡ 48
      at zero h = let s : i + zero ≡ i = omega arith in rw s (zero_byte ds e i (omega arith) a)
      at (suc zero) h = zero_byte ds e (i + 1) (omega arith) b
      at (suc (suc zero)) h = zero_byte ds e (i + 2) (omega arith) c
      at (suc (suc (suc zero))) h = zero_byte ds e (i + 3) (omega arith) d
      at (suc (suc (suc (suc k)))) h = absurd (omega arith)

  five_zeros : (ds : List ℕ) → digits_of text ≡ ds → (i : ℕ) → i + 5 ≤ 12 → get_or ds i 0 ≡ 0 → get_or ds (i + 1) 0 ≡ 0 → get_or ds (i + 2) 0 ≡ 0
      → get_or ds (i + 3) 0 ≡ 0 → get_or ds (i + 4) 0 ≡ 0 → HasZeros i 5 text
  five_zeros ds e i few a b c d f = zeros_made i 5 text valid (omega arith) at
    where
      at : (k : ℕ) → k < 5 → get_or text (i + k) 0 ≡ 48
      at zero h = let s : i + zero ≡ i = omega arith in rw s (zero_byte ds e i (omega arith) a)
      at (suc zero) h = zero_byte ds e (i + 1) (omega arith) b
      at (suc (suc zero)) h = zero_byte ds e (i + 2) (omega arith) c
      at (suc (suc (suc zero))) h = zero_byte ds e (i + 3) (omega arith) d
      at (suc (suc (suc (suc zero)))) h = zero_byte ds e (i + 4) (omega arith) f
      at (suc (suc (suc (suc (suc k))))) h = absurd (omega arith)

  -- a text's number that six digits written out stand for
  tests_by : (a b c d e f check : ℕ) → f < 10 → digits_of text ≡ upce_expanded (a ∷ b ∷ c ∷ d ∷ e ∷ f ∷ []) check → Tests (a ∷ b ∷ c ∷ d ∷ e ∷ f ∷ []) text
  tests_by a b c d e f check small is = elim (cases_lt f 3) [
    | inl low ↦
        let two : f ≤ 2 = omega arith in
        let ds = is ∙ first_line a b c d e f check two in
        let third : get_or (digits_of text) 3 0 ≡ f = ap (λ xs. get_or xs 3 0) ds in
        let byte = shown 3 in
        let digit = digit_at text 3 valid (omega arith) in
        record {
          system = zero_byte _ ds 0 (omega arith) refl;
          lines = inl (line_of_first a b c d e f check two, omega arith, four_zeros _ ds 4 (omega arith) refl refl refl refl);
        }
    | inr high ↦ elim (cases_lt f 4) [
      | inl low ↦
          let three : f ≡ 3 = omega arith in
          let ds = is ∙ second_line a b c d e f check three in
          record {
            system = zero_byte _ ds 0 (omega arith) refl;
            lines = inr (inl (line_of_second a b c d e f check three, five_zeros _ ds 4 (omega arith) refl refl refl refl refl));
          }
      | inr higher ↦ elim (cases_lt f 5) [
        | inl low ↦
            let four : f ≡ 4 = omega arith in
            let ds = is ∙ third_line a b c d e f check four in
            record {
              system = zero_byte _ ds 0 (omega arith) refl;
              lines = inr (inr (inl (line_of_third a b c d e f check four, five_zeros _ ds 5 (omega arith) refl refl refl refl refl)));
            }
        | inr highest ↦
            let ds = is ∙ fourth_line a b c d e f check highest in
            let tenth : get_or (digits_of text) 10 0 ≡ f = ap (λ xs. get_or xs 10 0) ds in
            let byte = shown 10 in
            let digit = digit_at text 10 valid (omega arith) in
            record {
              system = zero_byte _ ds 0 (omega arith) refl;
              lines = inr (inr (inr (line_of_fourth a b c d e f check highest, omega arith, four_zeros _ ds 6 (omega arith) refl refl refl refl)));
            }
      ]
    ]
  ]

  pub tests_of : (six : List ℕ) → IsSix six (digits_of text) → Tests six text
  tests_of [] s = absurd (let n = s.six_digits in omega arith)
  tests_of (a ∷ []) s = absurd (let n = s.six_digits in omega arith)
  tests_of (a ∷ b ∷ []) s = absurd (let n = s.six_digits in omega arith)
  tests_of (a ∷ b ∷ c ∷ []) s = absurd (let n = s.six_digits in omega arith)
  tests_of (a ∷ b ∷ c ∷ d ∷ []) s = absurd (let n = s.six_digits in omega arith)
  tests_of (a ∷ b ∷ c ∷ d ∷ e ∷ []) s = absurd (let n = s.six_digits in omega arith)
  tests_of (a ∷ b ∷ c ∷ d ∷ e ∷ f ∷ []) s = tests_by a b c d e f (get_or (digits_of text) 11 0) s.valid.1.1.1.1.1.0 s.number
  tests_of (a ∷ b ∷ c ∷ d ∷ e ∷ f ∷ g ∷ six) s = absurd (let n = s.six_digits in omega arith)

  -- the zeros of a line, as digits
  zero_digits : (i n : ℕ) → i + n ≤ 12 → HasZeros i n text → (k : ℕ) → k < n → get_or (digits_of text) (i + k) 0 ≡ 0
  zero_digits i n few z k h =
      let byte = zeros_read i n text (omega arith) z k h in
      let digit = shown (i + k) in omega arith

  written : digits_of text ≡ (get_or text 0 0 - 48) ∷ (get_or text 1 0 - 48) ∷ (get_or text 2 0 - 48) ∷ (get_or text 3 0 - 48) ∷ (get_or text 4 0 - 48) ∷
      (get_or text 5 0 - 48) ∷ (get_or text 6 0 - 48) ∷ (get_or text 7 0 - 48) ∷ (get_or text 8 0 - 48) ∷ (get_or text 9 0 - 48) ∷ (get_or text 10 0 - 48) ∷
      (get_or text 11 0 - 48) ∷ []
  written = ap digits_of (twelve text long)

  digit_low : (i : ℕ) → i < 12 → get_or text i 0 - 48 < 10
  digit_low i h = let digit = digit_at text i valid (omega arith) in omega arith

  pub six_first : get_or text 0 0 ≡ 48 → get_or text 3 0 ≤ 50 → HasZeros 4 4 text
      → IsSix ((get_or text 1 0 - 48) ∷ (get_or text 2 0 - 48) ∷ (get_or text 8 0 - 48) ∷ (get_or text 9 0 - 48) ∷ (get_or text 10 0 - 48) ∷
      (get_or text 3 0 - 48) ∷ []) (digits_of text)
  six_first system low zeros =
      let zero_first : get_or text 0 0 - 48 ≡ 0 = omega arith in
      let zero_0 : get_or text 4 0 - 48 ≡ 0 = let byte = zeros_read 4 4 text (omega arith) zeros 0 (omega arith) in omega arith in
      let zero_1 : get_or text 5 0 - 48 ≡ 0 = let byte = zeros_read 4 4 text (omega arith) zeros 1 (omega arith) in omega arith in
      let zero_2 : get_or text 6 0 - 48 ≡ 0 = let byte = zeros_read 4 4 text (omega arith) zeros 2 (omega arith) in omega arith in
      let zero_3 : get_or text 7 0 - 48 ≡ 0 = let byte = zeros_read 4 4 text (omega arith) zeros 3 (omega arith) in omega arith in
      let last = shown 11 in
      let line = first_line (get_or text 1 0 - 48) (get_or text 2 0 - 48) (get_or text 8 0 - 48) (get_or text 9 0 - 48) (get_or text 10 0 - 48)
      (get_or text 3 0 - 48) (get_or (digits_of text) 11 0) (omega arith) in
      let whole = written in
      record {
        six_digits = refl;
        valid = (
          digit_low 1 (omega arith),
          (digit_low 2 (omega arith), (digit_low 8 (omega arith), (digit_low 9 (omega arith), (digit_low 10 (omega arith), (digit_low 3 (omega arith), tt))))),
        );
        number = cc;
      }

  pub six_second : get_or text 0 0 ≡ 48 → HasZeros 4 5 text
      → IsSix ((get_or text 1 0 - 48) ∷ (get_or text 2 0 - 48) ∷ (get_or text 3 0 - 48) ∷ (get_or text 9 0 - 48) ∷ (get_or text 10 0 - 48) ∷ 3 ∷ [])
      (digits_of text)
  six_second system zeros =
      let zero_first : get_or text 0 0 - 48 ≡ 0 = omega arith in
      let zero_0 : get_or text 4 0 - 48 ≡ 0 = let byte = zeros_read 4 5 text (omega arith) zeros 0 (omega arith) in omega arith in
      let zero_1 : get_or text 5 0 - 48 ≡ 0 = let byte = zeros_read 4 5 text (omega arith) zeros 1 (omega arith) in omega arith in
      let zero_2 : get_or text 6 0 - 48 ≡ 0 = let byte = zeros_read 4 5 text (omega arith) zeros 2 (omega arith) in omega arith in
      let zero_3 : get_or text 7 0 - 48 ≡ 0 = let byte = zeros_read 4 5 text (omega arith) zeros 3 (omega arith) in omega arith in
      let zero_4 : get_or text 8 0 - 48 ≡ 0 = let byte = zeros_read 4 5 text (omega arith) zeros 4 (omega arith) in omega arith in
      let last = shown 11 in
      let line = second_line (get_or text 1 0 - 48) (get_or text 2 0 - 48) (get_or text 3 0 - 48) (get_or text 9 0 - 48) (get_or text 10 0 - 48) 3
      (get_or (digits_of text) 11 0) refl in
      let whole = written in
      record {
        six_digits = refl;
        valid = (
          digit_low 1 (omega arith),
          (digit_low 2 (omega arith), (digit_low 3 (omega arith), (digit_low 9 (omega arith), (digit_low 10 (omega arith), (lit< tt, tt))))),
        );
        number = cc;
      }

  pub six_third : get_or text 0 0 ≡ 48 → HasZeros 5 5 text
      → IsSix ((get_or text 1 0 - 48) ∷ (get_or text 2 0 - 48) ∷ (get_or text 3 0 - 48) ∷ (get_or text 4 0 - 48) ∷ (get_or text 10 0 - 48) ∷ 4 ∷ [])
      (digits_of text)
  six_third system zeros =
      let zero_first : get_or text 0 0 - 48 ≡ 0 = omega arith in
      let zero_0 : get_or text 5 0 - 48 ≡ 0 = let byte = zeros_read 5 5 text (omega arith) zeros 0 (omega arith) in omega arith in
      let zero_1 : get_or text 6 0 - 48 ≡ 0 = let byte = zeros_read 5 5 text (omega arith) zeros 1 (omega arith) in omega arith in
      let zero_2 : get_or text 7 0 - 48 ≡ 0 = let byte = zeros_read 5 5 text (omega arith) zeros 2 (omega arith) in omega arith in
      let zero_3 : get_or text 8 0 - 48 ≡ 0 = let byte = zeros_read 5 5 text (omega arith) zeros 3 (omega arith) in omega arith in
      let zero_4 : get_or text 9 0 - 48 ≡ 0 = let byte = zeros_read 5 5 text (omega arith) zeros 4 (omega arith) in omega arith in
      let last = shown 11 in
      let line = third_line (get_or text 1 0 - 48) (get_or text 2 0 - 48) (get_or text 3 0 - 48) (get_or text 4 0 - 48) (get_or text 10 0 - 48) 4
      (get_or (digits_of text) 11 0) refl in
      let whole = written in
      record {
        six_digits = refl;
        valid = (
          digit_low 1 (omega arith),
          (digit_low 2 (omega arith), (digit_low 3 (omega arith), (digit_low 4 (omega arith), (digit_low 10 (omega arith), (lit< tt, tt))))),
        );
        number = cc;
      }

  pub six_fourth : get_or text 0 0 ≡ 48 → 53 ≤ get_or text 10 0 → HasZeros 6 4 text
      → IsSix ((get_or text 1 0 - 48) ∷ (get_or text 2 0 - 48) ∷ (get_or text 3 0 - 48) ∷ (get_or text 4 0 - 48) ∷ (get_or text 5 0 - 48) ∷
      (get_or text 10 0 - 48) ∷ []) (digits_of text)
  six_fourth system high zeros =
      let zero_first : get_or text 0 0 - 48 ≡ 0 = omega arith in
      let zero_0 : get_or text 6 0 - 48 ≡ 0 = let byte = zeros_read 6 4 text (omega arith) zeros 0 (omega arith) in omega arith in
      let zero_1 : get_or text 7 0 - 48 ≡ 0 = let byte = zeros_read 6 4 text (omega arith) zeros 1 (omega arith) in omega arith in
      let zero_2 : get_or text 8 0 - 48 ≡ 0 = let byte = zeros_read 6 4 text (omega arith) zeros 2 (omega arith) in omega arith in
      let zero_3 : get_or text 9 0 - 48 ≡ 0 = let byte = zeros_read 6 4 text (omega arith) zeros 3 (omega arith) in omega arith in
      let last = shown 11 in
      let line = fourth_line (get_or text 1 0 - 48) (get_or text 2 0 - 48) (get_or text 3 0 - 48) (get_or text 4 0 - 48) (get_or text 5 0 - 48)
      (get_or text 10 0 - 48) (get_or (digits_of text) 11 0) (omega arith) in
      let whole = written in
      record {
        six_digits = refl;
        valid = (
          digit_low 1 (omega arith),
          (digit_low 2 (omega arith), (digit_low 3 (omega arith), (digit_low 4 (omega arith), (digit_low 5 (omega arith), (digit_low 10 (omega arith), tt))))),
        );
        number = cc;
      }

  -- where the tests of the earlier lines fail, no six digits are by one of these
  pub by_second : (six : List ℕ) → IsSix six (digits_of text) → (get_or text 3 0 ≤ 50 → HasZeros 4 4 text → ⊥) → 1 ≤ upce_line six
  by_second six s first = elim (tests_of six s).lines [
    | inl t ↦ absurd (first t.1 t.2)
    | inr (inl t) ↦ let line = t.0 in omega arith
    | inr (inr (inl t)) ↦ let line = t.0 in omega arith
    | inr (inr (inr t)) ↦ let line = t.0 in omega arith
  ]

  pub by_third : (six : List ℕ) → IsSix six (digits_of text) → (get_or text 3 0 ≤ 50 → HasZeros 4 4 text → ⊥) → (HasZeros 4 5 text → ⊥) → 2 ≤ upce_line six
  by_third six s first second = elim (tests_of six s).lines [
    | inl t ↦ absurd (first t.1 t.2)
    | inr (inl t) ↦ absurd (second t.1)
    | inr (inr (inl t)) ↦ let line = t.0 in omega arith
    | inr (inr (inr t)) ↦ let line = t.0 in omega arith
  ]

  pub by_fourth : (six : List ℕ) → IsSix six (digits_of text) → (get_or text 3 0 ≤ 50 → HasZeros 4 4 text → ⊥) → (HasZeros 4 5 text → ⊥)
      → (HasZeros 5 5 text → ⊥) → 3 ≤ upce_line six
  by_fourth six s first second third = elim (tests_of six s).lines [
    | inl t ↦ absurd (first t.1 t.2)
    | inr (inl t) ↦ absurd (second t.1)
    | inr (inr (inl t)) ↦ absurd (third t.1)
    | inr (inr (inr t)) ↦ let line = t.0 in omega arith
  ]

  pub by_none : (six : List ℕ) → IsSix six (digits_of text) → (get_or text 3 0 ≤ 50 → HasZeros 4 4 text → ⊥) → (HasZeros 4 5 text → ⊥) → (HasZeros 5 5 text → ⊥)
      → (53 ≤ get_or text 10 0 → HasZeros 6 4 text → ⊥) → ⊥
  by_none six s first second third fourth = elim (tests_of six s).lines [
    | inl t ↦ first t.1 t.2
    | inr (inl t) ↦ second t.1
    | inr (inr (inl t)) ↦ third t.1
    | inr (inr (inr t)) ↦ fourth t.1 t.2
  ]

  -- the lines of the first and of the last
  pub first_line_is : get_or text 3 0 ≤ 50 → upce_line ((get_or text 1 0 - 48) ∷ (get_or text 2 0 - 48) ∷ (get_or text 8 0 - 48) ∷ (get_or text 9 0 - 48) ∷
      (get_or text 10 0 - 48) ∷ (get_or text 3 0 - 48) ∷ []) ≡ 0
  first_line_is low = line_of_first (get_or text 1 0 - 48) (get_or text 2 0 - 48) (get_or text 8 0 - 48) (get_or text 9 0 - 48) (get_or text 10 0 - 48)
      (get_or text 3 0 - 48) 0 (omega arith)

  pub last_line_is : 53 ≤ get_or text 10 0 → upce_line ((get_or text 1 0 - 48) ∷ (get_or text 2 0 - 48) ∷ (get_or text 3 0 - 48) ∷ (get_or text 4 0 - 48) ∷
      (get_or text 5 0 - 48) ∷ (get_or text 10 0 - 48) ∷ []) ≡ 3
  last_line_is high = line_of_fourth (get_or text 1 0 - 48) (get_or text 2 0 - 48) (get_or text 3 0 - 48) (get_or text 4 0 - 48) (get_or text 5 0 - 48)
      (get_or text 10 0 - 48) 0 (omega arith)

-- twelve digits, the last of them a check digit
pub record Twelve (check : ℕ) (ds : List ℕ) : Type 0 where
  pub count : length ds ≡ 12
  pub last : get_or ds 11 0 ≡ check

shape_by : (p q r : Bool) (d : ℕ → ℕ) (check : ℕ)
    → Twelve check (if p then 0 ∷ d 0 ∷ d 1 ∷ d 5 ∷ 0 ∷ 0 ∷ 0 ∷ 0 ∷ d 2 ∷ d 3 ∷ d 4 ∷ check ∷ []
    else if q then 0 ∷ d 0 ∷ d 1 ∷ d 2 ∷ 0 ∷ 0 ∷ 0 ∷ 0 ∷ 0 ∷ d 3 ∷ d 4 ∷ check ∷ []
    else if r then 0 ∷ d 0 ∷ d 1 ∷ d 2 ∷ d 3 ∷ 0 ∷ 0 ∷ 0 ∷ 0 ∷ 0 ∷ d 4 ∷ check ∷ []
    else 0 ∷ d 0 ∷ d 1 ∷ d 2 ∷ d 3 ∷ d 4 ∷ 0 ∷ 0 ∷ 0 ∷ 0 ∷ d 5 ∷ check ∷ [])
shape_by true q r d check = record { count = refl; last = refl }
shape_by false true r d check = record { count = refl; last = refl }
shape_by false false true d check = record { count = refl; last = refl }
shape_by false false false d check = record { count = refl; last = refl }

pub expanded_shape : (six : List ℕ) (check : ℕ) → Twelve check (upce_expanded six check)
expanded_shape six check = let d : ℕ → ℕ = slice_index six in shape_by (nat_le (d 5) 2) (d 5 == 3) (d 5 == 4) d check

-- twelve digits, padded, are one number
after_zeros : (ds : List ℕ) → length ds ≡ 12 → drop 2 (padded ds) ≡ ds
after_zeros ds a = ap (λ n. drop 2 (replicate n 0 ++ ds)) (let two : 14 - length ds ≡ 2 = omega arith in two)

pub padded_twelve : (ds es : List ℕ) → length ds ≡ 12 → length es ≡ 12 → padded ds ≡ padded es → ds ≡ es
padded_twelve ds es a b e = sym (after_zeros ds a) ∙ ap (drop 2) e ∙ after_zeros es b

-- six digits that stand for a number stand for its twelve digits
pub six_standing : (six : List ℕ) (check : ℕ) (ds gtin : List ℕ) → length ds ≡ 12 → gtin ≡ padded ds → IsUpceOf six check gtin → IsSix six ds
six_standing six check ds gtin long is s =
    let shape = expanded_shape six check in
    let same : ds ≡ upce_expanded six check = padded_twelve ds (upce_expanded six check) long shape.count (sym is ∙ s.number) in
    let last : get_or ds 11 0 ≡ check = ap (λ xs. get_or xs 11 0) same ∙ shape.last in
    record { six_digits = s.six_digits; valid = s.valid; number = same ∙ ap (upce_expanded six) (sym last) }

-- the first six digits of the twelve are the first of the number
pub first_standing : (six : List ℕ) (check : ℕ) (ds gtin : List ℕ) → length ds ≡ 12 → gtin ≡ padded ds → check ≡ get_or ds 11 0 → check < 10 → IsChecked gtin
    → IsFirstSix six ds → IsFirstUpceOf six check gtin
first_standing six check ds gtin long is last low checked s = record {
  spelling = record {
    six_digits = s.spelling.six_digits;
    valid = s.spelling.valid;
    check_valid = low;
    number = is ∙ ap padded (s.spelling.number ∙ ap (upce_expanded six) (sym last));
    checked = checked;
  };
  first = λ others other u. s.first others (six_standing others other ds gtin long is u);
}
