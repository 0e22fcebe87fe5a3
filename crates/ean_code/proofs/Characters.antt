-- The characters of the number sets are distinct, and lists of them are read as themselves.
use Rattle.std.proofs.Common.{◌≡◌, ℕ, zero, suc, ◌+◌, ◌*◌, ◌%◌, ◌<◌, Bool, true, false, ◌&&◌, ◌==◌, nat_le, List, [], ◌∷◌, ◌++◌, length, drop, refl, ap, ap₂, subst, ◌∙◌, arith, eqb-true, get_or}
use Rattle.std.specs.Prelude.{if◌then◌else◌}
use Rattle.std.specs.List.{fold, position_or_len, zip}
use Rattle.std.proofs.lemmas.Bool.{and_parts}
use Rattle.std.proofs.lemmas.List.{length-map}
use Rattle.std.proofs.lemmas.Slice.Zip.{length-zip}
use Rattle.digits_core.specs.Digits.{AreDigits}
use Rattle.ean_code.specs.declared.number_sets.Character.{Character}
use Rattle.ean_code.specs.declared.number_sets.NumberSet.{NumberSet}
use Rattle.ean_code.specs.declared.number_sets.NumberSet.TheVariants.{A, B}
use Rattle.ean_code.specs.inner.NumberSets.{AreCharacters, character_digits, character_sets}
use Rattle.ean_code.specs.NumberSets.{set_a, set_b, in_set, characters_in, left_widths, right_widths, left_part, right_part}
use Rattle.ean_code.specs.Guards.{normal_guard}
use Rattle.ean_code.proofs.Cells.{all_below, all_below-at, IsCode, cells, cells-flat_map, drop-cells}

-- widths read as one number
abbrev pub number : List ℕ → ℕ
number ws = fold (λ n w. 10 * n + w) 0 ws

-- the place of the widths in both sets, one after the other
abbrev pub place : List ℕ → ℕ
place ws = position_or_len (λ entry. number entry == number ws) (set_a ++ set_b)

abbrev pub left_char : List ℕ → Character
left_char ws = in_set (if nat_le 10 (place ws) then B else A) (place ws % 10)

abbrev pub right_digit : List ℕ → ℕ
right_digit ws = position_or_len (λ entry. number entry == number ws) set_a

-- whether two number sets are the same
abbrev pub same_set : NumberSet → NumberSet → Bool
same_set A A = true
same_set B B = true
same_set A B = false
same_set B A = false

pub same_set-true : (s t : NumberSet) → same_set s t ≡ true → s ≡ t
same_set-true A A e = refl
same_set-true B B e = refl
same_set-true A B e = absurd cc
same_set-true B A e = absurd cc

-- a character is read as itself
abbrev pub left_ok : NumberSet → ℕ → Bool
left_ok s d = same_set (left_char (left_widths (in_set s d))).set s && ((left_char (left_widths (in_set s d))).digit == d)

pub left_tested : (s : NumberSet) → all_below (left_ok s) 10 ≡ true
left_tested A = refl
left_tested B = refl

pub left_back : (s : NumberSet) (d : ℕ) → d < 10 → left_char (left_widths (in_set s d)) ≡ in_set s d
left_back s d h =
    let parts = and_parts _ _ (all_below-at (left_ok s) 10 (left_tested s) d h) in
    ap₂ in_set (same_set-true _ _ parts.0) (eqb-true _ _ parts.1)

-- a character has four widths
left_four : (s : NumberSet) → all_below (λ d. length (left_widths (in_set s d)) == 4) 10 ≡ true
left_four A = refl
left_four B = refl

pub length-left : (s : NumberSet) (d : ℕ) → d < 10 → length (left_widths (in_set s d)) ≡ 4
length-left s d h = eqb-true _ _ (all_below-at (λ d. length (left_widths (in_set s d)) == 4) 10 (left_four s) d h)

pub left_code : IsCode (λ (c : Character). c.digit < 10) 4 left_widths left_char
left_code = record { width = λ c h. length-left c.set c.digit h; back = λ c h. left_back c.set c.digit h }

pub right_code : IsCode (λ d. d < 10) 4 right_widths right_digit
right_code = record {
  width = λ d h. length-left A d h;
  back = λ d h. eqb-true _ _ (all_below-at (λ d. right_digit (right_widths d) == d) 10 refl d h);
}

-- a digit of a list of them
pub digit_at : (i : ℕ) (ds : List ℕ) → AreDigits ds → i < length ds → get_or ds i 0 < 10
digit_at i [] v h = absurd (omega arith)
digit_at zero (d ∷ ds) v h = v.0
digit_at (suc i) (d ∷ ds) v h = digit_at i ds v.1 (omega arith)

pub characters_valid : (row : List NumberSet) (ds : List ℕ) → AreDigits ds → AreCharacters (characters_in row ds)
characters_valid [] ds h = tt
characters_valid (s ∷ row) [] h = tt
characters_valid (s ∷ row) (d ∷ ds) h = (h.0, characters_valid row ds h.1)

pub length-characters : (row : List NumberSet) (ds : List ℕ) (n : ℕ) → length row ≡ n → length ds ≡ n → length (characters_in row ds) ≡ n
length-characters row ds n r l = length-map (zip row ds) (λ (c : NumberSet × ℕ). in_set c.0 c.1) ∙ length-zip row ds ∙ (omega arith)

-- characters have the sets and the digits that they are made of
pub sets-characters : (row : List NumberSet) (ds : List ℕ) → length ds ≡ length row → character_sets (characters_in row ds) ≡ row
sets-characters [] [] e = refl
sets-characters [] (d ∷ ds) e = absurd (omega arith)
sets-characters (s ∷ row) [] e = absurd (omega arith)
sets-characters (s ∷ row) (d ∷ ds) e = ap (λ r. s ∷ r) (sets-characters row ds (omega arith))

pub digits-characters : (row : List NumberSet) (ds : List ℕ) → length ds ≡ length row → character_digits (characters_in row ds) ≡ ds
digits-characters [] [] e = refl
digits-characters [] (d ∷ ds) e = absurd (omega arith)
digits-characters (s ∷ row) [] e = absurd (omega arith)
digits-characters (s ∷ row) (d ∷ ds) e = ap (λ r. d ∷ r) (digits-characters row ds (omega arith))

pub get_or-characters : (row : List NumberSet) (ds : List ℕ) (i : ℕ) (s : NumberSet) → i < length row → i < length ds
    → get_or (characters_in row ds) i (in_set s 0) ≡ in_set (get_or row i s) (get_or ds i 0)
get_or-characters [] ds i s h k = absurd (omega arith)
get_or-characters (r ∷ row) [] i s h k = absurd (omega arith)
get_or-characters (r ∷ row) (d ∷ ds) zero s h k = refl
get_or-characters (r ∷ row) (d ∷ ds) (suc i) s h k = get_or-characters row ds i s (omega arith) (omega arith)

-- the n characters after the first normal_guard
abbrev pub lefts : ℕ → List ℕ → List Character
lefts n ms = cells 4 left_char n (drop 3 ms)

module _ (n : ℕ) (row : List NumberSet) (ds rest : List ℕ) (rows : length row ≡ n) (digits : length ds ≡ n) (valid : AreDigits ds) where
  pub lefts-drawn : lefts n (normal_guard ++ (left_part row ds ++ rest)) ≡ characters_in row ds
  lefts-drawn =
      subst (λ k. cells 4 left_char k (left_part row ds ++ rest) ≡ characters_in row ds) (length-characters row ds n rows digits)
      (cells-flat_map _ 4 left_widths left_char left_code (characters_in row ds) rest (characters_valid row ds valid))

  pub drop-left_part : (k : ℕ) → n * 4 ≡ k → drop k (left_part row ds ++ rest) ≡ rest
  drop-left_part k e = drop-cells _ 4 left_widths left_char left_code (characters_in row ds) rest k (characters_valid row ds valid)
      (ap (λ i. i * 4) (length-characters row ds n rows digits) ∙ e)

pub rights-drawn : (n : ℕ) (ds rest : List ℕ) → length ds ≡ n → AreDigits ds → cells 4 right_digit n (right_part ds ++ rest) ≡ ds
rights-drawn n ds rest e valid =
    subst (λ k. cells 4 right_digit k (right_part ds ++ rest) ≡ ds) e (cells-flat_map _ 4 right_widths right_digit right_code ds rest valid)
