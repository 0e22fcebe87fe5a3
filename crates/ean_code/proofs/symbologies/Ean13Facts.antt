-- EAN-13: what is read of it, and what it owes.
use Rattle.std.proofs.Common.{◌≡◌, ℕ, suc, ◌+◌, ◌<◌, List, [], ◌∷◌, ◌++◌, length, take, drop, refl, sym, ap, ap₂, ◌∙◌, arith, get_or, eqb-true, sum, reverse}
use Rattle.std.proofs.lemmas.Bool.{and_parts}
use Rattle.std.proofs.lemmas.List.{length-take, length-drop, length-map, length-append, take_at, drop_at, take-append-drop}
use Rattle.std.specs.List.{flat_map}
use Rattle.digits_core.specs.Digits.{AreDigits}
use Rattle.ean_code.specs.Laws.{ReplacedDigitIsUnchecked}
use Rattle.ean_code.specs.NumberSets.{characters_in, ean13_rows, left_part, left_widths, right_part, row_of}
use Rattle.ean_code.specs.Symbols.{IsNumberSymbol, widths_of}
use Rattle.ean_code.specs.Guards.{normal_guard, centre_guard}
use Rattle.ean_code.specs.inner.Parts.{two_halves}
use Rattle.ean_code.specs.Widths.{AreWidths}
use Rattle.ean_code.specs.declared.kind.Kind.TheVariants.{Ean13}
use Rattle.ean_code.specs.declared.number_sets.Character.{Character}
use Rattle.ean_code.specs.declared.number_sets.NumberSet.{NumberSet}
use Rattle.ean_code.specs.declared.number_sets.NumberSet.TheVariants.{A, B}
use Rattle.ean_code.specs.inner.NumberSets.{character_digits, character_sets}
use Rattle.ean_code.specs.inner.Parts.{AreHalves}
use Rattle.ean_code.proofs.Cells.{halves_are, AllByRecursion-append, AllByRecursion-drop, AllByRecursion-take, all_below-at, cells}
use Rattle.ean_code.proofs.Characters.{characters_valid, digit_at, length-characters, sets-characters, right_digit, lefts, lefts-drawn, drop-left_part, rights-drawn, digits-characters, same_set, same_set-true}
use Rattle.ean_code.proofs.CountFacts.{Measures, each-at, right_measures, left_measures, halves_measure, IsSix, sixes_13}
use Rattle.ean_code.proofs.Drawn.{left_part_valid, right_part_valid, halves_valid}
use Rattle.ean_code.proofs.Found.{drawn_as}
use Rattle.ean_code.proofs.Joined.{AreDigits-characters}
use Rattle.ean_code.proofs.Owed.{Owes, measured}
use Rattle.ean_code.proofs.ParityRows.{length-row, row_place, row_ok, rows_tested}
use Rattle.ean_code.proofs.Replaced.{noticed_padded}
use Rattle.ean_code.proofs.Turned.{lefts-backward, first_set, first-backward}
use Rattle.ean_code.proofs.Texts.{length-padded}

-- the characters that a symbol is drawn with
abbrev pub first_row : List ℕ → List NumberSet
first_row ds = row_of ean13_rows (get_or ds 0 0)

pub first_small : (ws ds : List ℕ) → IsNumberSymbol Ean13 ws ds → get_or ds 0 0 < 10
first_small ws ds e = let n = e.count in digit_at 0 ds e.valid (omega arith)

left_long : (ws ds : List ℕ) → IsNumberSymbol Ean13 ws ds → length (take 6 (drop 1 ds)) ≡ 6
left_long ws ds e = let n = e.count in let m = length-drop 1 ds in length-take 6 (drop 1 ds) ∙ (omega arith)

pub row13 : (ws ds : List ℕ) → IsNumberSymbol Ean13 ws ds → character_sets (characters_in (first_row ds) (take 6 (drop 1 ds))) ≡ first_row ds
row13 ws ds e = sets-characters (first_row ds) (take 6 (drop 1 ds)) (left_long ws ds e ∙ sym (length-row (get_or ds 0 0) (first_small ws ds e)))

pub halves13 : (ws ds : List ℕ) → IsNumberSymbol Ean13 ws ds → AreHalves 6 ws (characters_in (first_row ds) (take 6 (drop 1 ds))) (drop 7 ds)
halves13 ws ds e =
    let n = e.count in
    let ll = left_long ws ds e in
    let six = length-row (get_or ds 0 0) (first_small ws ds e) in
    record {
      left_count = length-characters (first_row ds) (take 6 (drop 1 ds)) 6 six ll;
      right_count = length-drop 7 ds ∙ (omega arith);
      left_valid = characters_valid (first_row ds) _ (AllByRecursion-take _ 6 (drop 1 ds) (AllByRecursion-drop _ 1 ds e.valid));
      right_valid = AllByRecursion-drop _ 7 ds e.valid;
      shown = e.widths;
    }

pub found13 : (ws : List ℕ) (d : ℕ) (cs : List Character) (rs : List ℕ) → AreHalves 6 ws cs rs → d < 10 → character_sets cs ≡ row_of ean13_rows d
    → IsNumberSymbol Ean13 ws (d ∷ (character_digits cs ++ rs))
found13 ws d cs rs h small row =
    let six : length (character_digits cs) ≡ 6 = length-map cs _ ∙ h.left_count in
    let left : left_part (row_of ean13_rows d) (take 6 (character_digits cs ++ rs)) ≡ flat_map left_widths cs =
    ap (left_part (row_of ean13_rows d)) (take_at (character_digits cs) rs 6 six) ∙ drawn_as _ cs row in
    let right : right_part (drop 6 (character_digits cs ++ rs)) ≡ right_part rs = ap right_part (drop_at (character_digits cs) rs 6 six) in
    record {
      count = ap (λ n. suc n) (length-append (character_digits cs) rs ∙ ap₂ (λ m n. m + n) six h.right_count);
      valid = (small, AllByRecursion-append _ (character_digits cs) rs (AreDigits-characters cs h.left_valid) h.right_valid);
      widths = h.shown ∙ ap₂ two_halves (sym left) (sym right);
    }

-- the digits that modules show, if they show some
abbrev shown : List ℕ → List ℕ
shown ms = row_place ean13_rows (character_sets (lefts 6 ms)) ∷ (character_digits (lefts 6 ms) ++ cells 4 right_digit 6 (drop 5 (drop 24 (drop 3 ms))))

pub drawn13 : (d : ℕ) (ls rs : List ℕ) → d < 10 → AreDigits ls → AreDigits rs → length ls ≡ 6 → length rs ≡ 6
    → shown (normal_guard ++ (left_part (row_of ean13_rows d) ls ++ (centre_guard ++ (right_part rs ++ normal_guard)))) ≡ d ∷ (ls ++ rs)
drawn13 d ls rs small lv rv ll rl =
    let row = row_of ean13_rows d in
    let rest = centre_guard ++ (right_part rs ++ normal_guard) in
    let tested = and_parts _ _ (all_below-at (row_ok ean13_rows) 10 rows_tested.0 d small) in
    let six : length row ≡ 6 = eqb-true _ _ tested.1 in
    let left = lefts-drawn 6 row ls rest six ll lv in
    let right = ap (λ ms. cells 4 right_digit 6 (drop 5 ms)) (drop-left_part 6 row ls rest six ll lv 24 refl) ∙ rights-drawn 6 rs normal_guard rl rv in
    let first : row_place ean13_rows (character_sets (characters_in row ls)) ≡ d =
    ap (row_place ean13_rows) (sets-characters row ls (ll ∙ sym six)) ∙ eqb-true _ _ tested.0 in
    let others : character_digits (characters_in row ls) ≡ ls = digits-characters row ls (ll ∙ sym six) in
    ap₂ (λ a b. a ∷ b) (ap (λ cs. row_place ean13_rows (character_sets cs)) left ∙ first) (ap₂ (λ a b. a ++ b) (ap character_digits left ∙ others) right)

pub shown_is : (ms ds : List ℕ) → IsNumberSymbol Ean13 ms ds → shown ms ≡ ds
shown_is ms [] e = absurd (let none = e.count in omega arith)
shown_is ms (d ∷ ds) e =
    let twelve : length ds ≡ 12 = let all = e.count in omega arith in
    ap shown (e.widths ∙ halves_are _ _)
    ∙ drawn13 d (take 6 ds) (drop 6 ds) e.valid.0 (AllByRecursion-take _ 6 ds e.valid.1) (AllByRecursion-drop _ 6 ds e.valid.1)
    (length-take 6 ds ∙ (omega arith)) (length-drop 6 ds ∙ (omega arith))
    ∙ ap (λ xs. d ∷ xs) (take-append-drop 6 ds)

pub measures : (ms ds : List ℕ) → IsNumberSymbol Ean13 ms ds → Measures ms 59 95
measures ms ds e =
    let count = e.count in
    let first : get_or ds 0 0 < 10 = each-at (λ d. d < 10) ds 0 0 e.valid (omega arith) in
    let six = take 6 (drop 1 ds) in
    let six_count : length six ≡ 6 = omega (arith, length-take {A = ℕ}, length-drop {A = ℕ}) in
    let row : length (row_of ean13_rows (get_or ds 0 0)) ≡ 6 = each-at IsSix ean13_rows (get_or ds 0 0) [] sixes_13 first in
    let left = left_measures (row_of ean13_rows (get_or ds 0 0)) six (row ∙ sym six_count)
    (AllByRecursion-take _ 6 (drop 1 ds) (AllByRecursion-drop _ 1 ds e.valid)) in
    let right_count : length (drop 7 ds) ≡ 6 = omega (arith, length-drop {A = ℕ}) in
    let right = right_measures (drop 7 ds) (AllByRecursion-drop _ 7 ds e.valid) in
    let all = halves_measure (left_part (row_of ean13_rows (get_or ds 0 0)) six) (right_part (drop 7 ds)) 24 42
    (left.0 ∙ (omega arith), left.1 ∙ (omega arith)) (right.0 ∙ (omega arith), right.1 ∙ (omega arith)) in
    (ap length e.widths ∙ all.0, ap sum e.widths ∙ all.1)

pub begins_a : (d : ℕ) → d < 10 → get_or (row_of ean13_rows d) 0 B ≡ A
begins_a d h = same_set-true _ _ (all_below-at (λ d. same_set (get_or (row_of ean13_rows d) 0 B) A) 10 refl d h)

pub forward13 : (ms ds : List ℕ) → IsNumberSymbol Ean13 ms ds → first_set 6 ms ≡ A
forward13 ms [] e = absurd (let none = e.count in omega arith)
forward13 ms (d ∷ ds) e =
    let twelve : length ds ≡ 12 = let all = e.count in omega arith in
    let row : List NumberSet = row_of ean13_rows d in
    let ll : length (take 6 ds) ≡ 6 = length-take 6 ds ∙ (omega arith) in
    let six : length row ≡ 6 = length-row d e.valid.0 in
    ap (first_set 6) (e.widths ∙ halves_are _ _)
    ∙ ap (λ cs. get_or (character_sets cs) 0 B) (lefts-drawn 6 row (take 6 ds) _ six ll (AllByRecursion-take _ 6 ds e.valid.1))
    ∙ ap (λ r. get_or r 0 B) (sets-characters row (take 6 ds) (ll ∙ sym six))
    ∙ begins_a d e.valid.0

pub backward13 : (ms ds : List ℕ) → IsNumberSymbol Ean13 ms ds → first_set 6 (reverse ms) ≡ B
backward13 ms [] e = absurd (let none = e.count in omega arith)
backward13 ms (d ∷ ds) e =
    let twelve : length ds ≡ 12 = let all = e.count in omega arith in
    ap (λ m. first_set 6 (reverse m)) (e.widths ∙ halves_are _ _)
    ∙ ap (λ cs. get_or (character_sets cs) 0 B) (lefts-backward 6 normal_guard (left_part (row_of ean13_rows d) (take 6 ds)) centre_guard (drop 6 ds)
    (length-drop 6 ds ∙ (omega arith)) (AllByRecursion-drop _ 6 ds e.valid.1))
    ∙ first-backward (reverse (drop 6 ds))

pub one_way : (ms ds es : List ℕ) → IsNumberSymbol Ean13 ms ds → IsNumberSymbol Ean13 (reverse ms) es → ⊥
one_way ms ds es e f = let a = forward13 (reverse ms) es f in let b = backward13 ms ds e in cc

replaced : ReplacedDigitIsUnchecked Ean13
replaced ds gtin other k d n v e c place small differs f o =
    let below = place.1 in noticed_padded ds gtin other k d v e c (omega arith) small differs f o

valid : (ds : List ℕ) → length ds ≡ 13 → AreDigits ds → AreWidths (widths_of Ean13 ds)
valid ds e v =
    halves_valid _ _ (left_part_valid _ _ (AllByRecursion-take _ 6 (drop 1 ds) (AllByRecursion-drop _ 1 ds v))) (right_part_valid _ (AllByRecursion-drop _ 7 ds v))

-- what it owes
pub owed : Owes Ean13
owed = record {
  measures = λ ms ds e. measured Ean13 ms ds e (valid ds e.count e.valid) (measures ms ds e);
  shown = shown;
  shown_is = shown_is;
  fourteen = λ ds e. length-padded ds (omega arith);
  one_way = one_way;
  replaced = replaced;
  printed = refl;
}
