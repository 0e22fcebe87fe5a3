-- EAN-8: what is read of it, and what it owes.
use Rattle.std.proofs.Common.{◌≡◌, ℕ, ◌+◌, true, List, ◌++◌, length, take, drop, replicate, refl, sym, ap, ap₂, ◌∙◌, arith, get_or, sum, reverse}
use Rattle.std.proofs.lemmas.List.{length-take, length-drop, length-map, length-append, take_at, drop_at, take-append-drop}
use Rattle.std.specs.List.{flat_map, list_all}
use Rattle.digits_core.specs.Digits.{AreDigits}
use Rattle.ean_code.specs.Laws.{ReplacedDigitIsUnchecked}
use Rattle.ean_code.specs.NumberSets.{characters_in, ean8_row, left_part, left_widths, right_part}
use Rattle.ean_code.specs.Symbols.{IsNumberSymbol, widths_of}
use Rattle.ean_code.specs.Guards.{normal_guard, centre_guard}
use Rattle.ean_code.specs.inner.Parts.{two_halves}
use Rattle.ean_code.specs.Widths.{AreWidths}
use Rattle.ean_code.specs.declared.kind.Kind.TheVariants.{Ean8}
use Rattle.ean_code.specs.declared.number_sets.Character.{Character}
use Rattle.ean_code.specs.declared.number_sets.NumberSet.TheVariants.{A, B}
use Rattle.ean_code.specs.inner.NumberSets.{character_digits, character_sets, is_a}
use Rattle.ean_code.specs.inner.Parts.{AreHalves}
use Rattle.ean_code.proofs.Cells.{halves_are, AllByRecursion-append, AllByRecursion-drop, AllByRecursion-take, cells}
use Rattle.ean_code.proofs.Characters.{characters_valid, length-characters, sets-characters, right_digit, lefts, lefts-drawn, drop-left_part, rights-drawn, digits-characters}
use Rattle.ean_code.proofs.CountFacts.{Measures, right_measures, left_measures, halves_measure}
use Rattle.ean_code.proofs.Drawn.{left_part_valid, right_part_valid, halves_valid}
use Rattle.ean_code.proofs.Found.{drawn_as}
use Rattle.ean_code.proofs.Joined.{AreDigits-characters, row-of_a}
use Rattle.ean_code.proofs.Owed.{Owes, measured}
use Rattle.ean_code.proofs.Replaced.{noticed_padded}
use Rattle.ean_code.proofs.Turned.{lefts-backward, first_set, first-backward}
use Rattle.ean_code.proofs.Texts.{length-padded}

pub halves8 : (ws ds : List ℕ) → IsNumberSymbol Ean8 ws ds → AreHalves 4 ws (characters_in ean8_row (take 4 ds)) (drop 4 ds)
halves8 ws ds e =
    let n = e.count in
    record {
      left_count = length-characters ean8_row (take 4 ds) 4 refl (length-take 4 ds ∙ (omega arith));
      right_count = length-drop 4 ds ∙ (omega arith);
      left_valid = characters_valid ean8_row _ (AllByRecursion-take _ 4 ds e.valid);
      right_valid = AllByRecursion-drop _ 4 ds e.valid;
      shown = e.widths;
    }

pub found8 : (ws : List ℕ) (cs : List Character) (rs : List ℕ) → AreHalves 4 ws cs rs → list_all (λ c. is_a c.set) cs ≡ true
    → IsNumberSymbol Ean8 ws (character_digits cs ++ rs)
found8 ws cs rs h a =
    let four : length (character_digits cs) ≡ 4 = length-map cs _ ∙ h.left_count in
    let row : character_sets cs ≡ ean8_row = row-of_a cs a ∙ ap (λ n. replicate n A) h.left_count in
    let left : left_part ean8_row (take 4 (character_digits cs ++ rs)) ≡ flat_map left_widths cs =
    ap (left_part ean8_row) (take_at (character_digits cs) rs 4 four) ∙ drawn_as _ cs row in
    let right : right_part (drop 4 (character_digits cs ++ rs)) ≡ right_part rs = ap right_part (drop_at (character_digits cs) rs 4 four) in
    record {
      count = length-append (character_digits cs) rs ∙ ap₂ (λ m n. m + n) four h.right_count;
      valid = AllByRecursion-append _ (character_digits cs) rs (AreDigits-characters cs h.left_valid) h.right_valid;
      widths = h.shown ∙ ap₂ two_halves (sym left) (sym right);
    }

-- the digits that modules show, if they show some
abbrev shown : List ℕ → List ℕ
shown ms = character_digits (lefts 4 ms) ++ cells 4 right_digit 4 (drop 5 (drop 16 (drop 3 ms)))

pub drawn8 : (ls rs : List ℕ) → AreDigits ls → AreDigits rs → length ls ≡ 4 → length rs ≡ 4
    → shown (normal_guard ++ (left_part ean8_row ls ++ (centre_guard ++ (right_part rs ++ normal_guard)))) ≡ ls ++ rs
drawn8 ls rs lv rv ll rl =
    let rest = centre_guard ++ (right_part rs ++ normal_guard) in
    let left = lefts-drawn 4 ean8_row ls rest refl ll lv in
    let right = ap (λ ms. cells 4 right_digit 4 (drop 5 ms)) (drop-left_part 4 ean8_row ls rest refl ll lv 16 refl) ∙ rights-drawn 4 rs normal_guard rl rv in
    ap₂ (λ a b. a ++ b) (ap character_digits left ∙ digits-characters ean8_row ls ll) right

pub shown_is : (ms ds : List ℕ) → IsNumberSymbol Ean8 ms ds → shown ms ≡ ds
shown_is ms ds e =
    let all = e.count in
    ap shown (e.widths ∙ halves_are _ _)
    ∙ drawn8 (take 4 ds) (drop 4 ds) (AllByRecursion-take _ 4 ds e.valid) (AllByRecursion-drop _ 4 ds e.valid)
    (length-take 4 ds ∙ (omega arith)) (length-drop 4 ds ∙ (omega arith))
    ∙ take-append-drop 4 ds

pub measures : (ms ds : List ℕ) → IsNumberSymbol Ean8 ms ds → Measures ms 43 67
measures ms ds e =
    let count = e.count in
    let four_count : length (take 4 ds) ≡ 4 = omega (arith, length-take {A = ℕ}) in
    let left = left_measures ean8_row (take 4 ds) (sym four_count) (AllByRecursion-take _ 4 ds e.valid) in
    let right_count : length (drop 4 ds) ≡ 4 = omega (arith, length-drop {A = ℕ}) in
    let right = right_measures (drop 4 ds) (AllByRecursion-drop _ 4 ds e.valid) in
    let all = halves_measure (left_part ean8_row (take 4 ds)) (right_part (drop 4 ds)) 16 28
    (left.0 ∙ (omega arith), left.1 ∙ (omega arith)) (right.0 ∙ (omega arith), right.1 ∙ (omega arith)) in
    (ap length e.widths ∙ all.0, ap sum e.widths ∙ all.1)

pub forward8 : (ms ds : List ℕ) → IsNumberSymbol Ean8 ms ds → first_set 4 ms ≡ A
forward8 ms ds e =
    let all = e.count in
    let ll : length (take 4 ds) ≡ 4 = length-take 4 ds ∙ (omega arith) in
    ap (first_set 4) (e.widths ∙ halves_are _ _)
    ∙ ap (λ cs. get_or (character_sets cs) 0 B) (lefts-drawn 4 ean8_row (take 4 ds) _ refl ll (AllByRecursion-take _ 4 ds e.valid))
    ∙ ap (λ r. get_or r 0 B) (sets-characters ean8_row (take 4 ds) ll)

pub backward8 : (ms ds : List ℕ) → IsNumberSymbol Ean8 ms ds → first_set 4 (reverse ms) ≡ B
backward8 ms ds e =
    let all = e.count in
    ap (λ m. first_set 4 (reverse m)) (e.widths ∙ halves_are _ _)
    ∙ ap (λ cs. get_or (character_sets cs) 0 B) (lefts-backward 4 normal_guard (left_part ean8_row (take 4 ds)) centre_guard (drop 4 ds)
    (length-drop 4 ds ∙ (omega arith)) (AllByRecursion-drop _ 4 ds e.valid))
    ∙ first-backward (reverse (drop 4 ds))

pub one_way : (ms ds es : List ℕ) → IsNumberSymbol Ean8 ms ds → IsNumberSymbol Ean8 (reverse ms) es → ⊥
one_way ms ds es e f = let a = forward8 (reverse ms) es f in let b = backward8 ms ds e in cc

replaced : ReplacedDigitIsUnchecked Ean8
replaced ds gtin other k d n v e c place small differs f o =
    let below = place.1 in noticed_padded ds gtin other k d v e c (omega arith) small differs f o

valid : (ds : List ℕ) → length ds ≡ 8 → AreDigits ds → AreWidths (widths_of Ean8 ds)
valid ds e v = halves_valid _ _ (left_part_valid ean8_row _ (AllByRecursion-take _ 4 ds v)) (right_part_valid _ (AllByRecursion-drop _ 4 ds v))

-- what it owes
pub owed : Owes Ean8
owed = record {
  measures = λ ms ds e. measured Ean8 ms ds e (valid ds e.count e.valid) (measures ms ds e);
  shown = shown;
  shown_is = shown_is;
  fourteen = λ ds e. length-padded ds (omega arith);
  one_way = one_way;
  replaced = replaced;
  printed = refl;
}
