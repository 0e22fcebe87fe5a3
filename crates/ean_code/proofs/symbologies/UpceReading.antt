-- UPC-E: what is read of it, and what it owes. Backwards it would be six characters 1114, and so a row of set A alone.
use Rattle.std.proofs.Common.{◌≡◌, ℕ, suc, ◌<◌, true, List, [], ◌∷◌, ◌++◌, length, take, drop, refl, sym, ap, ap₂, ◌∙◌, arith, get_or, subst, eqb-true, zero, ◌&&◌, ◌==◌, sum, reverse, Bool, false, nat_le}
use Rattle.std.proofs.lemmas.Bool.{and_parts}
use Rattle.std.proofs.lemmas.List.{length-take, length-append, take-append-drop, drop_more, drop_all, reverse-append, append_assoc, reverse-reverse, append_cancel_left, append_cancel_right}
use Rattle.std.specs.List.{flat_map, AllByRecursion}
use Rattle.std.specs.Prelude.{if◌then◌else◌}
use Rattle.digits_core.specs.Digits.{AreDigits, IsChecked}
use Rattle.digits_core.specs.Upce.{upce_expanded}
use Rattle.ean_code.specs.Spelling.{gtin_of}
use Rattle.ean_code.specs.Laws.{ReplacedDigitIsUnchecked}
use Rattle.ean_code.specs.NumberSets.{characters_in, left_part, left_widths, row_of, upce_rows, in_set}
use Rattle.ean_code.specs.Symbols.{IsNumberSymbol, widths_of}
use Rattle.ean_code.specs.Guards.{normal_guard, special_guard}
use Rattle.ean_code.specs.Widths.{AreWidths}
use Rattle.ean_code.specs.declared.kind.Kind.TheVariants.{UpcE}
use Rattle.ean_code.specs.declared.number_sets.Character.{Character}
use Rattle.ean_code.specs.declared.number_sets.NumberSet.{NumberSet}
use Rattle.ean_code.specs.declared.number_sets.NumberSet.TheVariants.{A, B}
use Rattle.ean_code.specs.inner.NumberSets.{character_digits, character_sets, is_a, AreCharacters}
use Rattle.ean_code.specs.inner.Parts.{AreSix}
use Rattle.ean_code.proofs.Cells.{AllByRecursion-append, AllByRecursion-drop, AllByRecursion-take, all_below-at, AllByRecursion-reverse, reverse-flat_map, same, same-true, all_below}
use Rattle.ean_code.proofs.Characters.{characters_valid, digit_at, length-characters, sets-characters, lefts, lefts-drawn, digits-characters, same_set, same_set-true, length-left}
use Rattle.ean_code.proofs.CountFacts.{Measures, joined, each-at, left_measures, IsSix, sixes_e}
use Rattle.ean_code.proofs.Drawn.{left_part_valid, guard_valid}
use Rattle.ean_code.proofs.Joined.{set-of_a}
use Rattle.ean_code.proofs.Owed.{Owes, measured}
use Rattle.ean_code.proofs.ParityRows.{length-upce_row, row_place, row_ok, rows_tested}
use Rattle.ean_code.proofs.Replaced.{noticed, unpadded}
use Rattle.ean_code.proofs.Texts.{length-padded}

abbrev pub last_row : List ℕ → List NumberSet
last_row ds = row_of upce_rows (get_or ds 6 0)

pub last_small : (ws ds : List ℕ) → IsNumberSymbol UpcE ws ds → get_or ds 6 0 < 10
last_small ws ds e = let n = e.count in digit_at 6 ds e.valid (omega arith)

six_long : (ws ds : List ℕ) → IsNumberSymbol UpcE ws ds → length (take 6 ds) ≡ 6
six_long ws ds e = let n = e.count in length-take 6 ds ∙ (omega arith)

pub rowE : (ws ds : List ℕ) → IsNumberSymbol UpcE ws ds → character_sets (characters_in (last_row ds) (take 6 ds)) ≡ last_row ds
rowE ws ds e = sets-characters (last_row ds) (take 6 ds) (six_long ws ds e ∙ sym (length-upce_row (get_or ds 6 0) (last_small ws ds e)))

pub sixE : (ws ds : List ℕ) → IsNumberSymbol UpcE ws ds → AreSix ws (characters_in (last_row ds) (take 6 ds))
sixE ws ds e =
    let ll = six_long ws ds e in
    let six = length-upce_row (get_or ds 6 0) (last_small ws ds e) in
    record {
      count = length-characters (last_row ds) (take 6 ds) 6 six ll;
      valid = characters_valid (last_row ds) _ (AllByRecursion-take _ 6 ds e.valid);
      shown = e.widths;
    }

-- the digits that modules show, if they show some
abbrev shown : List ℕ → List ℕ
shown ms = character_digits (lefts 6 ms) ++ row_place upce_rows (character_sets (lefts 6 ms)) ∷ []

pub drawnE : (ls : List ℕ) (c : ℕ) → AreDigits ls → c < 10 → length ls ≡ 6
    → shown (normal_guard ++ (left_part (row_of upce_rows c) ls ++ (special_guard))) ≡ ls ++ c ∷ []
drawnE ls c lv small ll =
    let row = row_of upce_rows c in
    let tested = and_parts _ _ (all_below-at (row_ok upce_rows) 10 rows_tested.1 c small) in
    let six : length row ≡ 6 = eqb-true _ _ tested.1 in
    let left = lefts-drawn 6 row ls (special_guard) six ll lv in
    let check : row_place upce_rows (character_sets (characters_in row ls)) ≡ c =
    ap (row_place upce_rows) (sets-characters row ls (ll ∙ sym six)) ∙ eqb-true _ _ tested.0 in
    ap₂ (λ a b. a ++ b ∷ []) (ap character_digits left ∙ digits-characters row ls (ll ∙ sym six))
    (ap (λ cs. row_place upce_rows (character_sets cs)) left ∙ check)

pub shown_is : (ms ds : List ℕ) → IsNumberSymbol UpcE ms ds → shown ms ≡ ds
shown_is ms ds e =
    let all = e.count in
    let six : length (take 6 ds) ≡ 6 = length-take 6 ds ∙ (omega arith) in
    let last : drop 6 ds ≡ get_or ds 6 0 ∷ [] = drop_more ds 6 0 (omega arith) ∙ ap (λ xs. get_or ds 6 0 ∷ xs) (drop_all 7 ds (omega arith)) in
    ap shown e.widths
    ∙ drawnE (take 6 ds) (get_or ds 6 0) (AllByRecursion-take _ 6 ds e.valid) ((subst AreDigits last (AllByRecursion-drop _ 6 ds e.valid)).0) six
    ∙ ap (λ xs. take 6 ds ++ xs) (sym last)
    ∙ take-append-drop 6 ds

pub measures : (ms ds : List ℕ) → IsNumberSymbol UpcE ms ds → Measures ms 33 51
measures ms ds e =
    let count = e.count in
    let check : get_or ds 6 0 < 10 = each-at (λ d. d < 10) ds 6 0 e.valid (omega arith) in
    let six_count : length (take 6 ds) ≡ 6 = omega (arith, length-take {A = ℕ}) in
    let row : length (row_of upce_rows (get_or ds 6 0)) ≡ 6 = each-at IsSix upce_rows (get_or ds 6 0) [] sixes_e check in
    let left = left_measures (row_of upce_rows (get_or ds 6 0)) (take 6 ds) (row ∙ sym six_count) (AllByRecursion-take _ 6 ds e.valid) in
    let part = left_part (row_of upce_rows (get_or ds 6 0)) (take 6 ds) in
    let end = joined part special_guard 24 6 42 6 (left.0 ∙ (omega arith), left.1 ∙ (omega arith)) (refl, refl) in
    let all = joined normal_guard (part ++ special_guard) 3 30 3 48 (refl, refl) end in
    (ap length e.widths ∙ all.0, ap sum e.widths ∙ all.1)

-- a character that begins 1 1 1 is the digit 6 of set A
pub ones_are_six : (s : NumberSet) → all_below (λ d. if same (take 3 (left_widths (in_set s d))) normal_guard then same (left_widths (in_set s d))
    (1 ∷ 1 ∷ 1 ∷ 4 ∷ []) && is_a s else true) 10 ≡ true
ones_are_six A = refl
ones_are_six B = refl

-- a character that ends in 4, too
pub fours_are_six : (s : NumberSet) → all_below (λ d. if get_or (left_widths (in_set s d)) 3 0 == 4 then same (left_widths (in_set s d)) (1 ∷ 1 ∷ 1 ∷ 4 ∷ [])
    else true) 10 ≡ true
fours_are_six A = refl
fours_are_six B = refl

pub implied : (t x : Bool) → (if t then x else true) ≡ true → t ≡ true → x ≡ true
implied true x h e = h
implied false x h e = cc

pub six_a : (s : NumberSet) (d : ℕ) → d < 10 → take 3 (left_widths (in_set s d)) ≡ normal_guard → (left_widths (in_set s d) ≡ 1 ∷ 1 ∷ 1 ∷ 4 ∷ []) × (s ≡ A)
six_a s d h e =
    let w = left_widths (in_set s d) in
    let ok = implied (same (take 3 w) normal_guard) (same w (1 ∷ 1 ∷ 1 ∷ 4 ∷ []) && is_a s)
    (all_below-at (λ d. if same (take 3 (left_widths (in_set s d))) normal_guard then same (left_widths (in_set s d)) (1 ∷ 1 ∷ 1 ∷ 4 ∷ []) && is_a s else true)
    10 (ones_are_six s) d h)
    (ap (λ v. same v normal_guard) e) in
    let parts = and_parts _ _ ok in (same-true _ _ parts.0, set-of_a s parts.1)

pub six_from_four : (s : NumberSet) (d : ℕ) → d < 10 → get_or (left_widths (in_set s d)) 3 0 ≡ 4 → left_widths (in_set s d) ≡ 1 ∷ 1 ∷ 1 ∷ 4 ∷ []
six_from_four s d h e =
    same-true _ _ (implied (get_or (left_widths (in_set s d)) 3 0 == 4) _
    (all_below-at (λ d. if get_or (left_widths (in_set s d)) 3 0 == 4 then same (left_widths (in_set s d)) (1 ∷ 1 ∷ 1 ∷ 4 ∷ []) else true) 10 (fours_are_six s)
    d h)
    (ap (λ n. n == 4) e))

-- the widths of characters, over variables
pub shift : (a b c d p q r s : ℕ) (xs ys : List ℕ) → a ∷ b ∷ c ∷ d ∷ xs ≡ 1 ∷ 1 ∷ 1 ∷ s ∷ r ∷ q ∷ p ∷ ys
    → (a ∷ b ∷ c ∷ [] ≡ normal_guard) × (d ≡ s) × (xs ≡ r ∷ q ∷ p ∷ ys)
shift a b c d p q r s xs ys e = (cc, cc, cc)

-- a list of four
as_four : (ws : List ℕ) → length ws ≡ 4 → ws ≡ get_or ws 0 0 ∷ get_or ws 1 0 ∷ get_or ws 2 0 ∷ get_or ws 3 0 ∷ []
as_four (a ∷ b ∷ c ∷ d ∷ []) h = refl
as_four [] h = absurd (omega arith)
as_four (a ∷ []) h = absurd (omega arith)
as_four (a ∷ b ∷ []) h = absurd (omega arith)
as_four (a ∷ b ∷ c ∷ []) h = absurd (omega arith)
as_four (a ∷ b ∷ c ∷ d ∷ e ∷ ws) h = absurd (omega arith)

pub all_sixes : (cs ds : List Character) → AreCharacters cs → AreCharacters ds
    → flat_map left_widths cs ++ normal_guard ≡ normal_guard ++ flat_map (λ x. reverse (left_widths x)) ds → AllByRecursion (λ (c : Character). c.set ≡ A) cs
all_sixes [] ds v u e = tt
all_sixes (c ∷ cs) [] v u e = absurd (omega (
  arith,
  ap length e,
  length-append (left_widths c ++ flat_map left_widths cs) normal_guard,
  length-append
      (left_widths c) (flat_map left_widths cs),
  length-left c.set c.digit v.0,
))
all_sixes (c ∷ cs) (d ∷ ds) v u e =
    let rest = flat_map (λ (c : Character). reverse (left_widths c)) ds in
    let here = as_four (left_widths c) (length-left c.set c.digit v.0) in
    let there = as_four (left_widths d) (length-left d.set d.digit u.0) in
    let parts = shift _ _ _ _ _ _ _ _ _ _
    (ap (λ w. (w ++ flat_map left_widths cs) ++ normal_guard) (sym here) ∙ e ∙ ap (λ w. normal_guard ++ (reverse w ++ rest)) there) in
    let one = six_a c.set c.digit v.0 (ap (take 3) here ∙ parts.0) in
    let four_at : get_or (left_widths d) 3 0 ≡ 4 = sym parts.1 ∙ ap (λ w. get_or w 3 0) one.0 in
    let other = six_from_four d.set d.digit u.0 four_at in
    (one.1, all_sixes cs ds v.1 u.1 (parts.2 ∙ ap (λ w. get_or w 2 0 ∷ get_or w 1 0 ∷ get_or w 0 0 ∷ rest) other))

pub turned_short : (g l h : List ℕ) → reverse (g ++ (l ++ h)) ≡ reverse h ++ (reverse l ++ reverse g)
turned_short g l h = simp (reverse-append, append_assoc)

-- the row that a UPC-E draws begins with B
pub begins_b : (c : ℕ) → c < 10 → get_or (row_of upce_rows c) 0 A ≡ B
begins_b c h = same_set-true _ _ (all_below-at (λ c. same_set (get_or (row_of upce_rows c) 0 A) B) 10 refl c h)

pub first_a : (cs : List Character) → AllByRecursion (λ (c : Character). c.set ≡ A) cs → get_or (character_sets cs) 0 A ≡ A
first_a [] h = refl
first_a (c ∷ cs) h = h.0

pub one_way : (ms ds es : List ℕ) → IsNumberSymbol UpcE ms ds → IsNumberSymbol UpcE (reverse ms) es → ⊥
one_way ms ds es e f =
    let row : List NumberSet = row_of upce_rows (get_or ds 6 0) in
    let cs : List Character = characters_in row (take 6 ds) in
    let bs : List Character = characters_in (row_of upce_rows (get_or es 6 0)) (take 6 es) in
    let xs : List ℕ = flat_map left_widths cs in
    let ys : List ℕ = flat_map left_widths bs in
    let around : normal_guard ++ (xs ++ (special_guard)) ≡ normal_guard ++ (normal_guard ++ (reverse ys ++ normal_guard)) =
    sym e.widths ∙ sym (reverse-reverse ms) ∙ ap reverse f.widths ∙ turned_short normal_guard ys (special_guard) in
    let inside : xs ++ (special_guard) ≡ normal_guard ++ (reverse ys ++ normal_guard) = append_cancel_left normal_guard _ _ around in
    let ends : xs ++ normal_guard ≡ normal_guard ++ reverse ys =
    append_cancel_right (xs ++ normal_guard) (normal_guard ++ reverse ys) normal_guard
    (append_assoc xs normal_guard normal_guard ∙ inside ∙ sym (append_assoc normal_guard (reverse ys) normal_guard)) in
    let turned_cells = ends ∙ ap (λ zs. normal_guard ++ zs) (reverse-flat_map left_widths bs) in
    let valid : AreDigits (take 6 ds) = AllByRecursion-take _ 6 ds e.valid in
    let other : AreDigits (take 6 es) = AllByRecursion-take _ 6 es f.valid in
    let sixes = all_sixes cs (reverse bs) (characters_valid row (take 6 ds) valid) (AllByRecursion-reverse _ bs (characters_valid _ (take 6 es) other))
    turned_cells in
    let count : length ds ≡ 7 = e.count in
    let check : get_or ds 6 0 < 10 = digit_at 6 ds e.valid (omega arith) in
    let long : length (take 6 ds) ≡ 6 = length-take 6 ds ∙ (omega arith) in
    let ll : length (take 6 ds) ≡ length row = long ∙ sym (length-upce_row (get_or ds 6 0) check) in
    let a : get_or row 0 A ≡ A = sym (ap (λ r. get_or r 0 A) (sets-characters row (take 6 ds) ll)) ∙ first_a cs sixes in
    let b = begins_b (get_or ds 6 0) check in cc

-- six digits, by the tests of the sixth
abbrev by_tests : Bool → Bool → Bool → ℕ → ℕ → ℕ → ℕ → ℕ → ℕ → ℕ → List ℕ
by_tests p q r a b c d e f check =
    if p then 0 ∷ a ∷ b ∷ f ∷ 0 ∷ 0 ∷ 0 ∷ 0 ∷ c ∷ d ∷ e ∷ check ∷ []
    else if q then 0 ∷ a ∷ b ∷ c ∷ 0 ∷ 0 ∷ 0 ∷ 0 ∷ 0 ∷ d ∷ e ∷ check ∷ []
    else if r then 0 ∷ a ∷ b ∷ c ∷ d ∷ 0 ∷ 0 ∷ 0 ∷ 0 ∷ 0 ∷ e ∷ check ∷ []
    else 0 ∷ a ∷ b ∷ c ∷ d ∷ e ∷ 0 ∷ 0 ∷ 0 ∷ 0 ∷ f ∷ check ∷ []

module _ (a b c d e f check x : ℕ) (new : x < 10) where
  first_noticed : (p q r : Bool) → a < 10 → IsChecked (by_tests p q r a b c d e f check) → IsChecked (by_tests p q r x b c d e f check) → x ≡ a
  first_noticed true q r old h k = noticed (by_tests true q r a b c d e f check) 1 x (omega arith) old new h k
  first_noticed false true r old h k = noticed (by_tests false true r a b c d e f check) 1 x (omega arith) old new h k
  first_noticed false false true old h k = noticed (by_tests false false true a b c d e f check) 1 x (omega arith) old new h k
  first_noticed false false false old h k = noticed (by_tests false false false a b c d e f check) 1 x (omega arith) old new h k

  second_noticed : (p q r : Bool) → b < 10 → IsChecked (by_tests p q r a b c d e f check) → IsChecked (by_tests p q r a x c d e f check) → x ≡ b
  second_noticed true q r old h k = noticed (by_tests true q r a b c d e f check) 2 x (omega arith) old new h k
  second_noticed false true r old h k = noticed (by_tests false true r a b c d e f check) 2 x (omega arith) old new h k
  second_noticed false false true old h k = noticed (by_tests false false true a b c d e f check) 2 x (omega arith) old new h k
  second_noticed false false false old h k = noticed (by_tests false false false a b c d e f check) 2 x (omega arith) old new h k

  third_noticed : (p q r : Bool) → c < 10 → IsChecked (by_tests p q r a b c d e f check) → IsChecked (by_tests p q r a b x d e f check) → x ≡ c
  third_noticed true q r old h k = noticed (by_tests true q r a b c d e f check) 8 x (omega arith) old new h k
  third_noticed false true r old h k = noticed (by_tests false true r a b c d e f check) 3 x (omega arith) old new h k
  third_noticed false false true old h k = noticed (by_tests false false true a b c d e f check) 3 x (omega arith) old new h k
  third_noticed false false false old h k = noticed (by_tests false false false a b c d e f check) 3 x (omega arith) old new h k

  fourth_noticed : (p q r : Bool) → d < 10 → IsChecked (by_tests p q r a b c d e f check) → IsChecked (by_tests p q r a b c x e f check) → x ≡ d
  fourth_noticed true q r old h k = noticed (by_tests true q r a b c d e f check) 9 x (omega arith) old new h k
  fourth_noticed false true r old h k = noticed (by_tests false true r a b c d e f check) 9 x (omega arith) old new h k
  fourth_noticed false false true old h k = noticed (by_tests false false true a b c d e f check) 4 x (omega arith) old new h k
  fourth_noticed false false false old h k = noticed (by_tests false false false a b c d e f check) 4 x (omega arith) old new h k

  fifth_noticed : (p q r : Bool) → e < 10 → IsChecked (by_tests p q r a b c d e f check) → IsChecked (by_tests p q r a b c d x f check) → x ≡ e
  fifth_noticed true q r old h k = noticed (by_tests true q r a b c d e f check) 10 x (omega arith) old new h k
  fifth_noticed false true r old h k = noticed (by_tests false true r a b c d e f check) 10 x (omega arith) old new h k
  fifth_noticed false false true old h k = noticed (by_tests false false true a b c d e f check) 10 x (omega arith) old new h k
  fifth_noticed false false false old h k = noticed (by_tests false false false a b c d e f check) 5 x (omega arith) old new h k

pub replaced : ReplacedDigitIsUnchecked UpcE
replaced [] gtin other k x n v e c place small differs f o = absurd (omega arith)
replaced (a ∷ []) gtin other k x n v e c place small differs f o = absurd (omega arith)
replaced (a ∷ b ∷ []) gtin other k x n v e c place small differs f o = absurd (omega arith)
replaced (a ∷ b ∷ c ∷ []) gtin other k x n v e h place small differs f o = absurd (omega arith)
replaced (a ∷ b ∷ c ∷ d ∷ []) gtin other k x n v e h place small differs f o = absurd (omega arith)
replaced (a ∷ b ∷ c ∷ d ∷ g ∷ []) gtin other k x n v e h place small differs f o = absurd (omega arith)
replaced (a ∷ b ∷ c ∷ d ∷ g ∷ l ∷ []) gtin other k x n v e h place small differs f o = absurd (omega arith)
replaced (a ∷ b ∷ c ∷ d ∷ g ∷ l ∷ check ∷ m ∷ more) gtin other k x n v e h place small differs f o = absurd (omega arith)
replaced (a ∷ b ∷ c ∷ d ∷ g ∷ l ∷ check ∷ []) gtin other zero x n v e h place small differs f o =
    differs (first_noticed a b c d g l check x small (nat_le l 2) (l == 3) (l == 4) v.0 (unpadded _ gtin e h) (unpadded _ other f o))
replaced (a ∷ b ∷ c ∷ d ∷ g ∷ l ∷ check ∷ []) gtin other (suc zero) x n v e h place small differs f o =
    differs (second_noticed a b c d g l check x small (nat_le l 2) (l == 3) (l == 4) v.1.0 (unpadded _ gtin e h) (unpadded _ other f o))
replaced (a ∷ b ∷ c ∷ d ∷ g ∷ l ∷ check ∷ []) gtin other (suc (suc zero)) x n v e h place small differs f o =
    differs (third_noticed a b c d g l check x small (nat_le l 2) (l == 3) (l == 4) v.1.1.0 (unpadded _ gtin e h) (unpadded _ other f o))
replaced (a ∷ b ∷ c ∷ d ∷ g ∷ l ∷ check ∷ []) gtin other (suc (suc (suc zero))) x n v e h place small differs f o =
    differs (fourth_noticed a b c d g l check x small (nat_le l 2) (l == 3) (l == 4) v.1.1.1.0 (unpadded _ gtin e h) (unpadded _ other f o))
replaced (a ∷ b ∷ c ∷ d ∷ g ∷ l ∷ check ∷ []) gtin other (suc (suc (suc (suc zero)))) x n v e h place small differs f o =
    differs (fifth_noticed a b c d g l check x small (nat_le l 2) (l == 3) (l == 4) v.1.1.1.1.0 (unpadded _ gtin e h) (unpadded _ other f o))
replaced (a ∷ b ∷ c ∷ d ∷ g ∷ l ∷ check ∷ []) gtin other (suc (suc (suc (suc (suc k))))) x n v e h place small differs f o = absurd (omega arith)

valid : (ds : List ℕ) → length ds ≡ 7 → AreDigits ds → AreWidths (widths_of UpcE ds)
valid ds e v = AllByRecursion-append _ normal_guard _ (guard_valid 3)
    (AllByRecursion-append _ _ special_guard (left_part_valid (row_of upce_rows (get_or ds 6 0)) _ (AllByRecursion-take _ 6 ds v)) (guard_valid 6))

one_length : (a b c : Bool) (w x y z : List ℕ) → length w ≡ 12 → length x ≡ 12 → length y ≡ 12 → length z ≡ 12
    → length (if a then w else if b then x else if c then y else z) ≡ 12
one_length true b c w x y z p q r s = p
one_length false true c w x y z p q r s = q
one_length false false true w x y z p q r s = r
one_length false false false w x y z p q r s = s

expanded_length : (six : List ℕ) (check : ℕ) → length (upce_expanded six check) ≡ 12
expanded_length six check =
    let d : ℕ → ℕ = λ k. get_or six k 0 in
    one_length (nat_le (d 5) 2) (d 5 == 3) (d 5 == 4)
    (0 ∷ d 0 ∷ d 1 ∷ d 5 ∷ 0 ∷ 0 ∷ 0 ∷ 0 ∷ d 2 ∷ d 3 ∷ d 4 ∷ check ∷ [])
    (0 ∷ d 0 ∷ d 1 ∷ d 2 ∷ 0 ∷ 0 ∷ 0 ∷ 0 ∷ 0 ∷ d 3 ∷ d 4 ∷ check ∷ [])
    (0 ∷ d 0 ∷ d 1 ∷ d 2 ∷ d 3 ∷ 0 ∷ 0 ∷ 0 ∷ 0 ∷ 0 ∷ d 4 ∷ check ∷ [])
    (0 ∷ d 0 ∷ d 1 ∷ d 2 ∷ d 3 ∷ d 4 ∷ 0 ∷ 0 ∷ 0 ∷ 0 ∷ d 5 ∷ check ∷ [])
    refl refl refl refl

fourteen : (ds : List ℕ) → length (gtin_of UpcE ds) ≡ 14
fourteen ds = let twelve = expanded_length (take 6 ds) (get_or ds 6 0) in length-padded (upce_expanded (take 6 ds) (get_or ds 6 0)) (omega arith)

-- what it owes
pub owed : Owes UpcE
owed = record {
  measures = λ ms ds e. measured UpcE ms ds e (valid ds e.count e.valid) (measures ms ds e);
  shown = shown;
  shown_is = shown_is;
  fourteen = λ ds e. fourteen ds;
  one_way = one_way;
  replaced = replaced;
  printed = refl;
}
