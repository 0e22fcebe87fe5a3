-- Widths of one digit before a space at the front of a text: how `digits` finds them, and that they are read.
use Rattle.std.proofs.Common.{◌&&◌, ◌+◌, ◌-◌, ◌*◌, ◌++◌, ◌<◌, ◌≡◌, ◌≤◌, ◌∙◌, ◌∷◌, Bool, List, [], ap, arith, drop, false, get_or, inl, inr, length, length-append, refl, set, subst, suc, sym, take, true, zero, ℕ}
use Rattle.std.specs.Bool.{then_some}
use Rattle.std.specs.Char.{is_ascii_digit}
use Rattle.std.specs.Option.{IfNone, IfSome}
use Rattle.std.proofs.Math.Dec.{leb}
use Rattle.std.proofs.lemmas.Bool.{and_parts, cases_eq, le-leb, leb-true}
use Rattle.std.proofs.lemmas.List.{append-nil, append_assoc, drop-drop, get_or-drop, get_or-set_other, get_or-set_same, length-drop, length-take-le, take_all, take_more}
use Rattle.csv_records.specs.inner.FrontWidths.{BeginsWithDigits, IsDigitWord}
use Rattle.csv_records.proofs.Decimals.{digit_range}
use Rattle.csv_records.proofs.lanes.FieldWords.{AreRead, one_digit}

-- if each pair so far and the next are a digit before a space, the widths with the next one set are theirs
pub found_more : (text widths : List ℕ) (i width : ℕ) (each : Bool) → i < length widths → (each ≡ true → (k : ℕ) → k < i → IsDigitWord text k (get_or widths k 0))
    → (width ≤ 9 → IsDigitWord text i width) → each && leb width 9 ≡ true → (k : ℕ) → k < i + 1 → IsDigitWord text k (get_or (set widths i width) k 0)
found_more text widths i width each low found here all k less =
    let parts = and_parts each (leb width 9) all in
    elim (cases_eq k i) [
      | inl same ↦
          let there : get_or (set widths i width) k 0 ≡ width = ap (λ j. get_or (set widths i width) j 0) same ∙ get_or-set_same widths i width 0 low in
          subst (IsDigitWord text k) (sym there) (subst (λ j. IsDigitWord text j width) (sym same) (here (leb-true width 9 parts.1)))
      | inr other ↦ subst (IsDigitWord text k) (sym (get_or-set_other widths i k width 0 other)) (found parts.0 k (omega (arith, less, other)))
    ]

-- if a pair so far or the next is no digit before a space, the text begins with no `count` widths of one digit
pub no_digits_more : (text : List ℕ) (i count width : ℕ) (each : Bool) → i < count
    → (each ≡ false → (ws : List ℕ) → length ws ≡ count → BeginsWithDigits text ws → ⊥)
    → (is_ascii_digit (get_or text (2 * i) 0) ≡ true → get_or text (2 * i + 1) 0 ≡ 32 → width ≡ get_or text (2 * i) 0 - 48)
    → each && leb width 9 ≡ false → (ws : List ℕ) → length ws ≡ count → BeginsWithDigits text ws → ⊥
no_digits_more text i count width false low before here all ws long begins = before refl ws long begins
no_digits_more text i count width true low before here all ws long begins =
    let there = begins i (omega (arith, long, low)) in
    let is = here there.0 there.1 in
    let range = digit_range (get_or text (2 * i) 0) there.0 in
    let small : width ≤ 9 = omega (arith, is, range.0, range.1) in
    let clash : true ≡ false = sym (le-leb width 9 small) ∙ all in
    cc clash

-- what is true of the widths if `then_some` gives them, and what is true if it gives none
pub given : (each : Bool) (widths : List ℕ) (P : List ℕ → Type 0) → (each ≡ true → P widths) → IfSome (then_some each widths) P
given true widths P here = here refl
given false widths P here = tt

pub not_given : (each : Bool) (widths : List ℕ) (Q : Type 0) → (each ≡ false → Q) → IfNone (then_some each widths) Q
not_given true widths Q here = tt
not_given false widths Q here = here refl

-- if the text begins with widths of one digit, the first `n` of them are read, and a word is left
first_digits_read : (words : List (List ℕ)) (n : ℕ) (text found widths : List ℕ) (is_wide : Bool) → BeginsWithDigits text widths → 2 * length widths ≤ length text
    → n ≤ length widths
    → length found < length words → AreRead words text found is_wide → (length found + n < length words)
    × AreRead words (drop (2 * n) text) (found ++ take n widths) is_wide
first_digits_read words zero text found widths is_wide begins long few low read =
    (omega (arith, low), subst (λ t. AreRead words text t is_wide) (sym (append-nil found)) read)
first_digits_read words (suc n) text found widths is_wide begins long few low read =
    let before = first_digits_read words n text found widths is_wide begins long (omega (arith, few)) low read in
    let rest = drop (2 * n) text in
    let here = begins n (omega (arith, few)) in
    let count : length (found ++ take n widths) ≡ length found + n =
    length-append found (take n widths) ∙ ap (λ k. length found + k) (length-take-le n widths (omega (arith, few))) in
    let left : length rest ≡ length text - 2 * n = length-drop (2 * n) text in
    let digit : get_or rest 0 0 ≡ get_or text (2 * n) 0 = get_or-drop (2 * n) text 0 0 ∙ ap (λ k. get_or text k 0) (omega arith) in
    let space : get_or rest 1 0 ≡ get_or text (2 * n + 1) 0 = get_or-drop (2 * n) text 1 0 in
    let after : take (length rest - 2) (drop 2 rest) ≡ drop (2 * suc n) text =
    take_all (length rest - 2) (drop 2 rest) (omega (arith, length-drop 2 rest)) ∙ drop-drop 2 (2 * n) text ∙ ap (λ k. drop k text) (omega arith) in
    let one =
    one_digit words (get_or widths n 0) rest (drop (2 * suc n) text) (found ++ take n widths) is_wide (omega (arith, before.0, count)) before.1
    (omega (arith, left, long, few))
    (ap is_ascii_digit digit ∙ here.0) (space ∙ here.1) (here.2 ∙ ap (λ b. b - 48) (sym digit)) (sym after) in
    let next : n + 1 ≡ suc n = omega arith in
    let more : (found ++ take n widths) ++ get_or widths n 0 ∷ [] ≡ found ++ take (suc n) widths =
    append_assoc found (take n widths) (get_or widths n 0 ∷ [])
    ∙ ap (λ t. found ++ t) (sym (take_more widths n 0 (omega (arith, few))) ∙ ap (λ k. take k widths) next) in
    (omega (arith, one.0, count), subst (λ t. AreRead words (drop (2 * suc n) text) t is_wide) more one.1)

-- all of them are read, and the text is cut as `read_widths` cuts it
pub digits_read : (words : List (List ℕ)) (n : ℕ) (text found widths : List ℕ) (is_wide : Bool) → BeginsWithDigits text widths → length widths ≡ n
    → 2 * n ≤ length text
    → length found < length words → AreRead words text found is_wide
    → (length found + n < length words) × AreRead words (take (length text - 2 * n) (drop (2 * n) text)) (found ++ widths) is_wide
digits_read words n text found widths is_wide begins count long low read =
    let first = first_digits_read words n text found widths is_wide begins (omega (arith, count, long)) (omega (arith, count)) low read in
    let rest : take (length text - 2 * n) (drop (2 * n) text) ≡ drop (2 * n) text =
    take_all (length text - 2 * n) (drop (2 * n) text) (omega (arith, length-drop (2 * n) text)) in
    let whole : take n widths ≡ widths = take_all n widths (omega (arith, count)) in (
      first.0,
      subst (λ t. AreRead words t (found ++ widths) is_wide) (sym rest)
          (subst (λ t. AreRead words (drop (2 * n) text) (found ++ t) is_wide) whole first.1),
    )
