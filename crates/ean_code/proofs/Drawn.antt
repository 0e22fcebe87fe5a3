-- What is drawn: digits piece by piece, and widths of 1 to 4 modules.
use Rattle.std.proofs.Common.{◌≡◌, ℕ, zero, suc, ◌+◌, ◌-◌, ◌<◌, ◌≤◌, true, List, [], ◌∷◌, ◌++◌, length, take, drop, replicate, refl, sym, ap, subst, ◌∙◌, arith, get_or, add-one}
use Rattle.std.proofs.Math.Seq.{take-suc}
use Rattle.std.proofs.lemmas.List.{length-map, get_or-map, append-nil, take-map, drop-map}
use Rattle.std.proofs.lemmas.List.Concat.{flat_map-append}
use Rattle.std.specs.List.{flat_map, AllByRecursion}
use Rattle.digits_core.specs.Digits.{AreDigits, digits_of}
use Rattle.ean_code.specs.NumberSets.{characters_in, in_set, left_widths, right_widths, left_part, right_part}
use Rattle.ean_code.specs.Guards.{normal_guard, centre_guard}
use Rattle.ean_code.specs.inner.Parts.{two_halves}
use Rattle.ean_code.specs.Widths.{AreWidths}
use Rattle.ean_code.specs.declared.number_sets.Character.{Character}
use Rattle.ean_code.specs.declared.number_sets.NumberSet.{NumberSet}
use Rattle.ean_code.specs.declared.number_sets.NumberSet.TheVariants.{A, B}
use Rattle.ean_code.proofs.Cells.{all_below, all_below-at, AllByRecursion-append}
use Rattle.ean_code.proofs.Characters.{characters_valid, get_or-characters, length-characters}
use Rattle.ean_code.proofs.Widths.{are_widths, AreWidths-from}

-- one piece more
pub flat_map-take : {X : Type 0} (f : X → List ℕ) (xs : List X) (i : ℕ) (d : X) → i < length xs
    → flat_map f (take (i + 1) xs) ≡ flat_map f (take i xs) ++ f (get_or xs i d)
flat_map-take f xs i d h =
    ap (flat_map f) (ap (λ n. take n xs) (add-one i) ∙ take-suc xs i d h)
    ∙ flat_map-append f (take i xs) (get_or xs i d ∷ [])
    ∙ ap (λ ws. flat_map f (take i xs) ++ ws) (append-nil (f (get_or xs i d)))

pub right_more : (text : List ℕ) (i : ℕ) → i < length text
    → flat_map right_widths (take (i + 1) (digits_of text)) ≡ flat_map right_widths (take i (digits_of text)) ++ right_widths (get_or text i 0 - 48)
right_more text i h =
    let low : i < length (digits_of text) = subst (λ n. i < n) (sym (length-map text (λ b. b - 48))) h in
    flat_map-take right_widths (digits_of text) i 0 low
    ∙ ap (λ d. flat_map right_widths (take i (digits_of text)) ++ right_widths d) (get_or-map (λ b. b - 48) text i 0 0 h)

pub left_more : (row : List NumberSet) (text : List ℕ) (i : ℕ) → i < length row → length row ≡ length text
    → flat_map left_widths (take (i + 1) (characters_in row (digits_of text)))
    ≡ flat_map left_widths (take i (characters_in row (digits_of text))) ++ left_widths (in_set (get_or row i A) (get_or text i 0 - 48))
left_more row text i h e =
    let ds : List ℕ = digits_of text in
    let long : length ds ≡ length row = length-map text (λ b. b - 48) ∙ sym e in
    let low : i < length (characters_in row ds) = subst (λ n. i < n) (sym (length-characters row ds (length row) refl long)) h in
    flat_map-take left_widths (characters_in row ds) i (in_set A 0) low
    ∙ ap (λ c. flat_map left_widths (take i (characters_in row ds)) ++ left_widths c)
    (get_or-characters row ds i A h (omega arith) ∙ ap (in_set (get_or row i A)) (get_or-map (λ b. b - 48) text i 0 0 (omega arith)))

-- the digits of a part of a text
pub part_shown : (n i : ℕ) (text : List ℕ) → digits_of (take n (drop i text)) ≡ take n (drop i (digits_of text))
part_shown n i text = sym (take-map (λ b. b - 48) n (drop i text)) ∙ ap (take n) (sym (drop-map (λ b. b - 48) i text))

pub digit_shown : (i : ℕ) (text : List ℕ) → i < length text → get_or (digits_of text) i 0 ≡ get_or text i 0 - 48
digit_shown i text h = get_or-map (λ b. b - 48) text i 0 0 h

-- each character has widths of 1 to 4 modules
left_tested : (s : NumberSet) → all_below (λ d. are_widths (left_widths (in_set s d))) 10 ≡ true
left_tested A = refl
left_tested B = refl

pub left_valid : (c : Character) → c.digit < 10 → AreWidths (left_widths c)
left_valid c h = AreWidths-from (left_widths c) (all_below-at (λ d. are_widths (left_widths (in_set c.set d))) 10 (left_tested c.set) c.digit h)

right_valid : (d : ℕ) → d < 10 → AreWidths (right_widths d)
right_valid d h = left_valid (in_set A d) h

AreWidths-flat_map : {X : Type 0} (P : X → Type 0) (f : X → List ℕ) → ((x : X) → P x → AreWidths (f x)) → (xs : List X) → AllByRecursion P xs
    → AreWidths (flat_map f xs)
AreWidths-flat_map P f each [] h = tt
AreWidths-flat_map P f each (x ∷ xs) h = AllByRecursion-append _ (f x) (flat_map f xs) (each x h.0) (AreWidths-flat_map P f each xs h.1)

pub left_part_valid : (row : List NumberSet) (ds : List ℕ) → AreDigits ds → AreWidths (left_part row ds)
left_part_valid row ds v = AreWidths-flat_map _ left_widths left_valid (characters_in row ds) (characters_valid row ds v)

pub right_part_valid : (ds : List ℕ) → AreDigits ds → AreWidths (right_part ds)
right_part_valid ds v = AreWidths-flat_map _ right_widths right_valid ds v

one_valid : (1 ≤ 1) × (1 ≤ 4)
one_valid = (omega arith, omega arith)

pub guard_valid : (n : ℕ) → AreWidths (replicate n 1)
guard_valid zero = tt
guard_valid (suc n) = (one_valid, guard_valid n)

-- and so have two halves of them
pub halves_valid : (left right : List ℕ) → AreWidths left → AreWidths right → AreWidths (two_halves left right)
halves_valid left right lv rv =
    let inside = AllByRecursion-append _ left _ lv (AllByRecursion-append _ centre_guard _ (guard_valid 5) rv) in
    AllByRecursion-append _ normal_guard _ (guard_valid 3) (AllByRecursion-append _ (left ++ (centre_guard ++ right)) _ inside (guard_valid 3))
