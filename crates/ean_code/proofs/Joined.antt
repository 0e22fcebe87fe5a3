-- Widths that are joined of characters.
use Rattle.std.proofs.Common.{◌≡◌, ℕ, zero, suc, ◌+◌, ◌*◌, ◌-◌, ◌/◌, ◌≢◌, ◌<◌, true, List, [], ◌∷◌, ◌++◌, length, take, drop, map, replicate, refl, sym, ap, ap₂, ◌∙◌, arith, get_or}
use Rattle.std.specs.Prelude.{slice_range}
use Rattle.std.specs.List.{flat_map, AllByRecursion, list_all}
use Rattle.std.proofs.lemmas.Bool.{and_parts}
use Rattle.std.proofs.lemmas.List.{append-nil}
use Rattle.std.proofs.lemmas.List.Concat.{flat_map-append}
use Rattle.std.proofs.Math.Seq.{take-add}
use Rattle.digits_core.specs.Digits.{AreDigits}
use Rattle.ean_code.specs.declared.number_sets.Character.{Character}
use Rattle.ean_code.specs.declared.number_sets.NumberSet.{NumberSet}
use Rattle.ean_code.specs.declared.number_sets.NumberSet.TheVariants.{A, B}
use Rattle.ean_code.specs.inner.NumberSets.{AreCharacters, character_digits, character_sets, is_a}
use Rattle.ean_code.specs.NumberSets.{characters_in, in_set, left_widths, right_widths, right_part}
use Rattle.ean_code.proofs.Cells.{cells, cells-flat_map, length-cells, cell_at}
use Rattle.ean_code.proofs.Characters.{left_char, left_code}

pub character_at : (cs : List Character) (i : ℕ) → AllByRecursion (λ (c : Character). c.digit < 10) cs → i < length cs → (get_or cs i (in_set A 0)).digit < 10
character_at [] i h lt = absurd (omega arith)
character_at (c ∷ cs) zero h lt = h.0
character_at (c ∷ cs) (suc i) h lt = character_at cs i h.1 (omega arith)

-- widths that are characters are a character at each fourth
pub no_gap : (ws : List ℕ) (i : ℕ) → i < length ws / 4 → ((c : Character) → c.digit < 10 → left_widths c ≢ slice_range ws (4 * i) (4 * i + 4))
    → (cs : List Character) → AllByRecursion (λ (c : Character). c.digit < 10) cs → flat_map left_widths cs ≢ ws
no_gap ws i lt none cs h e =
    let count : length ws ≡ length cs * 4 = sym (ap length e) ∙ length-cells _ 4 left_widths left_char left_code cs h in
    let low : i < length cs = omega arith in
    let cell = cell_at (λ (c : Character). c.digit < 10) 4 left_widths left_code.width cs i (in_set A 0) h low in
    let four : (4 * i + 4) - 4 * i ≡ 4 = omega arith in
    let part : slice_range ws (4 * i) (4 * i + 4) ≡ take 4 (drop (4 * i) ws) = ap (λ n. take n (drop (4 * i) ws)) four in
    none (get_or cs i (in_set A 0)) (character_at cs i h low) (sym cell ∙ ap (λ m. take 4 (drop (4 * i) m)) e ∙ sym part)

pub one_more : (ws : List ℕ) (i : ℕ) (found : List Character) (c : Character) → flat_map left_widths found ≡ take (4 * i) ws → left_widths c
    ≡ slice_range ws (4 * i) (4 * i + 4)
    → flat_map left_widths (found ++ c ∷ []) ≡ take (4 * (i + 1)) ws
one_more ws i found c e f =
    let four : (4 * i + 4) - 4 * i ≡ 4 = omega arith in
    let part : slice_range ws (4 * i) (4 * i + 4) ≡ take 4 (drop (4 * i) ws) = ap (λ n. take n (drop (4 * i) ws)) four in
    let next : 4 * (i + 1) ≡ 4 * i + 4 = omega arith in
    flat_map-append left_widths found (c ∷ [])
    ∙ ap₂ (λ xs ys. xs ++ ys) e (append-nil (left_widths c) ∙ f ∙ part)
    ∙ sym (take-add (4 * i) 4 ws)
    ∙ ap (λ n. take n ws) (sym next)

pub of_their_sets : (cs : List Character) → characters_in (character_sets cs) (character_digits cs) ≡ cs
of_their_sets [] = refl
of_their_sets (c ∷ cs) = ap (λ xs. c ∷ xs) (of_their_sets cs)

pub AreDigits-characters : (cs : List Character) → AllByRecursion (λ (c : Character). c.digit < 10) cs → AreDigits (character_digits cs)
AreDigits-characters [] h = tt
AreDigits-characters (c ∷ cs) h = (h.0, AreDigits-characters cs h.1)

pub AreCharacters-from : (cs : List Character) → AreDigits (character_digits cs) → AreCharacters cs
AreCharacters-from [] h = tt
AreCharacters-from (c ∷ cs) h = (h.0, AreCharacters-from cs h.1)

-- characters of set A are drawn as those of set C
right-of_a : (s : NumberSet) (d : ℕ) → is_a s ≡ true → left_widths (in_set s d) ≡ right_widths d
right-of_a A d h = refl
right-of_a B d h = absurd cc

pub rights-of_a : (cs : List Character) → list_all (λ c. is_a c.set) cs ≡ true → flat_map left_widths cs ≡ right_part (character_digits cs)
rights-of_a [] h = refl
rights-of_a (c ∷ cs) h =
    let parts = and_parts (is_a c.set) (list_all (λ c. is_a c.set) cs) h in ap₂ (λ a b. a ++ b) (right-of_a c.set c.digit parts.0) (rights-of_a cs parts.1)

-- digits as characters of set A
abbrev pub as_a : List ℕ → List Character
as_a ds = map (in_set A) ds

pub AreCharacters-as_a : (ds : List ℕ) → AreDigits ds → AreCharacters (as_a ds)
AreCharacters-as_a [] h = tt
AreCharacters-as_a (d ∷ ds) h = (h.0, AreCharacters-as_a ds h.1)

pub rights-as_a : (ds : List ℕ) → right_part ds ≡ flat_map left_widths (as_a ds)
rights-as_a [] = refl
rights-as_a (d ∷ ds) = ap (λ ws. right_widths d ++ ws) (rights-as_a ds)

pub all_of_a : (ds : List ℕ) → list_all (λ (c : Character). is_a c.set) (as_a ds) ≡ true
all_of_a [] = refl
all_of_a (d ∷ ds) = all_of_a ds

-- characters of set A have its row
pub set-of_a : (s : NumberSet) → is_a s ≡ true → s ≡ A
set-of_a A h = refl
set-of_a B h = absurd cc

pub row-of_a : (cs : List Character) → list_all (λ c. is_a c.set) cs ≡ true → character_sets cs ≡ replicate (length cs) A
row-of_a [] h = refl
row-of_a (c ∷ cs) h =
    let parts = and_parts (is_a c.set) (list_all (λ c. is_a c.set) cs) h in ap₂ (λ s r. s ∷ r) (set-of_a c.set parts.0) (row-of_a cs parts.1)

pub of_a-row : (n : ℕ) (ds : List ℕ) → list_all (λ (c : Character). is_a c.set) (characters_in (replicate n A) ds) ≡ true
of_a-row zero ds = refl
of_a-row (suc n) [] = refl
of_a-row (suc n) (d ∷ ds) = of_a-row n ds

-- widths are at most one list of characters
pub same_characters : (cs ds : List Character) → AllByRecursion (λ (c : Character). c.digit < 10) cs → AllByRecursion (λ (c : Character). c.digit < 10) ds
    → flat_map left_widths cs ≡ flat_map left_widths ds → cs ≡ ds
same_characters cs ds h k e =
    let count : length cs ≡ length ds =
    (let a = length-cells _ 4 left_widths left_char left_code cs h in let b = length-cells _ 4 left_widths left_char left_code ds k in let l =
    ap length e in omega arith) in
    sym (cells-flat_map _ 4 left_widths left_char left_code cs [] h)
    ∙ ap (λ ms. cells 4 left_char (length cs) (ms ++ [])) e
    ∙ ap (λ n. cells 4 left_char n (flat_map left_widths ds ++ [])) count
    ∙ cells-flat_map _ 4 left_widths left_char left_code ds [] k
