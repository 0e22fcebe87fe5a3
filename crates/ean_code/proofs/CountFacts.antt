-- The widths of the parts of EAN and UPC symbols: how many there are, and how many modules together.
use Rattle.std.proofs.Common.{◌≡◌, ℕ, zero, suc, ◌+◌, ◌*◌, ◌<◌, List, [], ◌∷◌, ◌++◌, length, sum, refl, ap₂, ◌∙◌, arith, get_or}
use Rattle.std.proofs.lemmas.List.{length-append}
use Rattle.std.proofs.lemmas.List.Sums.{sum_by-append}
use Rattle.std.specs.List.{AllByRecursion}
use Rattle.digits_core.specs.Digits.{AreDigits}
use Rattle.ean_code.specs.NumberSets.{set_a, set_b, in_set, left_widths, right_widths, left_part, right_part, ean13_rows, upce_rows}
use Rattle.ean_code.specs.Guards.{centre_guard, normal_guard}
use Rattle.ean_code.specs.inner.Parts.{two_halves}
use Rattle.ean_code.specs.declared.number_sets.NumberSet.{NumberSet}
use Rattle.ean_code.specs.declared.number_sets.NumberSet.TheVariants.{A, B}

-- so many widths, so many modules together
abbrev pub Measures : List ℕ → ℕ → ℕ → Type 0
Measures ws n N = (length ws ≡ n) × (sum ws ≡ N)

pub joined : (xs ys : List ℕ) (a b n N : ℕ) → Measures xs a n → Measures ys b N → Measures (xs ++ ys) (a + b) (n + N)
joined xs ys a b n N p q =
    (length-append xs ys ∙ ap₂ (λ i j. i + j) p.0 q.0, sum_by-append (λ x. x) xs ys ∙ ap₂ (λ i j. i + j) p.1 q.1)

-- an element of a list of which each has a property
pub each-at : {X : Type 0} (P : X → Type 0) (xs : List X) (i : ℕ) (d : X) → AllByRecursion P xs → i < length xs → P (get_or xs i d)
each-at P [] i d each low = absurd (omega arith)
each-at P (x ∷ xs) zero d each low = each.0
each-at P (x ∷ xs) (suc i) d each low = each-at P xs i d each.1 (omega arith)

-- each character has four widths of seven modules
abbrev IsSeven : List ℕ → Type 0
IsSeven widths = Measures widths 4 7

sevens_a : AllByRecursion IsSeven set_a
sevens_a = (
  (refl, refl),
  (
    (refl, refl),
    (
      (refl, refl),
      (
        (refl, refl),
        ((refl, refl), ((refl, refl), ((refl, refl), ((refl, refl), ((refl, refl), ((refl, refl), tt)))))),
      ),
    ),
  ),
)

sevens_b : AllByRecursion IsSeven set_b
sevens_b = (
  (refl, refl),
  (
    (refl, refl),
    (
      (refl, refl),
      (
        (refl, refl),
        ((refl, refl), ((refl, refl), ((refl, refl), ((refl, refl), ((refl, refl), ((refl, refl), tt)))))),
      ),
    ),
  ),
)

right_cell : (d : ℕ) → d < 10 → Measures (right_widths d) 4 7
right_cell d low = each-at IsSeven set_a d [] sevens_a low

left_cell : (s : NumberSet) (d : ℕ) → d < 10 → Measures (left_widths (in_set s d)) 4 7
left_cell A d low = each-at IsSeven set_a d [] sevens_a low
left_cell B d low = each-at IsSeven set_b d [] sevens_b low

pub right_measures : (ds : List ℕ) → AreDigits ds → Measures (right_part ds) (4 * length ds) (7 * length ds)
right_measures [] each = (refl, refl)
right_measures (d ∷ ds) each =
    let m = joined (right_widths d) (right_part ds) 4 (4 * length ds) 7 (7 * length ds) (right_cell d each.0) (right_measures ds each.1) in
    (m.0 ∙ (omega arith), m.1 ∙ (omega arith))

pub left_measures : (row : List NumberSet) (ds : List ℕ) → length row ≡ length ds → AreDigits ds → Measures (left_part row ds) (4 * length ds) (7 * length ds)
left_measures [] [] same each = (refl, refl)
left_measures [] (d ∷ ds) same each = absurd cc
left_measures (s ∷ row) [] same each = absurd cc
left_measures (s ∷ row) (d ∷ ds) same each =
    let rest = left_measures row ds (omega arith) each.1 in
    let m = joined (left_widths (in_set s d)) (left_part row ds) 4 (4 * length ds) 7 (7 * length ds) (left_cell s d each.0) rest in
    (m.0 ∙ (omega arith), m.1 ∙ (omega arith))

-- each row of number sets has six
abbrev pub IsSix : List NumberSet → Type 0
IsSix row = length row ≡ 6

pub sixes_13 : AllByRecursion IsSix ean13_rows
sixes_13 = (refl, (refl, (refl, (refl, (refl, (refl, (refl, (refl, (refl, (refl, tt))))))))))

pub sixes_e : AllByRecursion IsSix upce_rows
sixes_e = (refl, (refl, (refl, (refl, (refl, (refl, (refl, (refl, (refl, (refl, tt))))))))))

pub halves_measure : (left right : List ℕ) (a n : ℕ) → Measures left a n → Measures right a n → Measures (two_halves left right) (11 + (a + a)) (11 + (n + n))
halves_measure left right a n p q =
    let guard : Measures normal_guard 3 3 = (refl, refl) in
    let centre : Measures centre_guard 5 5 = (refl, refl) in
    let core = joined centre_guard right 5 a 5 n centre q in
    let inside = joined left (centre_guard ++ right) a (5 + a) n (5 + n) p core in
    let end = joined (left ++ (centre_guard ++ right)) normal_guard (a + (5 + a)) 3 (n + (5 + n)) 3 inside guard in
    let all = joined normal_guard ((left ++ (centre_guard ++ right)) ++ normal_guard) 3 (a + (5 + a) + 3) 3 (n + (5 + n) + 3) guard end in
    (all.0 ∙ (omega arith), all.1 ∙ (omega arith))
