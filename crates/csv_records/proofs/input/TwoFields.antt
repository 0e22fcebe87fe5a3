-- A record of two fields, by its fields.
use Rattle.std.proofs.Common.{◌≡◌, ◌∷◌, List, None, Some, [], arith, length, ℕ}
use Rattle.csv.specs.Records.{field_at}

-- if a record has two fields, they are its first and its second
pub two_fields_are : (fs : List (List ℕ)) (a b : List ℕ) → length fs ≡ 2 → Some a ≡ field_at fs 0 → Some b ≡ field_at fs 1 → fs ≡ a ∷ b ∷ []
unfolding field_at
two_fields_are [] a b n first second = cc first
two_fields_are (x ∷ []) a b n first second = cc second
two_fields_are (x ∷ y ∷ []) a b n first second = cc (first, second)
two_fields_are (x ∷ y ∷ z ∷ rest) a b n first second = absurd (omega (arith, n))

-- if a record has two fields, its first is there, and its second
pub pair_has_first : (fs : List (List ℕ)) → length fs ≡ 2 → None ≡ field_at fs 0 → ⊥
unfolding field_at
pair_has_first [] n none = absurd (omega (arith, n))
pair_has_first (x ∷ rest) n none = cc none

pub pair_has_second : (fs : List (List ℕ)) → length fs ≡ 2 → None ≡ field_at fs 1 → ⊥
unfolding field_at
pair_has_second [] n none = absurd (omega (arith, n))
pair_has_second (x ∷ []) n none = absurd (omega (arith, n))
pair_has_second (x ∷ y ∷ rest) n none = cc none
