-- Sums over lists of lists.
use Rattle.std.specs.Prelude.{ℕ, List}
use Rattle.std.specs.List.{sum_by}

-- the sum over the items of all lists; `KeepsAll` writes it out, since no public clause reaches inner/
abbrev pub sum_all : {X : Type 0} → (X → ℕ) → List (List X) → ℕ
sum_all h lists = sum_by (λ xs. sum_by h xs) lists
