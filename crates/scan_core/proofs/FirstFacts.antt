-- The first runs of a row.
use Rattle.std.proofs.Common.{◌≡◌, ◌∙◌, ℕ, ◌≤◌, List, length, take, ap, arith, length-take}
use Rattle.std.proofs.lemmas.List.{take_all}

-- they are as many as the row has at most
pub front_le : (all items : List ℕ) → items ≡ take (length items) all → length items ≤ length all
front_le all items front = omega (arith, ap (λ (ws : List ℕ). length ws) front, length-take (length items) all)

-- all of them
pub whole_items : (all items : List ℕ) → items ≡ take (length items) all → length items ≡ length all → items ≡ all
whole_items all items front long = front ∙ take_all (length items) all (omega arith)
