-- The bytes of a vector at the set bits of a mask.
use Rattle.std.specs.Prelude.{◌==◌, nat_le, get_or, ◌+◌, ◌/◌, ◌%◌, ◌++◌, ◌∷◌, if◌then◌else◌, Bool, List, [], cond, replicate, take, ℕ, zero, suc}

-- the places of the set bits of a mask of `n` bits, lowest first, each `from` more
abbrev pub places_in : ℕ → ℕ → ℕ → List ℕ
places_in zero from mask = []
places_in (suc n) from mask = if mask % 2 == 1 then from ∷ places_in n (from + 1) (mask / 2) else places_in n (from + 1) (mask / 2)

-- eight bytes: those places, and then 128 and more, which names no lane
abbrev pub entry : ℕ → ℕ → List ℕ
entry from mask = take 8 (places_in 8 from mask ++ replicate 8 (128 + from))

-- the elements beside which the bool is true
abbrev pub at_set_bits : List Bool → List ℕ → List ℕ
at_set_bits [] xs = []
at_set_bits (b ∷ bs) [] = []
at_set_bits (b ∷ bs) (x ∷ xs) = cond b (x ∷ at_set_bits bs xs) (at_set_bits bs xs)

-- the lane that a place of sixteen names, and 0 where it names none
abbrev pub look : List ℕ → ℕ → ℕ
look xs p = cond (nat_le 128 p) 0 (get_or xs p 0)
