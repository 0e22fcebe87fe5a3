-- Words for types, private contracts and proofs, beside `NumberSets`.
use Rattle.std.specs.Prelude.{ℕ, ◌+◌, ◌*◌, ◌<◌, Bool, true, false, List, map}
use Rattle.std.specs.List.{fold, AllByRecursion}
use Rattle.ean_code.specs.declared.number_sets.Character.{Character}
use Rattle.ean_code.specs.declared.number_sets.NumberSet.{NumberSet}
use Rattle.ean_code.specs.declared.number_sets.NumberSet.TheVariants.{A, B}

-- each character has a digit 0 to 9
abbrev pub AreCharacters : List Character → Type 0
AreCharacters cs = AllByRecursion (λ (c : Character). c.digit < 10) cs

-- the digits of characters
abbrev pub character_digits : List Character → List ℕ
character_digits cs = map (λ c. c.digit) cs

-- the number sets of characters
abbrev pub character_sets : List Character → List NumberSet
character_sets cs = map (λ c. c.set) cs

-- whether it is number set A
abbrev pub is_a : NumberSet → Bool
is_a A = true
is_a B = false

-- a number set as a bit
abbrev pub bit_of : NumberSet → ℕ
bit_of A = 0
bit_of B = 1

-- number sets as one number: a bit for each, the first highest
abbrev pub packed_sets : List NumberSet → ℕ
packed_sets sets = fold (λ n s. 2 * n + bit_of s) 0 sets
