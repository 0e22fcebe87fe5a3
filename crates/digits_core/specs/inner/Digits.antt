-- What types, private contracts and proofs name beside `Digits`.
use Rattle.std.specs.Prelude.{ℕ, List, Bool, nat_lt}
use Rattle.std.specs.List.{list_all}

-- whether each is a digit
abbrev pub are_digits : List ℕ → Bool
are_digits ds = list_all (λ d. nat_lt d 10) ds
