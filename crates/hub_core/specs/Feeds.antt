-- Rows that are left of each lane, and those that were given.
use Rattle.std.specs.Prelude.{◌≡◌, ◌<◌, ◌==◌, ◌++◌, ℕ, Bool, true, IfSome, List, [], ◌∷◌, None, Option, length, map, replicate, slice_index_or, slice_set}
use Rattle.std.specs.List.{list_all}
use Rattle.std.specs.Vec.Iter.{into_iter_items}
use Rattle.hub_core.specs.Serving.{are_short}
use Rattle.hub_core.specs.Traffics.{HasRoom, with_more}
use Rattle.hub_core.specs.declared.feeds.Feeds.{Feeds}

-- the rows that are left of each lane, in their order
abbrev pub rests_of : Feeds → List (List (List ℕ))
rests_of f = map (λ rest. into_iter_items rest) f.rests.items

-- whether no row is left: the rows that were given are in `AreGiven`
abbrev pub are_given : List (List (List ℕ)) → Bool
are_given rests = list_all (λ rest. length rest == 0) rests

-- this row was the first of those that were left of this lane
abbrev pub IsTaken : List (List (List ℕ)) → ℕ → List ℕ → List (List (List ℕ)) → Type 0
IsTaken old lane row new = (rest : List (List ℕ)) × (lane < length old) × (slice_index_or old lane [] ≡ row ∷ rest) × (new ≡ slice_set old lane rest)

-- each list of the first, followed by the list of its place in the second
abbrev pub appended : {X : Type 0} → List (List X) → List (List X) → List (List X)
appended [] rests = []
appended (xs ∷ given) [] = []
appended (xs ∷ given) (ys ∷ rests) = (xs ++ ys) ∷ appended given rests

-- of the feeds, none too long, these rows were given and those are left
pub record AreGiven (feeds given rests : List (List (List ℕ))) : Type 0 where
  pub count : length given ≡ length rests
  pub all : appended given rests ≡ feeds
  pub short : are_short feeds ≡ true

-- the row r.1 of lane r.0 is given: feeds that had the rows `old` left have the rows `new` left, and the lane had a ticket for it
abbrev pub GivesRow : ℕ × List ℕ → List (List (List ℕ)) → List (List (List ℕ)) → Type 0
GivesRow r old new = (feeds given : List (List (List ℕ))) → AreGiven feeds given old → HasRoom r.0 given × AreGiven feeds (with_more r.0 r.1 given) new

-- a row was taken, with its lane, or none and nothing has changed; `given` follows from `some`, and is what callers use
pub record TakesRow (old : List (List (List ℕ))) (row : Option (ℕ × List ℕ)) (new : List (List (List ℕ))) : Type 0 where
  pub some : IfSome row (λ r. IsTaken old r.0 r.1 new)
  pub given : IfSome row (λ r. GivesRow r old new)
  pub none : row ≡ None → new ≡ old

-- at first no row of the feeds was given
abbrev pub GivenAtFirst : Type 0
GivenAtFirst = (feeds : List (List (List ℕ))) → are_short feeds ≡ true → AreGiven feeds (replicate (length feeds) []) feeds

-- once no row is left, all were given
abbrev pub GivenAtLast : Type 0
GivenAtLast = (feeds given rests : List (List (List ℕ))) → AreGiven feeds given rests → are_given rests ≡ true → given ≡ feeds
