-- A row read from its other end: it rounds to the same modules, turned round.
use Rattle.std.proofs.Common.{◌≡◌, ℕ, ◌<◌, List, [], ◌∷◌, reverse, sum, refl, sym, subst}
use Rattle.std.specs.List.{AllZip}
use Rattle.std.proofs.lemmas.List.{reverse-append, reverse-reverse}
use Rattle.std.proofs.lemmas.List.Elements.{AllZip-push}
use Rattle.std.proofs.lemmas.List.Sorted.{IsPermutation-reverse, sum_by-IsPermutation}
use Rattle.scan_core.specs.Showing.{IsRun, Rounds, Way, along}
use Rattle.scan_core.specs.Showing.Way.{Forwards, Backwards}
use Rattle.scan_core.proofs.RoundingFacts.{one_rounding}

AllZip-reverse : (R : ℕ → ℕ → Type 0) (xs ys : List ℕ) → AllZip R xs ys → AllZip R (reverse xs) (reverse ys)
AllZip-reverse R [] [] h = tt
AllZip-reverse R [] (y ∷ ys) h = absurd h
AllZip-reverse R (x ∷ xs) [] h = absurd h
AllZip-reverse R (x ∷ xs) (y ∷ ys) h =
    rw (reverse-append (x ∷ []) xs, reverse-append (y ∷ []) ys) (AllZip-push R (reverse xs) (reverse ys) x y (AllZip-reverse R xs ys h.1) h.0)

pub sum-reverse : (xs : List ℕ) → sum (reverse xs) ≡ sum xs
sum-reverse xs = sum_by-IsPermutation (λ x. x) xs (reverse xs) (IsPermutation-reverse xs)

rounds-reverse : (runs : List ℕ) (N : ℕ) (ms : List ℕ) → Rounds runs N ms → Rounds (reverse runs) N (reverse ms)
rounds-reverse runs N ms h =
    subst (λ W. AllZip (IsRun N W) (reverse runs) (reverse ms)) (sym (sum-reverse runs)) (AllZip-reverse (IsRun N (sum runs)) runs ms h)

-- a way twice is no way
pub along-along : (way : Way) (ws : List ℕ) → along way (along way ws) ≡ ws
along-along Forwards ws = refl
along-along Backwards ws = reverse-reverse ws

-- what the runs round to, read this way
pub rounds_along : (way : Way) (runs : List ℕ) (N : ℕ) (ms : List ℕ) → Rounds runs N ms → Rounds (along way runs) N (along way ms)
rounds_along Forwards runs N ms h = h
rounds_along Backwards runs N ms h = rounds-reverse runs N ms h

-- the modules that are read this way, as they lie in the row
pub rounds_lying : (way : Way) (runs : List ℕ) (N : ℕ) (ms : List ℕ) → Rounds (along way runs) N ms → Rounds runs N (along way ms)
rounds_lying way runs N ms h = subst (λ ws. Rounds ws N (along way ms)) (along-along way runs) (rounds_along way (along way runs) N ms h)

-- they lie in one way
pub one_lying : (v w : Way) (runs : List ℕ) (N : ℕ) (ms ks : List ℕ) → 0 < sum runs → Rounds (along v runs) N ms → Rounds (along w runs) N ks
    → along v ms ≡ along w ks
one_lying v w runs N ms ks pos a b =
    one_rounding runs N (along v ms) (along w ks) pos (rounds_lying v runs N ms a) (rounds_lying w runs N ks b)
