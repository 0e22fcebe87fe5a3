-- Laws that hold after every list of events.
use Rattle.std.specs.Prelude.{◌≡◌, ◌≢◌, ◌+◌, ℕ, zero, suc, List, [], ◌∷◌, ◌++◌, length}
use Rattle.groups_core.specs.Lanes.{LaneTills, Step, Submits, Works, Reads, Gives, all_go, fresh_lane, next_wanted, own_row}

-- the values of f at 0 to n - 1
abbrev pub first : (ℕ → ℕ) → ℕ → List ℕ
first f zero = []
first f (suc n) = first f n ++ f n ∷ []

-- Rows of two tills with the same series, number and mark have the same answer. This holds if no two tills share a
-- series, if tills that share one have the same rows, or if marks tell their rows apart.
abbrev pub MarksTell : LaneTills → Type 0
MarksTell s = (t u n : ℕ) → (s.till t).series ≡ (s.till u).series → s.mark (own_row s t n) ≡ s.mark (own_row s u n)
    → s.answer (own_row s t n) ≡ s.answer (own_row s u n)

-- the answers to the first rows that a till needs, in their order
abbrev pub first_answers : LaneTills → ℕ → ℕ → List ℕ
first_answers s t count = first (λ n. s.answer (own_row s t ((s.till t).start + n))) count

-- a till gives the answers to its own rows, in order, each once
abbrev pub OwnAnswers : Type 0
OwnAnswers = (s : LaneTills) (events : List Step) (t : ℕ) → MarksTell s →
    let l = all_go s events fresh_lane in
    (l.got t ≡ first_answers s t (length (l.got t)))

-- whatever has happened, once the next row is submitted and answered and its answer read, the till can give that answer
abbrev pub AlwaysGoesOn : Type 0
AlwaysGoesOn = (s : LaneTills) (events : List Step) (t : ℕ) → MarksTell s →
    let l = all_go s events fresh_lane in
    (all_go s (Submits t (next_wanted s l t) ∷ Works 0 ∷ Reads t 0 ∷ Gives t ∷ []) l).got t
    ≡ first_answers s t (suc (length (l.got t)))

-- if marks do not tell rows apart, a till may give the answer to another till's row
abbrev pub MarksAreNeeded : Type 0
MarksAreNeeded = (s : LaneTills) × (events : List Step) × (t : ℕ) ×
    let l = all_go s events fresh_lane in
    (l.got t ≢ first_answers s t (length (l.got t)))
