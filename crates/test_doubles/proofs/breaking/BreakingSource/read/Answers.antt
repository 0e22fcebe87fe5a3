use Rattle.std.proofs.Common.{◌≡◌, ◌<◌, ◌++◌, ◌∙◌, ℕ, List, [], ◌∷◌, ap, arith, length, refl, slice_set, sym}
use lib.ListN.{take}
use Rattle.test_doubles.proofs.breaking.BreakingSource.read.Goals as goal

-- a byte at the front of a buffer
put_first : (buf : List ℕ) (x : ℕ) → 0 < length buf → take 1 (slice_set buf 0 x) ≡ x ∷ []
put_first [] x some = absurd (omega arith)
put_first (b ∷ bs) x some = refl

pub returns-in-Some-clause-bytes : goal.returns-in-Some-clause-bytes
returns-in-Some-clause-bytes c = (
  c.in-Some.ensures.cases.0 ∙ sym (ap (λ (xs : List ℕ). xs ++ c.in-Some.left.now) (put_first c.args.buf.now c.in-Some.first.now (search arith))),
  λ none.
      absurd (omega (arith, none)),
)
