-- Means that a blur is taken out of.
use Rattle.std.specs.Prelude.{◌≡◌, ℕ, zero, suc, ◌+◌, ◌-◌, ◌*◌, ◌/◌, ◌<◌, List, [], ◌∷◌, length, min}
use Rattle.line_core.specs.Ends.{at}
use Rattle.picture_core.specs.declared.seen_line.Cleared.{Cleared}
use Rattle.picture_core.specs.declared.seen_line.Cleared.TheVariants.{Nothing, Small, Large}

-- the sum of the values up to so far from a sample, by how much they count; beyond its ends a line goes on as they are
unfoldable pub weighed : List ℕ → List ℕ → ℕ → ℕ → ℕ
weighed weights values sample zero = at weights 0 * at values sample
weighed weights values sample (suc away) =
    weighed weights values sample away
    + (at weights (away + 1) * at values (sample - (away + 1)) + at weights (away + 1) * at values (min (sample + (away + 1)) (length values - 1)))

-- the value is what the values about a sample make: what counts for it, less what counts against it, in 1/1024, and 1,024 grey values more, so that it is
-- never below 0
pub record IsSharpAt (more less means : List ℕ) (sample value : ℕ) : Type 0 where
  pub made : value ≡ (weighed more means sample 27 + 268435456 - weighed less means sample 27) / 1024

-- these are the values that are made of means, sample by sample
pub record AreSharp (more less means values : List ℕ) : Type 0 where
  pub count : length values ≡ length means
  pub each : (sample : ℕ) → sample < length means → IsSharpAt more less means sample (at values sample)

-- the right halves of two kernels, which take out a blur of 2.4 dots and one of 3: how much values count for a sample, and how much against it
abbrev pub small_more : List ℕ
small_more = 8118 ∷ 0 ∷ 0 ∷ 0 ∷ 92 ∷ 213 ∷ 110 ∷ 106 ∷ 0 ∷ 0 ∷ 0 ∷ 0 ∷ 0 ∷ 0 ∷ 0 ∷ 0 ∷ 0 ∷ 0 ∷ 0 ∷ 0 ∷ 0 ∷ 0 ∷ 0 ∷ 0 ∷ 0 ∷ 0 ∷ 0 ∷ 0 ∷ []

abbrev pub small_less : List ℕ
small_less = 0 ∷ 2222 ∷ 1333 ∷ 437 ∷ 0 ∷ 0 ∷ 0 ∷ 0 ∷ 31 ∷ 34 ∷ 11 ∷ 0 ∷ 0 ∷ 0 ∷ 0 ∷ 0 ∷ 0 ∷ 0 ∷ 0 ∷ 0 ∷ 0 ∷ 0 ∷ 0 ∷ 0 ∷ 0 ∷ 0 ∷ 0 ∷ 0 ∷ []

abbrev pub large_more : List ℕ
large_more = 5382 ∷ 2647 ∷ 0 ∷ 0 ∷ 0 ∷ 2710 ∷ 2918 ∷ 0 ∷ 0 ∷ 0 ∷ 791 ∷ 1644 ∷ 469 ∷ 0 ∷ 0 ∷ 91 ∷ 764 ∷ 418 ∷ 0 ∷ 0 ∷ 0 ∷ 312 ∷ 267 ∷ 0 ∷ 0 ∷ 0 ∷ 109 ∷ 146 ∷ []

abbrev pub large_less : List ℕ
large_less = 0 ∷ 0 ∷ 2690 ∷ 4464 ∷ 1224 ∷ 0 ∷ 0 ∷ 91 ∷ 2325 ∷ 1488 ∷ 0 ∷ 0 ∷ 0 ∷ 933 ∷ 949 ∷ 0 ∷ 0 ∷ 0 ∷ 302 ∷ 502 ∷ 94 ∷ 0 ∷ 0 ∷ 62 ∷ 237 ∷ 104 ∷ 0 ∷ 0 ∷ []

-- the means as they are seen: sharpened, if a blur is taken out of them
abbrev pub AreSeen : Cleared → List ℕ → List ℕ → Type 0
AreSeen Nothing means values = values ≡ means
AreSeen Small means values = AreSharp small_more small_less means values
AreSeen Large means values = AreSharp large_more large_less means values
