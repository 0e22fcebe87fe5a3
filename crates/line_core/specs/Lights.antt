-- The light beside the bars that a line shows.
use Rattle.std.specs.Prelude.{◌≡◌, ◌⊎◌, ℕ, ◌+◌, ◌-◌, ◌*◌, ◌<◌, ◌≤◌, Bool, true, List, length}
use Rattle.line_core.specs.Ends.{at}

-- a sample is so far before an end: `quiet` half modules, where a character of so many half modules is so wide. Or it is the first of the picture, as the
-- line begins at the edge, and the edge counts as light, or the picture reaches so far, to a dot
abbrev pub IsFarBefore : ℕ → ℕ → ℕ → ℕ → ℕ → Bool → ℕ → ℕ → Type 0
IsFarBefore step end width halves quiet edge from sample =
    (halves * (step * sample) + quiet * width ≤ halves * end)
    ⊎ ((0 < from) × (sample ≡ from) × ((edge ≡ true) ⊎ (halves * (step * sample) + quiet * width ≤ halves * end + halves * 256)))

-- or so far behind one, or the last before place `to`, beyond which is the edge
abbrev pub IsFarBehind : ℕ → ℕ → ℕ → ℕ → ℕ → Bool → ℕ → ℕ → ℕ → Type 0
IsFarBehind step end width halves quiet edge to samples sample =
    (halves * end + quiet * width ≤ halves * (step * sample))
    ⊎ ((to < samples) × (sample + 1 ≡ to) × ((edge ≡ true) ⊎ (halves * end + quiet * width ≤ halves * (step * sample) + halves * 256)))

-- so far before an end, all samples from the picture are light up to half a module before the end: twice their values are no less than dark and light together
pub record IsLightBefore (values : List ℕ) (step both end width halves quiet : ℕ) (edge : Bool) (from : ℕ) : Type 0 where
  pub sample : ℕ
  pub within : sample < length values
  pub inside : from ≤ sample
  pub far : IsFarBefore step end width halves quiet edge from sample
  pub light : (i : ℕ) → sample ≤ i → i < length values → halves * (step * i) + width ≤ halves * end → both ≤ 2 * at values i

-- so are the samples behind an end
pub record IsLightBehind (values : List ℕ) (step both end width halves quiet : ℕ) (edge : Bool) (to : ℕ) : Type 0 where
  pub sample : ℕ
  pub within : sample < length values
  pub inside : sample < to
  pub far : IsFarBehind step end width halves quiet edge to (length values) sample
  pub light : (i : ℕ) → i ≤ sample → halves * end + width ≤ halves * (step * i) → both ≤ 2 * at values i

-- a dark and a light extreme that are next to each other, together
abbrev pub both_at : List ℕ → List ℕ → ℕ → ℕ
both_at values turns number = at values (at turns number) + at values (at turns (number + 1))

-- the distance from an end over this many runs
abbrev pub width_of : List ℕ → ℕ → ℕ → ℕ
width_of ends first runs = at ends (first + runs) - at ends first

-- so much light is beside the ends, measured by the first character and by the last, of so many runs and half modules, which begin at these ends. The samples
-- from one place to before another are of the picture
pub record HasLight (values : List ℕ) (from to step : ℕ) (turns ends : List ℕ) (first last runs halves quiet : ℕ) (edge : Bool) : Type 0 where
  pub left : IsLightBefore values step (both_at values turns 0) (at ends 0) (width_of ends first runs) halves quiet edge from
  pub right : IsLightBehind values step (both_at values turns (length ends - 1)) (at ends (length ends - 1)) (width_of ends last runs) halves quiet edge to
