-- The symbols that a line shows.
use Rattle.std.specs.Prelude.{◌≡◌, ◌⊎◌, ℕ, ◌+◌, ◌-◌, ◌*◌, ◌<◌, Bool, true, false, List, length}
use Rattle.line_core.specs.Codes.{ShowsCodes}
use Rattle.line_core.specs.Digits.{ShowsDigits}
use Rattle.line_core.specs.Ends.{ShowsEnds}
use Rattle.line_core.specs.Lights.{HasLight}
use Rattle.line_core.specs.Pairs.{ShowsFives}

-- EAN-13 or UPC-A, and EAN-8: two halves of this many digits, behind a guard of three runs and a middle one of five
pub record ShowsEan (values : List ℕ) (from to step : ℕ) (turns ends widths : List ℕ) (digits quiet : ℕ) (edge : Bool) : Type 0 where
  pub count : length widths ≡ 8 * digits + 13
  pub left : ShowsDigits ends widths 3 digits
  pub right : ShowsDigits ends widths (8 + 4 * digits) digits
  pub light : HasLight values from to step turns ends 3 (4 + 8 * digits) 4 14 quiet edge

-- UPC-E: six digits behind a guard of three runs, and one of six
pub record ShowsUpce (values : List ℕ) (from to step : ℕ) (turns ends widths : List ℕ) : Type 0 where
  pub count : length widths ≡ 35
  pub digits : ShowsDigits ends widths 3 6
  pub light : HasLight values from to step turns ends 3 23 4 14 5 false

-- Code 128: characters; the last one is the stop character, which has one more bar
pub record ShowsCode (values : List ℕ) (from to step : ℕ) (turns ends widths : List ℕ) (characters : ℕ) : Type 0 where
  pub some : 0 < characters
  pub count : length widths ≡ 6 * characters + 3
  pub codes : ShowsCodes ends widths characters
  pub light : HasLight values from to step turns ends 0 (6 * (characters - 1)) 6 22 5 true

-- Code 128 of some characters
pub record ShowsAnyCode (values : List ℕ) (from to step : ℕ) (turns ends widths : List ℕ) : Type 0 where
  pub characters : ℕ
  pub code : ShowsCode values from to step turns ends widths characters

-- ITF-14: seven pairs of digits, the first of each in bars and the second in what is between them, behind a start of four runs
pub record ShowsItf (values : List ℕ) (from to step : ℕ) (turns ends widths : List ℕ) : Type 0 where
  pub count : length widths ≡ 79
  pub bars : ShowsFives ends widths 0
  pub spaces : ShowsFives ends widths 1
  pub light : HasLight values from to step turns ends 4 64 10 34 5 true

-- each character that the widths say is nearer to its pattern than every other of its alphabet, and beside the bars is light: 2.5 modules, and 4.5 of EAN-8.
-- The edge of the picture counts as light beside all but EAN-8 and UPC-E, which a longer symbol that is cut could look like
abbrev pub ShowsWidths : List ℕ → ℕ → ℕ → ℕ → List ℕ → List ℕ → List ℕ → Type 0
ShowsWidths values from to step turns ends widths =
    ShowsEan values from to step turns ends widths 6 5 true
    ⊎ ShowsEan values from to step turns ends widths 4 9 false
    ⊎ ShowsUpce values from to step turns ends widths
    ⊎ ShowsAnyCode values from to step turns ends widths
    ⊎ ShowsItf values from to step turns ends widths

-- samples, so far apart, of which those from one place to before another are of the picture, turn at these places; between these are the ends of the bars,
-- and they show the symbol with these widths, light first and last
pub record ShowsBars (values : List ℕ) (from to step : ℕ) (turns ends widths : List ℕ) : Type 0 where
  pub shown : ShowsEnds values step turns ends
  pub count : length ends + 1 ≡ length widths
  pub symbol : ShowsWidths values from to step turns ends widths
