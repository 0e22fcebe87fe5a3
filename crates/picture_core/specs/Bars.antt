-- The symbols that the lines of a look show.
use Rattle.std.specs.Prelude.{◌≡◌, ℕ, ◌+◌, ◌-◌, ◌*◌, ◌/◌, List, length}
use Rattle.element_core.specs.Elements.{Listing}
use Rattle.element_core.specs.Terms.{Terms}
use Rattle.line_core.specs.Ends.{at}
use Rattle.line_core.specs.Symbols.{ShowsBars}
use Rattle.scan_core.specs.Answers.{IsAnswer}
use Rattle.scan_core.specs.declared.answer.Answer.TheVariants.{Read}
use Rattle.scan_core.specs.declared.carrier.Carrier.{Carrier}
use Rattle.picture_core.specs.Lines.{IsLaid}
use Rattle.picture_core.specs.Pictures.{Greys}
use Rattle.picture_core.specs.Samples.{AreSamples, step_of}
use Rattle.picture_core.specs.Sharp.{AreSeen}
use Rattle.picture_core.specs.declared.seen_line.SeenLine.{SeenLine}

-- the mean of the lines, sharpened if a blur is taken out of it, shows this symbol: each end of its bars is between a dark and a light extreme that are next to each
-- other, each character is nearer to its pattern than to every other, beside the bars is light, and the widths are read as the symbol. The dot is in the middle of
-- its bars
pub record LineShows (picture : Greys) (year : Terms) (carrier : Carrier) (elements : Listing) (line : SeenLine) (dot : ℕ) : Type 0 where
  pub means : List ℕ
  pub values : List ℕ
  pub from : ℕ
  pub to : ℕ
  pub turns : List ℕ
  pub ends : List ℕ
  pub widths : List ℕ
  pub laid : IsLaid line
  pub samples : AreSamples picture line from to means
  pub seen : AreSeen line.cleared means values
  pub shown : ShowsBars values from to (step_of line.sampling) turns ends widths
  pub answer : IsAnswer widths year (Read carrier elements)
  pub middle : dot ≡ ((at ends 0 + at ends (length ends - 1)) / 2 - step_of line.sampling * from) / 256
