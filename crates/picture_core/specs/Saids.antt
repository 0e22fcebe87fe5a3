-- What symbols of a picture say.
use Rattle.std.specs.Prelude.{ℕ, List}
use Rattle.element_core.specs.Elements.{Listing}
use Rattle.scan_core.specs.Answers.{IsAnswer}
use Rattle.scan_core.specs.declared.answer.Answer.TheVariants.{Read, Refused}
use Rattle.scan_core.specs.declared.carrier.Carrier.{Carrier}
use Rattle.element_core.specs.Terms.{Terms}
use Rattle.scan_core.specs.declared.fault.RowFault.{RowFault}

-- there are widths that are read as this symbol
abbrev pub IsSaid : Carrier → Listing → Type 0
IsSaid carrier listing = ∥ ((widths : List ℕ) × IsAnswer widths listing.year (Read carrier listing)) ∥₁

-- there are widths whose row is refused for this
abbrev pub IsRefusal : Terms → RowFault → Type 0
IsRefusal year fault = ∥ ((widths : List ℕ) × IsAnswer widths year (Refused fault)) ∥₁
