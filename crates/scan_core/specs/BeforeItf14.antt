-- What a row said before ITF-14 was read: the reading definition over the other carriers alone.
use Rattle.std.specs.Prelude.{◌≡◌, ◌≢◌, ◌↔◌, ℕ, List, length, Ok}
use Rattle.element_core.specs.Elements.{IsElements}
use Rattle.scan_core.specs.declared.carrier.Carrier.{Carrier}
use Rattle.scan_core.specs.declared.carrier.Carrier.TheVariants.{Itf14}
use Rattle.scan_core.specs.declared.answer.Answer.{Answer}
use Rattle.scan_core.specs.declared.answer.Answer.TheVariants.{Read, Refused}
use Rattle.scan_core.specs.Row.{inner}
use Rattle.element_core.specs.Terms.{Terms}
use Rattle.scan_core.specs.Answers.{IsAnswer, IsRefusedOf, Tells}

-- the carriers but ITF-14
abbrev pub EarlierCarrier : Type 0
EarlierCarrier = (carrier : Carrier) × (carrier ≢ Itf14)

abbrev pub earlier : EarlierCarrier → Carrier
earlier carrier = carrier.0

-- under this reference year the row said this
abbrev pub WasAnswer : List ℕ → Terms → Answer → Type 0
WasAnswer runs year (Read carrier listing) =
    (carrier ≢ Itf14) × (text : List ℕ) × Tells runs carrier (Ok text) × (listing.year ≡ year) × IsElements year text listing.list
WasAnswer runs year (Refused fault) = IsRefusedOf earlier runs year fault

-- a row with another number of runs between its light ends than 77 says what it said
abbrev pub OtherRowsKeep : Type 0
OtherRowsKeep =
    (runs : List ℕ) (year : Terms) (answer : Answer) → length (inner runs) ≢ 77 → WasAnswer runs year answer ↔ IsAnswer runs year answer
