-- Words for types, private contracts and proofs, beside `Spelling`.
use Rattle.std.specs.Prelude.{◌≡◌, ℕ, List}
use Rattle.digits_core.specs.Digits.{IsChecked, digits_of, padded}
use Rattle.ean_code.specs.declared.reading.Spelled.{Spelled}
use Rattle.ean_code.specs.declared.reading.Spelled.TheVariants.{NoPattern, BadCheck, Found}

-- the reading of a text of ASCII digits: no GTIN if the check digit is wrong, else the GTIN
abbrev pub TextSpells : List ℕ → Spelled → Type 0
TextSpells text NoPattern = ⊥
TextSpells text BadCheck = IsChecked (digits_of text) → ⊥
TextSpells text (Found gtin) = (gtin ≡ padded (digits_of text)) × IsChecked gtin
