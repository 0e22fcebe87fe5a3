-- Laws about GTINs and their spellings.
use Rattle.std.specs.Prelude.{◌≡◌, ℕ, List, None, length}
use Rattle.digits_core.specs.Digits.{AreDigits, IsChecked, digits_of, padded}
use Rattle.digits_core.specs.Gtins.{gtin_fault}
use Rattle.digits_core.specs.Upce.{IsFirstUpceOf}

-- a text without a fault shows 14 digits, the last of which is the check digit of the others
abbrev pub GtinsAreChecked : Type 0
GtinsAreChecked =
    (text : List ℕ) → gtin_fault text ≡ None
    → (length (padded (digits_of text)) ≡ 14) × AreDigits (padded (digits_of text)) × IsChecked (padded (digits_of text))

-- a GTIN has one spelling that is printed
abbrev pub OneFirstSpelling : Type 0
OneFirstSpelling =
    (six others : List ℕ) (check last : ℕ) (gtin : List ℕ)
    → IsFirstUpceOf six check gtin → IsFirstUpceOf others last gtin → (six ≡ others) × (check ≡ last)
