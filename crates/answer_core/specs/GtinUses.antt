-- What a GTIN identifies, by its first digits (GS1 General Specifications, section 1.4.2). tables/ais makes the lists of tables/prefixes.tsv.
use Rattle.std.specs.Prelude.{ℕ, Bool, true, false, ◌==◌, List, [], ◌∷◌, Option, Some, None, codes, drop, length, take, if◌then◌else◌}
use Rattle.std.specs.List.{list_all}
use Rattle.answer_core.specs.Listed.{is_listed}
use Rattle.answer_core.specs.declared.gtin_use.GtinUse.{GtinUse}
use Rattle.answer_core.specs.declared.gtin_use.GtinUse.TheVariants.{TradeItem, InStore, Coupon, Issn, Ismn, Isbn, Zeros}

-- the number of a use
abbrev pub gtin_use_number : GtinUse → ℕ
gtin_use_number TradeItem = 1
gtin_use_number InStore = 2
gtin_use_number Coupon = 3
gtin_use_number Issn = 4
gtin_use_number Ismn = 5
gtin_use_number Isbn = 6
gtin_use_number Zeros = 7

-- the first four digits of the numbers of a use
pub record PrefixesOfUse : Type 0 where
  pub gtin_use : GtinUse
  pub words : List ℕ

abbrev pub of_use : GtinUse → List ℕ → PrefixesOfUse
of_use it words = record { gtin_use = it; words = words }

-- those of GTINs of 13 digits
unfoldable pub prefixes : List PrefixesOfUse
prefixes =
    of_use InStore (codes "02nn,04nn,2nnn")
    ∷ of_use Coupon (codes "05nn,980n,981n,982n,983n,984n,99nn")
    ∷ of_use Issn (codes "977n")
    ∷ of_use Ismn (codes "9790")
    ∷ of_use Isbn (codes "978n,979n")
    ∷ []

-- those of GTINs of 8 digits
unfoldable pub short_prefixes : List PrefixesOfUse
short_prefixes =
    of_use InStore (codes "0nnn,2nnn")
    ∷ []

-- the use of the numbers that begin with these digits; trade items have all others
abbrev pub use_in : List ℕ → List PrefixesOfUse → GtinUse
use_in digits [] = TradeItem
use_in digits (p ∷ list) = if is_listed digits p.words then p.gtin_use else use_in digits list

abbrev pub are_zeros : List ℕ → Bool
are_zeros digits = list_all (λ b. b == 48) digits

-- what 14 digits identify: five zeros behind the first digit stand before a GTIN of 8
abbrev pub use_of_14 : List ℕ → GtinUse
use_of_14 digits =
    if are_zeros digits then Zeros
    else if are_zeros (take 5 (drop 1 digits)) then use_in (take 4 (drop 6 digits)) short_prefixes
    else use_in (take 4 (drop 1 digits)) prefixes

-- what a GTIN of 14 digits identifies, if there are so many
abbrev pub gtin_use : List ℕ → Option GtinUse
gtin_use digits = if length digits == 14 then Some (use_of_14 digits) else None

-- numbers of these uses identify no trade item; those of publications do
abbrev pub is_no_item : Option GtinUse → Bool
is_no_item (Some InStore) = true
is_no_item (Some Coupon) = true
is_no_item (Some Zeros) = true
is_no_item _ = false

-- the GTIN at the beginning of a value if it identifies no trade item
abbrev pub no_item : List ℕ → List ℕ
no_item value = if is_no_item (gtin_use (take 14 value)) then take 14 value else []
