-- ITF-14 symbols in whole dots, wide elements 2.25 to 3 times as wide as narrow ones (GS1 General Specifications, section 5.3).
use Rattle.std.specs.Prelude.{◌==◌, ℕ, ◌*◌, ◌≤◌, List, [], ◌∷◌, ◌++◌, map, sum, if◌then◌else◌}
use Rattle.digits_core.specs.Digits.{IsChecked}
use Rattle.element_core.specs.Elements.{gtin_entry}
use Rattle.ean_code.specs.Spelling.{IsGtinSymbol}
use Rattle.ean_code.specs.declared.kind.Kind.TheVariants.{Itf14 as KindItf14}
use Rattle.scan_core.specs.declared.carrier.Carrier.TheVariants.{Itf14}
use Rattle.scan_core.specs.declared.answer.Answer.TheVariants.{Read}
use Rattle.scan_core.specs.Row.{IsRow}
use Rattle.scan_core.specs.Showing.{Way, along}
use Rattle.element_core.specs.Terms.{Terms}
use Rattle.scan_core.specs.Answers.{IsAnswer}

-- an element's dots: n if it is narrow, of one module, and w if it is wide, of three
abbrev pub element_dots : ℕ → ℕ → ℕ → ℕ
element_dots n w modules = if modules == 1 then n else w

-- the row of a symbol so drawn, between light ends of this many dots
abbrev pub drawn_row : ℕ → ℕ → ℕ → ℕ → List ℕ → List ℕ
drawn_row n w left right modules = left ∷ (map (element_dots n w) modules ++ right ∷ [])

-- n and w are whole dots in a ratio of 2.25 to 3, and both light ends are at least ten narrow elements
pub record AreInRatio (n w left right : ℕ) : Type 0 where
  pub some : 1 ≤ n
  pub least : 9 * n ≤ 4 * w
  pub most : 4 * w ≤ 12 * n
  pub quiet_left : 10 * n ≤ left
  pub quiet_right : 10 * n ≤ right

-- the symbol of a checked GTIN drawn so, at most 65,535 dots in all, is a row, and is read from either end as an ITF-14 of that GTIN
abbrev pub EachRatioIsRead : Type 0
EachRatioIsRead =
    (gtin modules : List ℕ) (n w left right : ℕ) (year : Terms) (way : Way)
    → IsGtinSymbol KindItf14 gtin modules
    → IsChecked gtin
    → AreInRatio n w left right
    → sum (drawn_row n w left right modules) ≤ 65535
    → IsRow (along way (drawn_row n w left right modules))
    × IsAnswer (along way (drawn_row n w left right modules)) year (Read Itf14 (record { year = year; list = gtin_entry gtin ∷ [] }))
