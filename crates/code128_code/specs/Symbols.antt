-- Code 128 symbols as lists of widths in modules, from a bar to a bar (ISO/IEC 15417, symbol structure).
use Rattle.std.specs.Prelude.{◌≡◌, ℕ, ◌+◌, ◌*◌, ◌%◌, ◌≤◌, List, [], ◌∷◌, ◌++◌, length}
use Rattle.std.specs.List.{flat_map, AllByRecursion}
use Rattle.code128_code.specs.Characters.{pattern, stop}

-- the characters before the stop character: start, data and check characters
abbrev pub characters_of : ℕ → List ℕ → ℕ → List ℕ
characters_of start values check = start ∷ (values ++ check ∷ [])

-- the widths of a symbol: those of all its characters
abbrev pub symbol_widths : ℕ → List ℕ → ℕ → List ℕ
symbol_widths start values check = flat_map pattern (characters_of start values check) ++ stop

-- each is a value of a data or check character
abbrev pub AreValues : List ℕ → Type 0
AreValues values = AllByRecursion (λ v. v ≤ 102) values

-- the modules are the symbol with this start character, these data values and this check character, right or wrong
pub record IsCode128Symbol (start : ℕ) (values : List ℕ) (check : ℕ) (modules : List ℕ) : Type 0 where
  pub start_least : 103 ≤ start
  pub start_greatest : start ≤ 105
  pub some : 1 ≤ length values
  pub few : length values ≤ 96
  pub valid : AreValues values
  pub check_valid : check ≤ 102
  pub widths : modules ≡ symbol_widths start values check

-- the sum of each value times its place; the first has place n
abbrev pub by_place : ℕ → List ℕ → ℕ
by_place place [] = 0
by_place place (v ∷ values) = place * v + by_place (place + 1) values

-- the check character of a start character and data values (ISO/IEC 15417, symbol check character)
abbrev pub mod103 : ℕ → List ℕ → ℕ
mod103 start values = (start + by_place 1 values) % 103
