-- Laws about Code 128 symbols, whoever reads them.
use Rattle.std.specs.Prelude.{◌≡◌, ◌≢◌, ◌↔◌, ℕ, ◌+◌, ◌*◌, ◌<◌, ◌≤◌, List, ◌++◌, length, sum, reverse, slice_index, slice_set, Ok, Err, IsTrue}
use Rattle.std.specs.List.{list_all}
use Rattle.code128_code.specs.Characters.{start_c}
use Rattle.code128_code.specs.declared.code_set.CodeSet.{CodeSet}
use Rattle.code128_code.specs.declared.code_set.CodeSet.TheVariants.{C}
use Rattle.code128_code.specs.declared.fault.Code128Fault.{Code128Fault}
use Rattle.code128_code.specs.Coding.{coded, data_values, digits_ahead, is_coded_byte}
use Rattle.code128_code.specs.Symbols.{IsCode128Symbol, characters_of, mod103}
use Rattle.code128_code.specs.Texts.{HasFault, IsGs1Symbol, Says, symbol_text, text_from}

-- the modules of a symbol determine its start character, its data values and its check character
abbrev pub OneReading : Type 0
OneReading = (start other check last : ℕ) (values others modules : List ℕ)
    → IsCode128Symbol start values check modules → IsCode128Symbol other others last modules
    → (start ≡ other) × (values ≡ others) × (check ≡ last)

-- a symbol read backwards is not a symbol
abbrev pub OneWay : Type 0
OneWay = (start other check last : ℕ) (values others modules : List ℕ)
    → IsCode128Symbol start values check modules → IsCode128Symbol other others last (reverse modules) → ⊥

-- how many widths and modules a symbol with n start, data and check characters has; its outer bars have two modules
pub record HasMeasures (characters : ℕ) (modules : List ℕ) : Type 0 where
  pub least : 3 ≤ characters
  pub greatest : characters ≤ 98
  pub count : length modules ≡ 6 * characters + 7
  pub total : sum modules ≡ 11 * characters + 13
  pub first_bar : slice_index modules 0 ≡ 2
  pub last_bar : slice_index (reverse modules) 0 ≡ 2

-- the number of data values determines the size of a symbol
abbrev pub Measures : Type 0
Measures = (start check : ℕ) (values modules : List ℕ)
    → IsCode128Symbol start values check modules → HasMeasures (length values + 2) modules

-- if the check character is right, replacing one start, data or check character makes it wrong
abbrev pub ReplacedIsUnchecked : Type 0
ReplacedIsUnchecked = (start other check last k v : ℕ) (values others modules replaced : List ℕ)
    → IsCode128Symbol start values check modules
    → IsCode128Symbol other others last replaced
    → check ≡ mod103 start values
    → k < length (characters_of start values check)
    → v ≢ slice_index (characters_of start values check) k
    → characters_of other others last ≡ slice_set (characters_of start values check) k v
    → last ≢ mod103 other others

-- the characters of a symbol and its modules have the same text; only a GS1-128 symbol has one
abbrev pub ModulesSay : Type 0
ModulesSay = (start check : ℕ) (values modules text : List ℕ)
    → IsCode128Symbol start values check modules
    → (symbol_text start values check ≡ Ok text) ↔ IsGs1Symbol modules text

-- the values printed for a text decode to that text
abbrev pub CodedIsSaid : Type 0
CodedIsSaid = (text : List ℕ) → IsTrue (list_all is_coded_byte text) → text_from C (coded text) ≡ Ok text

-- so the symbol printed for a text is a GS1-128 symbol of that text
abbrev pub PrintedIsSaid : Type 0
PrintedIsSaid = (text modules : List ℕ) → IsTrue (list_all is_coded_byte text)
    → IsCode128Symbol start_c (data_values text) (mod103 start_c (data_values text)) modules → IsGs1Symbol modules text

-- a text that begins with two digits, as every element string does, has at most one value per byte
abbrev pub CodedIsShort : Type 0
CodedIsShort = (text : List ℕ) → 2 ≤ digits_ahead text → length (coded text) ≤ length text

-- each value decodes to at most two bytes
abbrev pub SaidIsShort : Type 0
SaidIsShort = (set : CodeSet) (values text : List ℕ) → text_from set values ≡ Ok text → length text ≤ 2 * length values

-- values have a text exactly if each has a meaning in its code set; the error is that of the first without one
pub record TextOrFault (set : CodeSet) (values : List ℕ) : Type 0 where
  pub text : (text : List ℕ) → (text_from set values ≡ Ok text) ↔ ((to : CodeSet) × Says set values text to)
  pub fault : (fault : Code128Fault) → (text_from set values ≡ Err fault)
      ↔ ((front : List ℕ) × (rest : List ℕ) × (said : List ℕ) × (to : CodeSet) × (values ≡ front ++ rest) × Says set front said to × HasFault to rest fault)
