-- The text that the values of a Code 128 symbol encode in code sets A, B and C (ISO/IEC 15417, code set tables; GS1
-- General Specifications, section 5.4). Reading gives back what was encoded.
use Rattle.std.specs.Prelude.{◌≡◌, ℕ, ◌+◌, ◌-◌, ◌/◌, ◌%◌, ◌<◌, ◌≤◌, ◌==◌, List, [], ◌∷◌, ◌++◌, Result, Ok, Err, nat_lt, if◌then◌else◌}
use Rattle.code128_code.specs.declared.code_set.CodeSet.{CodeSet}
use Rattle.code128_code.specs.declared.code_set.CodeSet.TheVariants.{A, B, C}
use Rattle.code128_code.specs.declared.meanings.Meaning.{Meaning}
use Rattle.code128_code.specs.declared.meanings.Meaning.TheVariants.{Byte, Digits, Latch, Shift, Function}
use Rattle.code128_code.specs.declared.fault.Code128Fault.{Code128Fault}
use Rattle.code128_code.specs.declared.fault.Code128Fault.TheVariants as faults
use Rattle.code128_code.specs.Characters.{code_a, code_b, code_c, fnc1, shift_value, start_a, start_b}
use Rattle.code128_code.specs.Symbols.{IsCode128Symbol, mod103}

-- ---- one value

-- the byte of a value 0 to 95 in code set A
abbrev pub byte_a : ℕ → ℕ
byte_a v = if nat_lt v 64 then v + 32 else v - 64

-- the byte of a value 0 to 95 in code set B
abbrev pub byte_b : ℕ → ℕ
byte_b v = v + 32

-- the byte of a value 0 to 95 after SHIFT, which uses the other of code sets A and B
abbrev pub shifted_byte : CodeSet → ℕ → ℕ
shifted_byte A v = byte_b v
shifted_byte B v = byte_a v
shifted_byte C v = byte_a v

-- the two digits of a value 0 to 99 in code set C
abbrev pub two_digits : ℕ → List ℕ
two_digits v = (48 + v / 10) ∷ (48 + v % 10) ∷ []

-- the meaning of a value of 96 or more in code sets A and B; one value changes to the other set
abbrev pub special : ℕ → ℕ → CodeSet → Meaning
special v change other =
    if v == shift_value then Shift else if v == code_c then Latch C else if v == change then Latch other else if v == fnc1 then Byte 29 else Function

-- the meaning of a value in a code set; FNC1 (102) is a separator
abbrev pub meaning : CodeSet → ℕ → Meaning
meaning A v = if nat_lt v 96 then Byte (byte_a v) else special v code_b B
meaning B v = if nat_lt v 96 then Byte (byte_b v) else special v code_a A
meaning C v = if nat_lt v 100 then Digits v else if v == code_b then Latch B else if v == code_a then Latch A else if v == fnc1 then Byte 29 else Function

-- ---- lists of values

-- the text with these bytes in front, if there is a text
abbrev pub before : List ℕ → Result (List ℕ) Code128Fault → Result (List ℕ) Code128Fault
before bytes (Ok text) = Ok (bytes ++ text)
before bytes (Err fault) = Err fault

-- the text from a value on: its meaning, then that of the rest in the code set that follows; or the text after SHIFT
abbrev pub says : Meaning → CodeSet → (CodeSet → Result (List ℕ) Code128Fault) → Result (List ℕ) Code128Fault → Result (List ℕ) Code128Fault
says (Byte b) set after shifted = before (b ∷ []) (after set)
says (Digits v) set after shifted = before (two_digits v) (after set)
says (Latch other) set after shifted = after other
says Shift set after shifted = shifted
says Function set after shifted = Err faults.FunctionCharacter

-- the text of values from this code set on, or the error of the first without a meaning; SHIFT needs 0 to 95 after it
abbrev pub text_from : CodeSet → List ℕ → Result (List ℕ) Code128Fault
text_from set [] = Ok []
text_from set (v ∷ []) = says (meaning set v) set (λ next. Ok []) (Err faults.CodeSet)
text_from set (v ∷ w ∷ values) =
    says (meaning set v) set (λ next. text_from next (w ∷ values))
    (if nat_lt w 96 then before (shifted_byte set w ∷ []) (text_from set values) else Err faults.CodeSet)

-- ---- symbols

-- the code set of a start character: A is 103, B is 104, C is 105
abbrev pub set_of : ℕ → CodeSet
set_of start = if start == start_a then A else if start == start_b then B else C

-- the text of a symbol's data values; in a GS1-128 symbol the first is FNC1
abbrev pub gs1_text : CodeSet → List ℕ → Result (List ℕ) Code128Fault
gs1_text set [] = Err faults.NotGs1
gs1_text set (v ∷ values) = if v == fnc1 then text_from set values else Err faults.NotGs1

-- the text of a symbol with this start character, these data values and this check character, or its first error
abbrev pub symbol_text : ℕ → List ℕ → ℕ → Result (List ℕ) Code128Fault
symbol_text start values check =
    if check == mod103 start values then gs1_text (set_of start) values else Err faults.CheckCharacter

-- the modules are a GS1-128 symbol with a correct check character, and its values after FNC1 have this text
pub record IsGs1Symbol (modules text : List ℕ) : Type 0 where
  pub start : ℕ
  pub values : List ℕ
  pub symbol : IsCode128Symbol start (fnc1 ∷ values) (mod103 start (fnc1 ∷ values)) modules
  pub says : text_from (set_of start) values ≡ Ok text

-- ---- the same value by value, from the left

-- from the first code set on, these values have this text and end in the second; SHIFT is one with the value after it
pub data Says : CodeSet → List ℕ → List ℕ → CodeSet → Type 0 where
  nothing : (set : CodeSet) → Says set [] [] set
  byte : (set to : CodeSet) (v b : ℕ) (values text : List ℕ) → meaning set v ≡ Byte b → Says set values text to → Says set (v ∷ values) (b ∷ text) to
  digits : (set to : CodeSet) (v d : ℕ) (values text : List ℕ) → meaning set v ≡ Digits d → Says set values text to
      → Says set (v ∷ values) (two_digits d ++ text) to
  latch : (set other to : CodeSet) (v : ℕ) (values text : List ℕ) → meaning set v ≡ Latch other → Says other values text to → Says set (v ∷ values) text to
  shift : (set to : CodeSet) (v w : ℕ) (values text : List ℕ) → meaning set v ≡ Shift → w < 96 → Says set values text to
      → Says set (v ∷ w ∷ values) (shifted_byte set w ∷ text) to

-- the first of these values is an error in this code set: FNC2, FNC3 or FNC4, or SHIFT without a value 0 to 95 after it
abbrev pub HasFault : CodeSet → List ℕ → Code128Fault → Type 0
HasFault set (v ∷ values) faults.FunctionCharacter = meaning set v ≡ Function
HasFault set (v ∷ []) faults.CodeSet = meaning set v ≡ Shift
HasFault set (v ∷ w ∷ values) faults.CodeSet = (meaning set v ≡ Shift) × (96 ≤ w)
HasFault _ _ _ = ⊥
