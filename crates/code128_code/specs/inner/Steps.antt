-- How far reading or encoding has come.
use Rattle.std.specs.Prelude.{ℕ, ◌-◌, ◌%◌, ◌==◌, ◌&&◌, Bool, true, false, List, [], ◌∷◌, ◌++◌, Result, Err, nat_le, nat_lt, if◌then◌else◌}
use Rattle.code128_code.specs.declared.code_set.CodeSet.{CodeSet}
use Rattle.code128_code.specs.declared.coding.Coder.{Coder}
use Rattle.code128_code.specs.declared.fault.Code128Fault.{Code128Fault}
use Rattle.code128_code.specs.declared.fault.Code128Fault.TheVariants as faults
use Rattle.code128_code.specs.declared.texts.Reader.{Reader}
use Rattle.code128_code.specs.Characters.{code_b, code_c, fnc1}
use Rattle.code128_code.specs.Coding.{digits_ahead, pair}
use Rattle.code128_code.specs.Texts.{before, shifted_byte, text_from}

-- the text of the values left to read, perhaps after SHIFT
abbrev pub text_by : CodeSet → Bool → List ℕ → Result (List ℕ) Code128Fault
text_by set false values = text_from set values
text_by set true [] = Err faults.CodeSet
text_by set true (w ∷ values) = if nat_lt w 96 then before (shifted_byte set w ∷ []) (text_from set values) else Err faults.CodeSet

-- the text read so far, followed by that of the values left to read
abbrev pub all_said : Reader → List ℕ → Result (List ℕ) Code128Fault
all_said reader rest = before reader.text.items (text_by reader.set reader.shifted rest)

-- whether the text begins with an even number of digits, four or more
abbrev pub has_even_run : List ℕ → Bool
has_even_run text = nat_le 4 (digits_ahead text) && (digits_ahead text % 2 == 0)

-- The values of a text that starts in code set C or B. A separator is FNC1 (102) in both. In C two digits are one
-- value; if there are no two, 100 changes to B. In B, 99 changes to C before an even number of digits, four or more;
-- every other byte is one value.
abbrev pub coded_on : Bool → List ℕ → List ℕ
coded_on in_c [] = []
coded_on true (b ∷ []) = if b == 29 then fnc1 ∷ [] else code_b ∷ (b - 32) ∷ []
coded_on false (b ∷ []) = if b == 29 then fnc1 ∷ [] else (b - 32) ∷ []
coded_on true (a ∷ b ∷ text) =
    if a == 29 then fnc1 ∷ coded_on true (b ∷ text)
    else if nat_le 2 (digits_ahead (a ∷ b ∷ text)) then pair a b ∷ coded_on true text
    else code_b ∷ (a - 32) ∷ coded_on false (b ∷ text)
coded_on false (a ∷ b ∷ text) =
    if a == 29 then fnc1 ∷ coded_on false (b ∷ text)
    else if has_even_run (a ∷ b ∷ text) then code_c ∷ pair a b ∷ coded_on true text
    else (a - 32) ∷ coded_on false (b ∷ text)

-- whether the next value encodes two digits: in code set C if two come next, in B if an even number does, four or more
abbrev pub begins_pair : Bool → List ℕ → Bool
begins_pair true text = nat_le 2 (digits_ahead text)
begins_pair false text = has_even_run text

-- the value that changes from one code set to the other, true for C and false for B; none if they are the same
abbrev pub change : Bool → Bool → List ℕ
change true true = []
change true false = code_b ∷ []
change false true = code_c ∷ []
change false false = []

-- the values so far, followed by those of the text left to encode
abbrev pub all_coded : Coder → List ℕ → List ℕ
all_coded coder rest = coder.values.items ++ coded_on coder.in_c rest
