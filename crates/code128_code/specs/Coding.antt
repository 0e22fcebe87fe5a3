-- Which values encode an element string in code sets B and C. The standard allows several encodings; this product
-- always uses this one, by the standard's rules for changing the code set (ISO/IEC 15417, use of start, code set and
-- shift characters).
use Rattle.std.specs.Prelude.{ℕ, ◌+◌, ◌-◌, ◌*◌, ◌%◌, ◌==◌, Bool, ◌&&◌, ◌||◌, List, [], ◌∷◌, ◌++◌, length, map, nat_le, nat_lt, if◌then◌else◌}
use Rattle.element_core.specs.Elements.{is_digit}
use Rattle.code128_code.specs.declared.code_set.CodeSet.{CodeSet}
use Rattle.code128_code.specs.declared.code_set.CodeSet.TheVariants.{B, C}
use Rattle.code128_code.specs.Characters.{code_b, code_c, fnc1}

-- ---- runs of digits

-- adjacent digits, or one other byte
pub data Run : Type 0 where
  Digits : List ℕ → Run
  Other : ℕ → Run

-- runs with a digit before them: it joins the first run if that has digits
abbrev pub with_digit : ℕ → List Run → List Run
with_digit d [] = Digits (d ∷ []) ∷ []
with_digit d (Digits ds ∷ runs) = Digits (d ∷ ds) ∷ runs
with_digit d (Other b ∷ runs) = Digits (d ∷ []) ∷ Other b ∷ runs

-- the runs of a text
abbrev pub runs_of : List ℕ → List Run
runs_of [] = []
runs_of (b ∷ text) = if is_digit b then with_digit b (runs_of text) else Other b ∷ runs_of text

-- ---- their values

-- the value of a byte in code set B
abbrev pub letter : ℕ → ℕ
letter b = b - 32

-- the value of two digits in code set C
abbrev pub pair : ℕ → ℕ → ℕ
pair a b = 10 * (a - 48) + (b - 48)

-- the values of digits in code set C and of what follows: each pair is one value; before a single last digit the code
-- set changes to B
abbrev pub digits_in_c : List ℕ → (CodeSet → List ℕ) → List ℕ
digits_in_c [] after = after C
digits_in_c (d ∷ []) after = code_b ∷ letter d ∷ after B
digits_in_c (a ∷ b ∷ digits) after = pair a b ∷ digits_in_c digits after

-- The values of digits in code set B: up to three are one value each. Before four or more the code set changes to C; if
-- their number is odd, it changes after the first.
abbrev pub digits_in_b : List ℕ → (CodeSet → List ℕ) → List ℕ
digits_in_b [] after = after B
digits_in_b (d ∷ digits) after =
    if nat_lt (length (d ∷ digits)) 4 then map letter (d ∷ digits) ++ after B
    else if length (d ∷ digits) % 2 == 0 then code_c ∷ digits_in_c (d ∷ digits) after
    else letter d ∷ code_c ∷ digits_in_c digits after

-- The values of runs in code set C or B. A separator is FNC1 in both. Before any other byte that is no digit, the code
-- set changes from C to B.
abbrev pub coded_runs : CodeSet → List Run → List ℕ
coded_runs set [] = []
coded_runs C (Digits digits ∷ runs) = digits_in_c digits (λ next. coded_runs next runs)
coded_runs C (Other b ∷ runs) = if b == 29 then fnc1 ∷ coded_runs C runs else code_b ∷ letter b ∷ coded_runs B runs
coded_runs _ (Digits digits ∷ runs) = digits_in_b digits (λ next. coded_runs next runs)
coded_runs _ (Other b ∷ runs) = if b == 29 then fnc1 ∷ coded_runs B runs else letter b ∷ coded_runs B runs

-- the values of a text that starts in code set C
abbrev pub coded : List ℕ → List ℕ
coded text = coded_runs C (runs_of text)

-- the data values of the printed symbol: FNC1, then the values of the text
abbrev pub data_values : List ℕ → List ℕ
data_values text = fnc1 ∷ coded text

-- ---- texts that can be encoded

-- the number of digits at the front
abbrev pub digits_ahead : List ℕ → ℕ
digits_ahead [] = 0
digits_ahead (b ∷ text) = if is_digit b then 1 + digits_ahead text else 0

-- a byte that code set B or FNC1 can encode
abbrev pub is_coded_byte : ℕ → Bool
is_coded_byte b = (b == 29) || (nat_le 32 b && nat_le b 127)
