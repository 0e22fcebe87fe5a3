-- The symbol characters of Code 128 (ISO/IEC 15417, symbol character encodation).
use Rattle.std.specs.Prelude.{ℕ, List, [], ◌∷◌, codes, map, slice_index_or}
use Rattle.digits_core.specs.Digits.{digits_of}

-- the widths in modules of values 0 to 102 and of start characters A, B and C (103 to 105): six digits each, bar first
unfoldable pub patterns : List (List ℕ)
patterns = map digits_of
    (codes "212222" ∷ codes "222122" ∷ codes "222221" ∷ codes "121223" ∷ codes "121322" ∷ codes "131222" ∷ codes "122213" ∷ codes "122312" ∷ codes "132212"
    ∷ codes "221213" ∷ codes "221312" ∷ codes "231212" ∷ codes "112232" ∷ codes "122132" ∷ codes "122231" ∷ codes "113222" ∷ codes "123122" ∷ codes "123221"
    ∷ codes "223211" ∷ codes "221132" ∷ codes "221231" ∷ codes "213212" ∷ codes "223112" ∷ codes "312131" ∷ codes "311222" ∷ codes "321122" ∷ codes "321221"
    ∷ codes "312212" ∷ codes "322112" ∷ codes "322211" ∷ codes "212123" ∷ codes "212321" ∷ codes "232121" ∷ codes "111323" ∷ codes "131123" ∷ codes "131321"
    ∷ codes "112313" ∷ codes "132113" ∷ codes "132311" ∷ codes "211313" ∷ codes "231113" ∷ codes "231311" ∷ codes "112133" ∷ codes "112331" ∷ codes "132131"
    ∷ codes "113123" ∷ codes "113321" ∷ codes "133121" ∷ codes "313121" ∷ codes "211331" ∷ codes "231131" ∷ codes "213113" ∷ codes "213311" ∷ codes "213131"
    ∷ codes "311123" ∷ codes "311321" ∷ codes "331121" ∷ codes "312113" ∷ codes "312311" ∷ codes "332111" ∷ codes "314111" ∷ codes "221411" ∷ codes "431111"
    ∷ codes "111224" ∷ codes "111422" ∷ codes "121124" ∷ codes "121421" ∷ codes "141122" ∷ codes "141221" ∷ codes "112214" ∷ codes "112412" ∷ codes "122114"
    ∷ codes "122411" ∷ codes "142112" ∷ codes "142211" ∷ codes "241211" ∷ codes "221114" ∷ codes "413111" ∷ codes "241112" ∷ codes "134111" ∷ codes "111242"
    ∷ codes "121142" ∷ codes "121241" ∷ codes "114212" ∷ codes "124112" ∷ codes "124211" ∷ codes "411212" ∷ codes "421112" ∷ codes "421211" ∷ codes "212141"
    ∷ codes "214121" ∷ codes "412121" ∷ codes "111143" ∷ codes "111341" ∷ codes "131141" ∷ codes "114113" ∷ codes "114311" ∷ codes "411113" ∷ codes "411311"
    ∷ codes "113141" ∷ codes "114131" ∷ codes "311141" ∷ codes "411131" ∷ codes "211412" ∷ codes "211214" ∷ codes "211232" ∷ [])

-- the values that encode no data: SHIFT, code sets C, B and A, FNC1, and the start characters A, B and C
abbrev pub shift_value : ℕ
shift_value = 98

abbrev pub code_c : ℕ
code_c = 99

abbrev pub code_b : ℕ
code_b = 100

abbrev pub code_a : ℕ
code_a = 101

abbrev pub fnc1 : ℕ
fnc1 = 102

abbrev pub start_a : ℕ
start_a = 103

abbrev pub start_b : ℕ
start_b = 104

abbrev pub start_c : ℕ
start_c = 105

-- the widths of the character with this value
abbrev pub pattern : ℕ → List ℕ
pattern v = slice_index_or patterns v []

-- the widths of the stop character
abbrev pub stop : List ℕ
stop = 2 ∷ 3 ∷ 3 ∷ 1 ∷ 1 ∷ 1 ∷ 2 ∷ []
