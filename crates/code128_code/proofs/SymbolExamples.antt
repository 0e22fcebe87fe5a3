-- Printed symbols and their texts.
use Rattle.std.proofs.Common.{◌≡◌, [], ◌∷◌, ◌++◌, Ok, Err, refl}
use Rattle.std.specs.Prelude.{codes}
use Rattle.std.specs.List.{concat}
use Rattle.code128_code.specs.declared.fault.Code128Fault.TheVariants as faults
use Rattle.code128_code.specs.Characters.{patterns, stop}
use Rattle.code128_code.specs.Coding.{data_values}
use Rattle.code128_code.specs.Symbols.{mod103, symbol_widths}
use Rattle.code128_code.specs.Texts.{symbol_text}

trade_item : (data_values (codes "0109501101530003") ≡ 102 ∷ 1 ∷ 9 ∷ 50 ∷ 11 ∷ 1 ∷ 53 ∷ 0 ∷ 3 ∷ []) × (mod103 105 (data_values (codes "0109501101530003")) ≡ 71)
trade_item = (refl, refl)

batch_first : (data_values (codes "10AB" ++ 29 ∷ codes "17261231") ≡ 102 ∷ 10 ∷ 100 ∷ 33 ∷ 34 ∷ 102 ∷ 99 ∷ 17 ∷ 26 ∷ 12 ∷ 31 ∷ [])
    × (mod103 105 (data_values (codes "10AB" ++ 29 ∷ codes "17261231")) ≡ 81)
batch_first = (refl, refl)

batch_last : (data_values (codes "1726123110AB") ≡ 102 ∷ 17 ∷ 26 ∷ 12 ∷ 31 ∷ 10 ∷ 100 ∷ 33 ∷ 34 ∷ []) × (mod103 105 (data_values (codes "1726123110AB")) ≡ 101)
batch_last = (refl, refl)

odd_run : (data_values (codes "10A12345") ≡ 102 ∷ 10 ∷ 100 ∷ 33 ∷ 17 ∷ 99 ∷ 23 ∷ 45 ∷ []) × (mod103 105 (data_values (codes "10A12345")) ≡ 5)
odd_run = (refl, refl)

country : (mod103 105 (data_values (codes "422528")) ≡ 66)
    × (symbol_widths 105 (data_values (codes "422528")) 66 ≡ concat
    ((2 ∷ 1 ∷ 1 ∷ 2 ∷ 3 ∷ 2 ∷ []) ∷ (4 ∷ 1 ∷ 1 ∷ 1 ∷ 3 ∷ 1 ∷ []) ∷ (1 ∷ 1 ∷ 2 ∷ 1 ∷ 3 ∷ 3 ∷ []) ∷ (3 ∷ 2 ∷ 1 ∷ 1 ∷ 2 ∷ 2 ∷ []) ∷
    (3 ∷ 2 ∷ 2 ∷ 1 ∷ 1 ∷ 2 ∷ []) ∷ (1 ∷ 2 ∷ 1 ∷ 4 ∷ 2 ∷ 1 ∷ []) ∷ []) ++ stop)
unfolding patterns
country = (refl, refl)

no_elements : symbol_text 105 (102 ∷ []) 1 ≡ Ok []
no_elements = refl

separators : (symbol_text 105 (102 ∷ 20 ∷ 11 ∷ 102 ∷ []) 70 ≡ Ok (codes "2011" ++ 29 ∷ [])) × (symbol_text 103 (102 ∷ 93 ∷ []) 82 ≡ Ok (29 ∷ []))
separators = (refl, refl)

shift_last : symbol_text 104 (102 ∷ 98 ∷ []) 93 ≡ Err faults.CodeSet
shift_last = refl

fourth_function : symbol_text 104 (102 ∷ 100 ∷ []) 97 ≡ Err faults.FunctionCharacter
fourth_function = refl

no_function_first : symbol_text 105 (12 ∷ []) 14 ≡ Err faults.NotGs1
no_function_first = refl

wrong_check : symbol_text 105 (12 ∷ []) 15 ≡ Err faults.CheckCharacter
wrong_check = refl
