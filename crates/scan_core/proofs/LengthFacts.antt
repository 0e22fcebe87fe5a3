-- The text of a symbol fits an element string, so no row is refused for its length.
use Rattle.std.proofs.Common.{◌≡◌, ℕ, ◌+◌, ◌%◌, ◌≤◌, ◌==◌, nat_lt, not, Bool, true, false, List, [], ◌∷◌, ◌++◌, length, drop, Option, Some, None, MatchOption, Result, Ok, Err, codes, ap, ◌∙◌, arith, if◌then◌else◌}
use Rattle.std.proofs.lemmas.Bool.Decides.{nat_tests}
use Rattle.std.proofs.lemmas.List.{length-append, length-map}
use Rattle.digits_core.specs.Digits.{ascii_of, weighted}
use Rattle.element_core.specs.Elements.{FirstFault, StopsWith, each_part, fault_by, field_of, has_characters, has_check_digit, has_whole_steps, value_in}
use Rattle.element_core.specs.Times.{is_named}
use Rattle.element_core.specs.Table.{Row, greatest_of, least_of}
use Rattle.element_core.specs.declared.fault.ElementFault.TheVariants.{Empty, ValueLength, ValueCharacter, ValueCheckDigit, ValueDate, MissingSeparator, TooLong}
use Rattle.ean_code.specs.Laws.{EachGtinHasFourteen}
use Rattle.ean_code.specs.Spelling.{gtin_of}
use Rattle.ean_code.specs.declared.kind.Kind.{Kind}
use Rattle.code128_code.specs.Laws.{SaidIsShort}
use Rattle.code128_code.specs.Symbols.{mod103}
use Rattle.code128_code.specs.Texts.{gs1_text, set_of, symbol_text, text_from}
use Rattle.code128_code.specs.declared.code_set.CodeSet.{CodeSet}
use Rattle.code128_code.specs.declared.fault.Code128Fault.{Code128Fault}
use Rattle.code128_code.specs.declared.fault.Code128Fault.TheVariants.{CheckCharacter, NotGs1}
use Rattle.scan_core.specs.Answers.{Spells, row_text}
use Rattle.element_core.specs.Terms.{Terms, row_by_terms}
use Rattle.scan_core.specs.declared.fault.RowFault.TheVariants.{SymbolCheckDigit}

-- ---- numbers

checked_is : (right : Bool) (text all : List ℕ) → Ok text ≡ (if right then Ok all else Err SymbolCheckDigit) → text ≡ all
checked_is true text all e = cc
checked_is false text all e = absurd cc

number_fits : EachGtinHasFourteen → (kind : Kind) (ms text : List ℕ) → Spells (Some kind) ms (Ok text) → length text ≤ 192
number_fits fourteen kind ms text a =
    let gtin : List ℕ = gtin_of kind a.0 in
    let long : length gtin ≡ 14 = fourteen kind a.0 a.1.count in
    let ascii : length (ascii_of gtin) ≡ 14 = length-map gtin (λ d. d + 48) ∙ long in
    let is : text ≡ codes "01" ++ ascii_of gtin = checked_is (weighted gtin % 10 == 0) text (codes "01" ++ ascii_of gtin) a.2 in
    let all : length text ≡ 16 = ap length is ∙ length-append (codes "01") (ascii_of gtin) ∙ (omega arith) in omega arith

-- ---- Code 128

code_fits : SaidIsShort → (set : CodeSet) (values text : List ℕ) (right : Bool) → length values ≤ 96
    → (if right then gs1_text set values else Err CheckCharacter) ≡ Ok text → length text ≤ 192
code_fits law set values text false few e = absurd cc
code_fits law set [] text true few e = absurd cc
code_fits law set (v ∷ values) text true few e = first (v == 102) e
  where
    first : (b : Bool) → (if b then text_from set values else Err NotGs1) ≡ Ok text → length text ≤ 192
    first true e = let short = law set values text e in omega arith
    first false e = absurd cc

row_ok : (text : List ℕ) (r : Result (List ℕ) Code128Fault) → Ok text ≡ row_text r → r ≡ Ok text
row_ok text (Ok u) e = cc
row_ok text (Err f) e = absurd cc

pub content_fits : SaidIsShort → EachGtinHasFourteen → (kind : Option Kind) (ms text : List ℕ) → Spells kind ms (Ok text) → length text ≤ 192
content_fits law fourteen (Some kind) ms text a = number_fits fourteen kind ms text a
content_fits law fourteen None ms text a =
    code_fits law (set_of a.0) a.1 text (a.2 == mod103 a.0 a.1) a.3.few (row_ok text (symbol_text a.0 a.1 a.2) a.4)

-- ---- faults of a text that fits

not_long : (a b o c d e : Bool) (p : ℕ)
    → (if a then Some (ValueLength p) else if b then Some (MissingSeparator p) else if not o then Some (ValueLength p) else if not c then Some
    (ValueCharacter p)
    else if not d then Some (ValueCheckDigit p) else if not e then Some (ValueDate p) else None) ≡ Some TooLong → ⊥
not_long true b o c d e p h = cc
not_long false true o c d e p h = cc
not_long false false false c d e p h = cc
not_long false false true false d e p h = cc
not_long false false true true false e p h = cc
not_long false false true true true false p h = cc
not_long false false true true true true p h = cc

fault_not_long : (year : Terms) (p : ℕ) (text : List ℕ) (row : Option Row) → fault_by year p text row ≡ Some TooLong → ⊥
fault_not_long year p text None h = cc
fault_not_long year p text (Some row) h =
    let value = value_in row (field_of (drop (length row.ai) text)) in
    not_long (nat_lt (length value) (least_of row.parts)) (nat_lt (greatest_of row.parts) (length value)) (each_part has_whole_steps row.parts value)
    (each_part has_characters row.parts value)
    (each_part has_check_digit row.parts value) (each_part (λ p. is_named year.year p.rule) row.parts value) p h

sized : (a b : Bool) (P : Type 0) → a ≡ false → (P → ⊥)
    → MatchOption (if a then Some TooLong else if b then Some Empty else None) P (λ g. TooLong ≡ g) → ⊥
sized true b P e none h = absurd cc
sized false true P e none h = cc
sized false false P e none h = none h

pub never_long : (year : Terms) (text : List ℕ) → length text ≤ 192 → FirstFault year text TooLong → ⊥
never_long year text fits h =
    sized (nat_lt 192 (length text)) (length text == 0) (StopsWith year text TooLong) (grind (arith, nat_tests))
    (λ s. fault_not_long year s.place s.rest (row_by_terms year s.rest) s.fault) h
