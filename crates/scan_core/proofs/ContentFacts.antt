-- What a symbol spells: one thing, and its symbol has the form of its carrier.
use Rattle.std.proofs.Common.{◌≡◌, ◌⊎◌, ◌==◌, ◌%◌, ℕ, Bool, true, false, if◌then◌else◌, ne_eqb, refl, List, ◌++◌, reverse, Option, Some, None, Result, Ok, Err, codes, sym, ap, ◌∙◌, inl, inr}
use Rattle.digits_core.specs.Digits.{IsChecked, ascii_of, weighted}
use Rattle.ean_code.specs.Laws.{OneListOfDigits}
use Rattle.ean_code.specs.Spelling.{gtin_of}
use Rattle.ean_code.specs.declared.kind.Kind.{Kind}
use Rattle.code128_code.specs.Laws.{OneReading}
use Rattle.code128_code.specs.Texts.{symbol_text}
use Rattle.code128_code.specs.declared.fault.Code128Fault.{Code128Fault}
use Rattle.scan_core.specs.declared.carrier.Carrier.{Carrier}
use Rattle.scan_core.specs.declared.fault.RowFault.{RowFault}
use Rattle.scan_core.specs.declared.fault.RowFault.TheVariants.{SymbolCheckDigit, Code128}
use Rattle.scan_core.specs.Showing.{IsSymbol, Way, along, kind_of}
use Rattle.scan_core.specs.Showing.Way.{Forwards, Backwards}
use Rattle.scan_core.specs.Answers.{Spells, checked_text, row_text}

-- ---- one content

one_number : OneListOfDigits → (kind : Kind) (ms : List ℕ) (x y : Result (List ℕ) RowFault) → Spells (Some kind) ms x → Spells (Some kind) ms y → x ≡ y
one_number law kind ms x y a b = a.2 ∙ ap (λ ds. checked_text (gtin_of kind ds)) (law kind ms a.0 b.0 a.1 b.1) ∙ sym b.2

one_text : OneReading → (ms : List ℕ) (x y : Result (List ℕ) RowFault) → Spells None ms x → Spells None ms y → x ≡ y
one_text law ms x y a b =
    let one = law a.0 b.0 a.2 b.2 a.1 b.1 ms a.3 b.3 in
    a.4
    ∙ ap (λ s. row_text (symbol_text s a.1 a.2)) one.0
    ∙ ap (λ vs. row_text (symbol_text b.0 vs a.2)) one.1
    ∙ ap (λ c. row_text (symbol_text b.0 b.1 c)) one.2
    ∙ sym b.4

pub one_content : OneListOfDigits → OneReading → (kind : Option Kind) (ms : List ℕ) (x y : Result (List ℕ) RowFault)
    → Spells kind ms x → Spells kind ms y → x ≡ y
one_content law code (Some kind) ms x y a b = one_number law kind ms x y a b
one_content law code None ms x y a b = one_text code ms x y a b

-- ---- faults

row_err : (fault : RowFault) (r : Result (List ℕ) Code128Fault) → Err fault ≡ row_text r → (f : Code128Fault) × (fault ≡ Code128 f)
row_err fault (Ok text) e = absurd cc
row_err fault (Err f) e = (f, cc)

-- the text of a GTIN, by whether its check digit is right
checked_by : (right : Bool) (fault : RowFault) (text : List ℕ) → Err fault ≡ (if right then Ok text else Err SymbolCheckDigit) → fault ≡ SymbolCheckDigit
checked_by true fault text e = absurd cc
checked_by false fault text e = cc

pub checked_right : (gtin : List ℕ) → IsChecked gtin → Ok (codes "01" ++ ascii_of gtin) ≡ checked_text gtin
checked_right gtin right = rw right refl

pub checked_wrong : (gtin : List ℕ) → (IsChecked gtin → ⊥) → Err SymbolCheckDigit ≡ checked_text gtin
checked_wrong gtin wrong = rw (ne_eqb (weighted gtin % 10) 0 wrong) refl

-- a symbol's own fault is that of a check digit or of Code 128
pub spelled_fault : (kind : Option Kind) (ms : List ℕ) (fault : RowFault) → Spells kind ms (Err fault)
    → (fault ≡ SymbolCheckDigit) ⊎ ((f : Code128Fault) × (fault ≡ Code128 f))
spelled_fault (Some kind) ms fault a = inl (checked_by (weighted (gtin_of kind a.0) % 10 == 0) fault (codes "01" ++ ascii_of (gtin_of kind a.0)) a.2)
spelled_fault None ms fault a = inr (row_err fault (symbol_text a.0 a.1 a.2) a.4)

-- ---- forms

pub spelled_form : (kind : Option Kind) (ms : List ℕ) (x : Result (List ℕ) RowFault) → Spells kind ms x → IsSymbol kind ms
spelled_form (Some kind) ms x a = (a.0, a.1)
spelled_form None ms x a = (a.0, a.1, a.2, a.3)

-- modules that are no symbol either way
pub no_way : (c : Carrier) (ms : List ℕ) → (IsSymbol (kind_of c) ms → ⊥) → (IsSymbol (kind_of c) (reverse ms) → ⊥) → (way : Way)
    → IsSymbol (kind_of c) (along way ms) → ⊥
no_way c ms a b Forwards form = a form
no_way c ms a b Backwards form = b form
