-- Texts that are GTINs.
use Rattle.std.proofs.Common.{◌≡◌, ℕ, zero, suc, ◌-◌, ◌%◌, ◌≤◌, ◌==◌, Bool, true, false, cond, List, ◌++◌, Some, None, Option, length, replicate, refl, arith, lit<, eqb-true, length-append}
use Rattle.std.proofs.lemmas.Bool.Decides.{nat_tests}
use Rattle.std.proofs.lemmas.List.{length-map, length-replicate}
use Rattle.digits_core.specs.Digits.{AreDigits, IsChecked, digits_of, weighted}
use Rattle.digits_core.specs.Gtins.{digits_fault, first_other, is_gtin_length}
use Rattle.digits_core.specs.Laws.{GtinsAreChecked}
use Rattle.digits_core.specs.declared.fault.DigitFault.TheVariants.{CheckDigit, Length}
use Rattle.digits_core.proofs.DigitTexts.{digits_if_none, digits_of-valid}
use Rattle.digits_core.proofs.Weights.{checked_padded}

short : (n : ℕ) → is_gtin_length n ≡ true → n ≤ 14
short n e = grind (arith, nat_tests)

zeros : (n : ℕ) (ds : List ℕ) → AreDigits ds → AreDigits (replicate n 0 ++ ds)
zeros zero ds h = h
zeros (suc n) ds h = (lit< tt, zeros n ds h)

-- a text of digits without a fault has its check digit
checked : (ds : List ℕ) (b : Bool) → (weighted ds % 10 == 0) ≡ b → cond b None (Some CheckDigit) ≡ None → IsChecked ds
checked ds true e h = eqb-true (weighted ds % 10) 0 e
checked ds false e h = cc

by_digits : (text : List ℕ) (o : Option ℕ) → first_other text ≡ o → digits_fault text o ≡ None → AreDigits (digits_of text) × IsChecked (digits_of text)
by_digits text (Some place) e h = cc
by_digits text None e h = (digits_of-valid text (digits_if_none text e), checked (digits_of text) (weighted (digits_of text) % 10 == 0) refl h)

by_length : (text : List ℕ) (b : Bool) → is_gtin_length (length text) ≡ b → cond b (digits_fault text (first_other text)) (Some Length) ≡ None
    → (length text ≤ 14) × AreDigits (digits_of text) × IsChecked (digits_of text)
by_length text true e h = let d = by_digits text (first_other text) refl h in (short (length text) e, d.0, d.1)
by_length text false e h = cc

pub gtins_are_checked : GtinsAreChecked
gtins_are_checked text none =
    let ds : List ℕ = digits_of text in
    let d = by_length text (is_gtin_length (length text)) refl none in
    let same = length-map text (λ b. b - 48) in
    let sum = length-append (replicate (14 - length ds) 0) ds in
    let front = length-replicate {A = ℕ} (14 - length ds) 0 in
    (omega arith, zeros (14 - length ds) ds d.1, checked_padded ds d.2)
