-- Digits and their texts, and the GTINs that they are.
use Rattle.std.proofs.Common.{◌≡◌, ℕ, zero, suc, ◌+◌, ◌-◌, ◌%◌, ◌≤◌, List, [], ◌∷◌, ◌++◌, length, drop, replicate, refl, sym, ap, ap₂, subst, ◌∙◌, arith}
use Rattle.std.proofs.lemmas.List.{append_assoc, drop_at, length-append, length-replicate, map-append}
use Rattle.digits_core.specs.Digits.{AreDigits, AreAsciiDigits, IsChecked, ascii_of, digits_of, padded, weighted}
use Rattle.ean_code.specs.inner.Parts.{IsTextOf}
use Rattle.ean_code.specs.declared.kind.Kind.{Kind}
use Rattle.ean_code.specs.Symbols.{IsNumberSymbol}

pub ascii_valid : (ds : List ℕ) → AreDigits ds → AreAsciiDigits (ascii_of ds)
ascii_valid [] h = tt
ascii_valid (d ∷ ds) h = ((omega arith, omega (arith, h.0)), ascii_valid ds h.1)

pub AreDigits-shown : (text : List ℕ) → AreAsciiDigits text → AreDigits (digits_of text)
AreDigits-shown [] h = tt
AreDigits-shown (b ∷ text) h = (omega (arith, h.0.0, h.0.1), AreDigits-shown text h.1)

pub shown_back : (ds : List ℕ) → digits_of (ascii_of ds) ≡ ds
shown_back [] = refl
shown_back (d ∷ ds) = ap₂ (λ x xs. x ∷ xs) (omega arith) (shown_back ds)

-- the text of a symbol's digits
pub text_of : (kind : Kind) (ws ds text : List ℕ) → text ≡ ascii_of ds → IsNumberSymbol kind ws ds → IsTextOf kind ws text
text_of kind ws ds text e s =
    let back : digits_of text ≡ ds = ap digits_of e ∙ shown_back ds in
    (subst AreAsciiDigits (sym e) (ascii_valid ds s.valid), subst (λ es. IsNumberSymbol kind ws es) (sym back) s)

pub ascii-append : (xs ys : List ℕ) → ascii_of (xs ++ ys) ≡ ascii_of xs ++ ascii_of ys
ascii-append xs ys = map-append (λ d. d + 48) xs ys

-- the text of two lists of digits, one after the other
pub two_parts : (text one two xs ys : List ℕ) → one ≡ text ++ ascii_of xs → two ≡ one ++ ascii_of ys → two ≡ text ++ ascii_of (xs ++ ys)
two_parts text one two xs ys e f =
    f ∙ ap (λ t. t ++ ascii_of ys) e ∙ append_assoc text (ascii_of xs) (ascii_of ys) ∙ ap (λ t. text ++ t) (sym (ascii-append xs ys))

-- the digits that a GTIN has zeros before
pub padded_drop : (n : ℕ) (ds gtin : List ℕ) → length ds + n ≡ 14 → gtin ≡ padded ds → drop n gtin ≡ ds
padded_drop n ds gtin count e =
    let zeros : 14 - length ds ≡ n = omega arith in ap (drop n) e ∙ drop_at (replicate (14 - length ds) 0) ds n (length-replicate (14 - length ds) 0 ∙ zeros)

weighted-zeros : (k : ℕ) (ds : List ℕ) → weighted (replicate k 0 ++ ds) ≡ weighted ds
weighted-zeros zero ds = refl
weighted-zeros (suc k) ds = let rest = weighted-zeros k ds in omega arith

-- a number with zeros before it is checked only if it is
pub checked_unpadded : (ds : List ℕ) → IsChecked (padded ds) → IsChecked ds
checked_unpadded ds h = ap (λ n. n % 10) (sym (weighted-zeros (14 - length ds) ds)) ∙ h

pub length-padded : (ds : List ℕ) → length ds ≤ 14 → length (padded ds) ≡ 14
length-padded ds few = omega (arith, length-append {A = ℕ}, length-replicate {A = ℕ})
