-- GTINs with zeros before the digits of a shorter one.
use Rattle.std.proofs.Common.{◌≡◌, ℕ, zero, suc, ◌+◌, ◌-◌, ◌≤◌, ◌==◌, true, List, [], ◌∷◌, ◌++◌, length, take, drop, replicate, refl, sym, ap, ap₂, ◌∙◌, arith, get_or, eqb-true, length-drop}
use Rattle.std.specs.List.{list_all}
use Rattle.std.proofs.lemmas.Bool.{and_parts, eq-eqb}
use Rattle.std.proofs.lemmas.List.{drop-map, length-map}
use Rattle.digits_core.specs.Digits.{AreAsciiDigits, ascii_of, ascii_of-digits_of, digits_of, padded}

-- the text of the digits but the first n
pub text_from : (n : ℕ) (text ds : List ℕ) → AreAsciiDigits text → digits_of text ≡ ds → drop n text ≡ ascii_of (drop n ds)
text_from n text ds valid is =
    ap (drop n) (sym (ascii_of-digits_of text valid) ∙ ap ascii_of is) ∙ drop-map (λ d. d + 48) n ds

-- a digit is '0' exactly where it shows 0
zero_shown : (b : ℕ) → 48 ≤ b → b - 48 ≡ 0 → b ≡ 48
zero_shown b low e = omega arith

zeros_are : (n : ℕ) (text : List ℕ) → n ≤ length text → list_all (λ b. b == 48) (take n text) ≡ true → digits_of text ≡ replicate n 0 ++ drop n (digits_of text)
zeros_are zero text h e = refl
zeros_are (suc n) [] h e = absurd (omega arith)
zeros_are (suc n) (b ∷ text) h e =
    let parts = and_parts (b == 48) (list_all (λ b. b == 48) (take n text)) e in
    let first : b - 48 ≡ 0 = let is = eqb-true b 48 parts.0 in omega arith in
    ap₂ (λ d ds. d ∷ ds) first (zeros_are n text (omega arith) parts.1)

are_zeros : (n : ℕ) (text ds : List ℕ) → AreAsciiDigits text → n ≤ length text → digits_of text ≡ replicate n 0 ++ ds → list_all (λ b. b == 48) (take n text)
    ≡ true
are_zeros zero text ds valid h e = refl
are_zeros (suc n) [] ds valid h e = absurd (omega arith)
are_zeros (suc n) (b ∷ text) ds valid h e =
    let first : b - 48 ≡ 0 = ap (λ xs. get_or xs 0 0) e in
    let here : (b == 48) ≡ true = eq-eqb b 48 (zero_shown b valid.0.0 first) in
    rw here (are_zeros n text ds valid.1 (omega arith) (ap (drop 1) e))

-- a text of 14 digits begins with n zeros exactly where its digits are those after them, padded
pub padded_from : (n : ℕ) (text : List ℕ) → length text ≡ 14 → n ≤ 14 → AreAsciiDigits text
    → ((list_all (λ b. b == 48) (take n text) ≡ true → digits_of text ≡ padded (drop n (digits_of text)))
    × (digits_of text ≡ padded (drop n (digits_of text)) → list_all (λ b. b == 48) (take n text) ≡ true))
padded_from n text long few valid =
    let short = length-drop n (digits_of text) in
    let same = length-map text (λ b. b - 48) in
    let count : n ≡ 14 - length (drop n (digits_of text)) = omega arith in (
      λ e. zeros_are n text (omega arith) e ∙ ap (λ k. replicate k 0 ++ drop n (digits_of text)) count,
      λ e. are_zeros n text (drop n (digits_of text)) valid (omega arith) (e ∙ ap (λ k. replicate k 0 ++ drop n (digits_of text)) (sym count)),
    )
