-- Texts of ASCII digits and the digits that they show.
use Rattle.std.proofs.Common.{◌≡◌, ℕ, zero, suc, ◌+◌, ◌-◌, ◌<◌, ◌≤◌, Bool, true, false, not, cond, List, [], ◌∷◌, ◌++◌, Some, None, length, take, drop, replicate, nat_lt, lit≤, lit<, refl, sym, ap, ap₂, ◌∙◌, inl, inr, arith, get_or}
use Rattle.std.specs.List.{position_or_len}
use Rattle.std.specs.Char.{is_ascii_digit}
use Rattle.std.proofs.lemmas.Bool.{and_parts, cases_lt, le-leb, le-ltb, leb-true, lt-ltb}
use Rattle.std.proofs.lemmas.List.{map-append, length-map, drop_more, drop_all, take-append-drop}
use Rattle.digits_core.specs.Digits.{AreDigits, AreAsciiDigits, ascii_of, digits_of, padded}
use Rattle.digits_core.specs.Gtins.{first_other}

digit_byte : (b : ℕ) → is_ascii_digit b ≡ true → (48 ≤ b) × (b < 58)
digit_byte b e = let parts = and_parts _ _ e in let low = leb-true 48 b parts.0 in let high = leb-true b 57 parts.1 in (low, omega arith)

-- the rest of a text, by its first byte
first_byte : (t : Bool) (b : ℕ) (n m : ℕ) → is_ascii_digit b ≡ t → suc n ≤ cond (not (not t)) (1 + m) 0 → (48 ≤ b) × (b < 58) × (n ≤ m)
first_byte true b n m e h = let d = digit_byte b e in (d.0, d.1, omega arith)
first_byte false b n m e h = absurd (let none : suc n ≤ 0 = h in omega arith)

digits_up_to : (text : List ℕ) → length text ≤ position_or_len (λ b. not (is_ascii_digit b)) text → AreAsciiDigits text
digits_up_to [] h = tt
digits_up_to (b ∷ text) h = let f = first_byte (is_ascii_digit b) b (length text) (position_or_len (λ b. not (is_ascii_digit b)) text) refl h in
    ((f.0, f.1), digits_up_to text f.2)

none_below : (n m : ℕ) → cond (nat_lt n m) (Some n) None ≡ None → m ≤ n
none_below n m e = elim (cases_lt n m) [
  | inl less ↦ cc (rw (lt-ltb n m less) at e)
  | inr more ↦ more
]

-- a text in which no byte is another is digits
pub digits_if_none : (text : List ℕ) → first_other text ≡ None → AreAsciiDigits text
digits_if_none text e = digits_up_to text (none_below (position_or_len (λ b. not (is_ascii_digit b)) text) (length text) e)

pub digits_of-ascii_of : (ds : List ℕ) → digits_of (ascii_of ds) ≡ ds
digits_of-ascii_of [] = refl
digits_of-ascii_of (d ∷ ds) = let here : d + 48 - 48 ≡ d = omega arith in ap₂ (λ c cs. c ∷ cs) here (digits_of-ascii_of ds)

pub digits_of-valid : (text : List ℕ) → AreAsciiDigits text → AreDigits (digits_of text)
digits_of-valid [] h = tt
digits_of-valid (b ∷ text) h = (let low = h.0.0 in let high = h.0.1 in let small : b - 48 < 10 = omega arith in small, digits_of-valid text h.1)

digits_of-zeros : (n : ℕ) → digits_of (replicate n 48) ≡ replicate n 0
digits_of-zeros zero = refl
digits_of-zeros (suc n) = ap (λ ds. 0 ∷ ds) (digits_of-zeros n)

-- a byte of such a text is a digit
pub digit_at : (text : List ℕ) (i : ℕ) → AreAsciiDigits text → i < length text → (48 ≤ get_or text i 0) × (get_or text i 0 < 58)
digit_at [] i h lt = absurd (omega arith)
digit_at (b ∷ text) zero h lt = h.0
digit_at (b ∷ text) (suc i) h lt = digit_at text i h.1 (omega arith)

pub digits-append : (xs ys : List ℕ) → AreAsciiDigits xs → AreAsciiDigits ys → AreAsciiDigits (xs ++ ys)
digits-append [] ys h k = k
digits-append (x ∷ xs) ys h k = (h.0, digits-append xs ys h.1 k)

pub digits-zeros : (n : ℕ) → AreAsciiDigits (replicate n 48)
digits-zeros zero = tt
digits-zeros (suc n) = ((lit≤ tt, lit< tt), digits-zeros n)

-- a text but its last byte, and that byte
pub last_digit : (text : List ℕ) (n : ℕ) → length text ≡ suc n → digits_of text ≡ digits_of (take n text) ++ (get_or text n 0 - 48) ∷ []
last_digit text n e =
    let last : drop n text ≡ get_or text n 0 ∷ [] = drop_more text n 0 (omega arith) ∙ ap (λ xs. get_or text n 0 ∷ xs) (drop_all (n + 1) text (omega arith)) in
    ap digits_of (sym (take-append-drop n text) ∙ ap (λ xs. take n text ++ xs) last) ∙ map-append _ (take n text) (get_or text n 0 ∷ [])

-- zeros written before a text are zeros before its digits
pub digits_of-padded : (text : List ℕ) (n : ℕ) → n ≡ 14 - length text → digits_of (replicate n 48 ++ text) ≡ padded (digits_of text)
digits_of-padded text n e =
    map-append _ (replicate n 48) text
    ∙ ap (λ zs. zs ++ digits_of text) (digits_of-zeros n ∙ ap (λ k. replicate k 0) (e ∙ ap (λ k. 14 - k) (sym (length-map text _))))

-- in a text of digits no byte is another
digit_passes : (b : ℕ) → 48 ≤ b → b < 58 → is_ascii_digit b ≡ true
digit_passes b low high = let top : b ≤ 57 = omega arith in rw (le-leb 48 b low, le-leb b 57 top) refl

all_digits : (text : List ℕ) → AreAsciiDigits text → position_or_len (λ b. not (is_ascii_digit b)) text ≡ length text
all_digits [] h = refl
all_digits (b ∷ text) h = rw (digit_passes b h.0.0 h.0.1) (ap (λ n. 1 + n) (all_digits text h.1) ∙ (omega arith))

past : (n m : ℕ) → n ≡ m → cond (nat_lt n m) (Some n) None ≡ None
past n m e = rw e (rw (le-ltb m m (omega arith)) refl)

pub none_if_digits : (text : List ℕ) → AreAsciiDigits text → first_other text ≡ None
none_if_digits text h = past (position_or_len (λ b. not (is_ascii_digit b)) text) (length text) (all_digits text h)
