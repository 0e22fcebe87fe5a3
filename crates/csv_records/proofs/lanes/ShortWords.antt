-- What the kernel puts, as lists: it looks at each byte with the three before it, and at each space puts the number of the one or two digits before it.
use Rattle.std.proofs.Common.{◌&&◌, ◌||◌, ◌+◌, ◌-◌, ◌*◌, ◌++◌, ◌<◌, ◌==◌, ◌≡◌, ◌≤◌, ◌∙◌, ◌∷◌, ◌⊎◌, Bool, List, [], ap, arith, cond, false, inl, inr, length, map, not, refl, subst, sym, true, ℕ}
use Rattle.std.specs.Char.{is_ascii_digit}
use Rattle.std.specs.List.{list_all}
use Rattle.std.specs.Str.Parse.{digits_value}
use Rattle.std.proofs.lemmas.Bool.{and_parts, cases_Bool, cond-true, cond-false, eqb-true, false≢true}
use Rattle.std.proofs.lemmas.List.Splits.{slice_split_at, slice_split_none}
use Rattle.csv_records.specs.lanes.Widths.{are_widths, widths_in, words_of}
use Rattle.csv_records.specs.inner.LaneValues.{are_fine, is_fine, puts, value_of}
use Rattle.csv_records.proofs.lanes.FirstWidth.{digits_are_number, no_space, no_spaces, one_more_value}

-- the text shows these widths, each of at most five digits
abbrev pub Shows : List ℕ → List ℕ → Type 0
Shows text widths = (are_widths (words_of text) ≡ true) × (widths_in text ≡ widths)

-- a fine byte is a digit, or a space behind a digit and not behind three
pub fine_byte : (c b a x : ℕ) → is_fine c b a x ≡ true
    → (is_ascii_digit x ≡ true) ⊎ ((x == 32) ≡ true) × (is_ascii_digit a ≡ true) × ((is_ascii_digit b && is_ascii_digit c) ≡ false)
fine_byte c b a x fine = elim (cases_Bool (is_ascii_digit x)) [
  | inl digit ↦ inl digit
  | inr other ↦
      let rest : ((x == 32) && (is_ascii_digit a && not (is_ascii_digit b && is_ascii_digit c))) ≡ true =
      ap (λ d. d || ((x == 32) && (is_ascii_digit a && not (is_ascii_digit b && is_ascii_digit c)))) (sym other) ∙ fine in
      let first = and_parts (x == 32) _ rest in
      let second = and_parts (is_ascii_digit a) _ first.1 in
      inr (first.0, second.0, not_true (is_ascii_digit b && is_ascii_digit c) second.1)
]
  where
    not_true : (p : Bool) → not p ≡ true → p ≡ false
    not_true true e = absurd (false≢true e)
    not_true false e = refl

both_ne : (p : Bool) → p ≡ false → p ≡ true → ⊥
both_ne p isnt does = false≢true (sym isnt ∙ does)

-- one word, and a word before others
module _ (word : List ℕ) (n : ℕ) (all : list_all is_ascii_digit word ≡ true) (some : 0 < length word) (few : length word ≤ 5) (is : digits_value 10 word ≡ n) where
  pub one_word : Shows word (n ∷ [])
  one_word =
      let words : words_of word ≡ word ∷ [] = slice_split_none (λ b. b == 32) word (no_spaces word all) in
      (rw (words, digits_are_number word all some few) refl, ap (map (digits_value 10)) words ∙ ap (λ m. m ∷ []) is)

  pub word_then : (rest widths : List ℕ) → Shows rest widths → Shows (word ++ 32 ∷ rest) (n ∷ widths)
  word_then rest widths shown =
      let words : words_of (word ++ 32 ∷ rest) ≡ word ∷ words_of rest = slice_split_at (λ b. b == 32) word 32 rest (no_spaces word all) refl in (
        rw (words, digits_are_number word all some few, shown.0) refl,
        ap (map (digits_value 10)) words ∙ ap (λ m. m ∷ widths_in rest) is ∙ ap (λ ms. n ∷ ms) shown.1,
      )

-- the number of one digit and of two
one_value : (b d : ℕ) → is_ascii_digit b ≡ false → is_ascii_digit d ≡ true → digits_value 10 (d ∷ []) ≡ value_of b d
one_value b d none digit =
    let shown : digits_value 10 (d ∷ []) ≡ 0 + (d - 48) = one_more_value (d ∷ []) 0 (omega arith) digit in
    let no_tens : cond (is_ascii_digit b) (b - 48) 0 ≡ 0 = cond-false (is_ascii_digit b) (b - 48) 0 none in
    omega (arith, shown, no_tens)

two_value : (d e : ℕ) → is_ascii_digit d ≡ true → is_ascii_digit e ≡ true → digits_value 10 (d ∷ e ∷ []) ≡ value_of d e
two_value d e tens unit =
    let first : digits_value 10 (d ∷ []) ≡ 0 + (d - 48) = one_more_value (d ∷ e ∷ []) 0 (omega arith) tens in
    let both : digits_value 10 (d ∷ e ∷ []) ≡ digits_value 10 (d ∷ []) * 10 + (e - 48) = one_more_value (d ∷ e ∷ []) 1 (omega arith) unit in
    let has_tens : cond (is_ascii_digit d) (d - 48) 0 ≡ d - 48 = cond-true (is_ascii_digit d) (d - 48) 0 tens in
    omega (arith, first, both, has_tens)

-- a byte that is no space puts nothing, a space puts the width before it
pub passed : (b a x : ℕ) (xs : List ℕ) → is_ascii_digit x ≡ true → puts b a (x ∷ xs) ≡ puts a x xs
passed b a x xs digit = cond-false (x == 32) (value_of b a ∷ puts a x xs) (puts a x xs) (no_space x digit)

pub put : (b a x : ℕ) (xs : List ℕ) → (x == 32) ≡ true → puts b a (x ∷ xs) ≡ value_of b a ∷ puts a x xs
put b a x xs space = cond-true (x == 32) (value_of b a ∷ puts a x xs) (puts a x xs) space

-- behind three digits some byte is not fine
long_word : (t : List ℕ) (d e f : ℕ) → is_ascii_digit d ≡ true → is_ascii_digit e ≡ true → is_ascii_digit f ≡ true → are_fine d e f (t ++ 32 ∷ []) ≡ true → ⊥
long_word [] d e f dd de df fine =
    let here = (and_parts (is_fine d e f 32) true fine).0 in
    elim (fine_byte d e f 32 here) [
      | inl digit ↦ both_ne (is_ascii_digit 32) refl digit
      | inr space ↦ both_ne (is_ascii_digit e && is_ascii_digit d) space.2 (rw (de, dd) refl)
    ]
long_word (x ∷ t) d e f dd de df fine =
    let parts = and_parts (is_fine d e f x) (are_fine e f x (t ++ 32 ∷ [])) fine in
    elim (fine_byte d e f x parts.0) [
      | inl digit ↦ long_word t e f x de df digit parts.1
      | inr space ↦ both_ne (is_ascii_digit e && is_ascii_digit d) space.2 (rw (de, dd) refl)
    ]

-- what is to be shown of a text behind a byte that is no digit, behind one digit, and behind two
abbrev BehindNone : List ℕ → Type 0
BehindNone t = (c b a : ℕ) → is_ascii_digit a ≡ false → are_fine c b a (t ++ 32 ∷ []) ≡ true → Shows t (puts b a (t ++ 32 ∷ []))

abbrev BehindOne : List ℕ → Type 0
BehindOne t = (c b d : ℕ) → is_ascii_digit b ≡ false → is_ascii_digit d ≡ true → are_fine c b d (t ++ 32 ∷ []) ≡ true
    → Shows (d ∷ t) (puts b d (t ++ 32 ∷ []))

abbrev BehindTwo : List ℕ → Type 0
BehindTwo t = (c d e : ℕ) → is_ascii_digit c ≡ false → is_ascii_digit d ≡ true → is_ascii_digit e ≡ true → are_fine c d e (t ++ 32 ∷ []) ≡ true
    → Shows (d ∷ e ∷ t) (puts d e (t ++ 32 ∷ []))

none_end : BehindNone []
none_end c b a none fine =
    let here = (and_parts (is_fine c b a 32) true fine).0 in
    elim (fine_byte c b a 32 here) [
      | inl digit ↦ absurd (both_ne (is_ascii_digit 32) refl digit)
      | inr space ↦ absurd (both_ne (is_ascii_digit a) none space.1)
    ]

none_step : (x : ℕ) (t : List ℕ) → BehindOne t → BehindNone (x ∷ t)
none_step x t one c b a none fine =
    let parts = and_parts (is_fine c b a x) (are_fine b a x (t ++ 32 ∷ [])) fine in
    elim (fine_byte c b a x parts.0) [
      | inl digit ↦ subst (Shows (x ∷ t)) (sym (passed b a x (t ++ 32 ∷ []) digit)) (one b a x none digit parts.1)
      | inr space ↦ absurd (both_ne (is_ascii_digit a) none space.1)
    ]

one_end : BehindOne []
one_end c b d none digit fine = one_word (d ∷ []) (value_of b d) (rw digit refl) (omega arith) (omega arith) (one_value b d none digit)

one_step : (x : ℕ) (t : List ℕ) → BehindNone t → BehindTwo t → BehindOne (x ∷ t)
one_step x t behind two c b d none digit fine =
    let parts = and_parts (is_fine c b d x) (are_fine b d x (t ++ 32 ∷ [])) fine in
    elim (fine_byte c b d x parts.0) [
      | inl more ↦ subst (Shows (d ∷ x ∷ t)) (sym (passed b d x (t ++ 32 ∷ []) more)) (two b d x none digit more parts.1)
      | inr space ↦
          let is : x ≡ 32 = eqb-true x 32 space.0 in
          let rest : Shows t (puts d x (t ++ 32 ∷ [])) = behind b d x (ap is_ascii_digit is) parts.1 in
          let whole = word_then (d ∷ []) (value_of b d) (rw digit refl) (omega arith) (omega arith) (one_value b d none digit) t (puts d x (t ++ 32 ∷ [])) rest in
          subst (Shows (d ∷ x ∷ t)) (sym (put b d x (t ++ 32 ∷ []) space.0))
          (subst (λ y. Shows (d ∷ y ∷ t) (value_of b d ∷ puts d x (t ++ 32 ∷ []))) (sym is) whole)
    ]

two_end : BehindTwo []
two_end c d e none tens unit fine = one_word (d ∷ e ∷ []) (value_of d e) (rw (tens, unit) refl) (omega arith) (omega arith) (two_value d e tens unit)

two_step : (x : ℕ) (t : List ℕ) → BehindNone t → BehindTwo (x ∷ t)
two_step x t behind c d e none tens unit fine =
    let parts = and_parts (is_fine c d e x) (are_fine d e x (t ++ 32 ∷ [])) fine in
    elim (fine_byte c d e x parts.0) [
      | inl more ↦ absurd (long_word t d e x tens unit more parts.1)
      | inr space ↦
          let is : x ≡ 32 = eqb-true x 32 space.0 in
          let rest : Shows t (puts e x (t ++ 32 ∷ [])) = behind d e x (ap is_ascii_digit is) parts.1 in
          let whole = word_then (d ∷ e ∷ []) (value_of d e) (rw (tens, unit) refl) (omega arith) (omega arith) (two_value d e tens unit) t (puts e x (t ++ 32 ∷ [])) rest in
          subst (Shows (d ∷ e ∷ x ∷ t)) (sym (put d e x (t ++ 32 ∷ []) space.0))
          (subst (λ y. Shows (d ∷ e ∷ y ∷ t) (value_of d e ∷ puts e x (t ++ 32 ∷ []))) (sym is) whole)
    ]

behind : (t : List ℕ) → BehindNone t × BehindOne t × BehindTwo t
behind [] = (none_end, one_end, two_end)
behind (x ∷ t) = let b = behind t in (none_step x t b.1, one_step x t b.0 b.2, two_step x t b.0)

-- THE MEANING: if each byte of a field with a space behind it is fine, the field is widths, and these are what the spaces put
pub puts_widths : (field : List ℕ) → are_fine 32 32 32 (field ++ 32 ∷ []) ≡ true
    → (are_widths (words_of field) ≡ true) × (widths_in field ≡ puts 32 32 (field ++ 32 ∷ []))
puts_widths field fine = (behind field).0 32 32 32 refl fine
