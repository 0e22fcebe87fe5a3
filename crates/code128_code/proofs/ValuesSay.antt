-- What values say, as a whole and by whole values.
use Rattle.std.proofs.Common.{◌≡◌, ℕ, ◌+◌, ◌*◌, ◌<◌, ◌≤◌, Bool, true, false, nat_lt, List, [], ◌∷◌, ◌++◌, length, Result, Ok, Err, refl, sym, ap, ◌∙◌, arith, inl, inr}
use Rattle.std.proofs.lemmas.Bool.{cases_Bool, lt-ltb, ltb-true}
use Rattle.std.proofs.lemmas.List.{append_assoc}
use Rattle.code128_code.specs.declared.code_set.CodeSet.{CodeSet}
use Rattle.code128_code.specs.declared.fault.Code128Fault.{Code128Fault}
use Rattle.code128_code.specs.declared.fault.Code128Fault.TheVariants as faults
use Rattle.code128_code.specs.declared.meanings.Meaning.{Meaning}
use Rattle.code128_code.specs.declared.meanings.Meaning.TheVariants.{Byte, Digits, Latch, Shift, Function}
use Rattle.code128_code.specs.Laws.{SaidIsShort}
use Rattle.code128_code.specs.inner.Steps.{text_by}
use Rattle.code128_code.specs.Texts.{before, meaning, says, shifted_byte, two_digits}

-- bytes before bytes before a text
pub before-before : (xs ys : List ℕ) (r : Result (List ℕ) Code128Fault) → before (xs ++ ys) r ≡ before xs (before ys r)
before-before xs ys (Ok text) = ap Ok (append_assoc xs ys text)
before-before xs ys (Err f) = refl

pub before-ok : (bytes : List ℕ) (r : Result (List ℕ) Code128Fault) (text : List ℕ) → before bytes r ≡ Ok text → (rest : List ℕ) × (r ≡ Ok rest)
    × (text ≡ bytes ++ rest)
before-ok bytes (Ok rest) text e = (rest, refl, (let h : bytes ++ rest ≡ text = cc in sym h))
before-ok bytes (Err f) text e = cc

-- bytes that were pushed onto a text
pub pushed : (text bytes new : List ℕ) (r : Result (List ℕ) Code128Fault) → new ≡ text ++ bytes → before new r ≡ before text (before bytes r)
pushed text bytes new r e = ap (λ t. before t r) e ∙ before-before text bytes r

-- a value after a SHIFT
pub shifted_step : (set : CodeSet) (shift : Bool) (v : ℕ) (rest : List ℕ) → shift ≡ true → v < 96 → text_by set shift (v ∷ rest)
    ≡ before (shifted_byte set v ∷ []) (text_by set false rest)
shifted_step set true v rest e h = rw (lt-ltb v 96 h) refl
shifted_step set false v rest e h = cc

-- a value before those after it
pub step_is : (set : CodeSet) (v : ℕ) (rest : List ℕ) → text_by set false (v ∷ rest)
    ≡ says (meaning set v) set (λ next. text_by next false rest) (text_by set true rest)
step_is set v [] = refl
step_is set v (w ∷ values) = refl

-- a value that no SHIFT stands before
pub plain_step : (set : CodeSet) (shift : Bool) (v : ℕ) (rest : List ℕ) (m : Meaning) → shift ≡ false → meaning set v ≡ m → text_by set shift (v ∷ rest)
    ≡ says m set (λ next. text_by next false rest) (text_by set true rest)
plain_step set false v rest m e h = step_is set v rest ∙ ap (λ n. says n set (λ next. text_by next false rest) (text_by set true rest)) h
plain_step set true v rest m e h = cc

-- ---- at most two bytes for each value

-- what holds of a value by its meaning, where it holds of what follows
short_says : (m : Meaning) (set : CodeSet) (values text : List ℕ)
    → ((s : CodeSet) (shift : Bool) (t : List ℕ) → text_by s shift values ≡ Ok t → length t ≤ 2 * length values)
    → says m set (λ next. text_by next false values) (text_by set true values) ≡ Ok text → length text ≤ 2 * (1 + length values)
short_says (Byte b) set values text ih e =
    let p = before-ok (b ∷ []) (text_by set false values) text e in
    let less = ih set false p.0 p.1 in let long = ap length p.2 in omega arith
short_says (Digits n) set values text ih e =
    let p = before-ok (two_digits n) (text_by set false values) text e in
    let less = ih set false p.0 p.1 in let long = ap length p.2 in omega arith
short_says (Latch other) set values text ih e = let less = ih other false text e in omega arith
short_says Shift set values text ih e = let less = ih set true text e in omega arith
short_says Function set values text ih e = cc

short : (values : List ℕ) (set : CodeSet) (shift : Bool) (text : List ℕ) → text_by set shift values ≡ Ok text → length text ≤ 2 * length values
short [] set false text e = let h : [] ≡ text = cc in let long = ap length h in omega arith
short [] set true text e = cc
short (v ∷ values) set false text e = let less = short_says (meaning set v) set values text (short values) (sym (step_is set v values) ∙ e) in omega arith
short (v ∷ values) set true text e =
    elim (cases_Bool (nat_lt v 96)) [
      | inl low ↦
          let p = before-ok (shifted_byte set v ∷ []) (text_by set false values) text (sym (shifted_step set true v values refl (ltb-true v 96 low)) ∙ e) in
          let less = short values set false p.0 p.1 in let long = ap length p.2 in omega arith
      | inr high ↦
          let none : text_by set true (v ∷ values) ≡ Err faults.CodeSet = rw high refl in cc
    ]

pub said_is_short : SaidIsShort
said_is_short = λ set values text e. short values set false text e
