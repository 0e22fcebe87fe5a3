-- AIs between signs.
use Rattle.std.proofs.Common.{◌≡◌, ◌∙◌, ◌+◌, ◌<◌, ℕ, suc, false, List, [], ◌∷◌, ◌++◌, ap, append_assoc, drop, get_or, length, refl, sym, take}
use Rattle.std.proofs.lemmas.List.{drop_more, take_more}
use Rattle.element_core.specs.Elements.{Entry}
use Rattle.answer_core.specs.Printed.{before_mark, begins_marked, start_of}
use Rattle.answer_core.specs.declared.printed.Marks.{Marks}

pub unmarked : (marks : Marks) (b : ℕ) (text : List ℕ) → begins_marked marks (b ∷ text) ≡ false → before_mark marks (b ∷ text) ≡ b ∷ before_mark marks text
unmarked marks b text none = rw none refl

-- a byte more stands before the first
pub before_step : (marks : Marks) (text : List ℕ) (i : ℕ) → i < length text → begins_marked marks (drop i text) ≡ false
    → take (i + 1) text ++ before_mark marks (drop (i + 1) text) ≡ take i text ++ before_mark marks (drop i text)
before_step marks text i low none =
    let b = get_or text i 0 in
    let more : drop i text ≡ b ∷ drop (i + 1) text = drop_more text i 0 low in
    let other : begins_marked marks (b ∷ drop (i + 1) text) ≡ false = ap (begins_marked marks) (sym more) ∙ none in
    ap (λ t. t ++ before_mark marks (drop (i + 1) text)) (take_more text i 0 low)
    ∙ append_assoc (take i text) (b ∷ []) (before_mark marks (drop (i + 1) text))
    ∙ ap (λ t. take i text ++ t) (sym (ap (before_mark marks) more ∙ unmarked marks b (drop (i + 1) text) other))

pub start_step : (e : Entry) (es : List Entry) (n m : ℕ) → n ≡ suc m → start_of (e ∷ es) n ≡ length e.ai + (length e.value + 1) + start_of es m
start_step e es n m is = ap (start_of (e ∷ es)) is

pub start_none : (es : List Entry) → start_of es 0 ≡ 0
start_none [] = refl
start_none (e ∷ es) = refl
