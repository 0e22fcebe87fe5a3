-- Lines one after another, and what is said of each.
use Rattle.std.proofs.Common.{◌≡◌, ◌==◌, ◌∙◌, ◌+◌, ◌<◌, ◌∷◌, [], List, ap, arith, drop, inl, inr, length, refl, set, suc, sym, take, zero, ℕ}
use Rattle.std.specs.List.{AllZip, onto_first, slice_split}
use Rattle.std.specs.Str.Lines.{lines, lines_of_parts, strip_carriage_return}
use Rattle.std.proofs.lemmas.Bool.{cases_Bool}
use Rattle.std.proofs.lemmas.List.{drop-drop, drop-set-lt}
use Rattle.std.proofs.lemmas.List.Splits.{slice_split-cons_no, slice_split-cons_yes}

-- ---- the first line

parts : List ℕ → List (List ℕ)
parts text = slice_split (λ b. b == 10) text

-- a text has a first part
some_part : (text : List ℕ) → (first : List ℕ) × (more : List (List ℕ)) × (parts text ≡ first ∷ more)
unfolding parts
some_part [] = ([], [], refl)
some_part (b ∷ text) = elim (cases_Bool (b == 10)) [
  | inl ends ↦ ([], parts text, slice_split-cons_yes (λ b. b == 10) b text ends)
  | inr other ↦
      let s = some_part text in
      (b ∷ s.0, s.1, slice_split-cons_no (λ b. b == 10) b text other ∙ ap (onto_first b) s.2)
]

-- a part before others is a line
pub one_line : (text line rest : List ℕ) → slice_split (λ b. b == 10) text ≡ line ∷ slice_split (λ b. b == 10) rest
    → lines text ≡ strip_carriage_return line ∷ lines rest
unfolding parts
one_line text line rest is =
    let s = some_part rest in
    ap lines_of_parts (is ∙ ap (λ ps. line ∷ ps) s.2) ∙ ap (λ ps. strip_carriage_return line ∷ lines_of_parts ps) (sym s.2)

-- ---- one answer more

module _ {A B : Type 0} (R : A → B → Type 0) where
  -- what holds of the first of two lists holds of one more, if the next one is put where it belongs
  pub zip_more : (xs : List A) (ys : List B) (k : ℕ) (x : A) (more : List A) (y : B) → AllZip R (take k xs) (take k ys) → x ∷ more ≡ drop k xs
      → k < length ys → R x y → AllZip R (take (k + 1) xs) (take (k + 1) (set ys k y))
  zip_more [] ys zero x more y before next room is = absurd (omega (arith, ap length next))
  zip_more [] ys (suc k) x more y before next room is = absurd (omega (arith, ap length next))
  zip_more (a ∷ xs) [] k x more y before next room is = absurd (omega (arith, room))
  zip_more (a ∷ xs) (b ∷ ys) zero x more y before next room is = (let same : x ≡ a = cc next in rw (sym same) is, tt)
  zip_more (a ∷ xs) (b ∷ ys) (suc k) x more y before next room is =
      let e : suc k + 1 ≡ suc (k + 1) = omega arith in
      rw e (before.0, zip_more xs ys k x more y before.1 next (omega (arith, room)) is)

module _ {A : Type 0} where
  -- what is left behind the first that is left
  pub left_more : (xs : List A) (k : ℕ) (x : A) (more : List A) → x ∷ more ≡ drop k xs → more ≡ drop (k + 1) xs
  left_more xs k x more is = ap (drop 1) is ∙ drop-drop 1 k xs

  -- what stands behind an element that was set is as it was
  pub same_behind : (xs olds : List A) (k : ℕ) (x : A) → drop k xs ≡ drop k olds → drop (k + 1) (set xs k x) ≡ drop (k + 1) olds
  same_behind xs olds k x is = drop-set-lt (k + 1) xs k x (omega arith) ∙ sym (drop-drop 1 k xs) ∙ ap (drop 1) is ∙ drop-drop 1 k olds
