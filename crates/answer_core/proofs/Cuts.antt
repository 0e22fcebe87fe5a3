-- Texts that are cut at a byte.
use Rattle.std.proofs.Common.{◌≡◌, ◌∙◌, ◌+◌, ◌≤◌, ◌∷◌, ◌++◌, [], Bool, List, ap, append_assoc, arith, drop, false, inl, inr, length, refl, sym, take, true, ℕ}
use Rattle.std.specs.List.{AllByRecursion, after_first, before_first, onto_first, position_or_len, slice_split}
use Rattle.std.proofs.Math.Seq.{take-append_seam}
use Rattle.std.proofs.lemmas.Bool.{cases_Bool}
use Rattle.std.proofs.lemmas.List.{drop-drop, drop_all, drop_at, take-append-le, take_all}
use Rattle.std.proofs.lemmas.List.Elements.{All-from_recursion}
use Rattle.std.proofs.lemmas.List.Splits.{slice_split-cons_no, slice_split-cons_yes, slice_split_at, slice_split_none}

module _ (p : ℕ → Bool) where
  -- no byte is so
  abbrev pub Lacks : List ℕ → Type 0
  Lacks xs = AllByRecursion (λ x. p x ≡ false) xs

  pub lacks_both : (xs ys : List ℕ) → Lacks xs → Lacks ys → Lacks (xs ++ ys)
  lacks_both [] ys a b = b
  lacks_both (x ∷ xs) ys a b = (a.0, lacks_both xs ys a.1 b)

  pub lacks_front : (xs ys : List ℕ) → Lacks (xs ++ ys) → Lacks xs
  lacks_front [] ys a = tt
  lacks_front (x ∷ xs) ys a = (a.0, lacks_front xs ys a.1)

  -- ---- a byte that is so, behind some that are not

  pub split_at : (xs : List ℕ) (y : ℕ) (ys : List ℕ) → Lacks xs → p y ≡ true → slice_split p (xs ++ y ∷ ys) ≡ xs ∷ slice_split p ys
  split_at xs y ys none is = slice_split_at p xs y ys (All-from_recursion (λ x. p x ≡ false) xs none) is

  pub split_none : (xs : List ℕ) → Lacks xs → slice_split p xs ≡ xs ∷ []
  split_none xs none = slice_split_none p xs (All-from_recursion (λ x. p x ≡ false) xs none)

  position_at : (xs : List ℕ) (y : ℕ) (ys : List ℕ) → Lacks xs → p y ≡ true → position_or_len p (xs ++ y ∷ ys) ≡ length xs
  position_at [] y ys none is = rw is refl
  position_at (x ∷ xs) y ys none is = let more = position_at xs y ys none.1 is in rw none.0 (omega (arith, more))

  position_none : (xs : List ℕ) → Lacks xs → position_or_len p xs ≡ length xs
  position_none [] none = refl
  position_none (x ∷ xs) none = let more = position_none xs none.1 in rw none.0 (omega (arith, more))

  pub before_at : (xs : List ℕ) (y : ℕ) (ys : List ℕ) → Lacks xs → p y ≡ true → before_first p (xs ++ y ∷ ys) ≡ xs
  before_at xs y ys none is = ap (λ n. take n (xs ++ y ∷ ys)) (position_at xs y ys none is) ∙ take-append_seam xs (y ∷ ys)

  pub behind_at : (xs : List ℕ) (y : ℕ) (ys : List ℕ) → Lacks xs → p y ≡ true → after_first p (xs ++ y ∷ ys) ≡ ys
  behind_at xs y ys none is =
      ap (λ n. drop (n + 1) (xs ++ y ∷ ys)) (position_at xs y ys none is)
      ∙ sym (drop-drop 1 (length xs) (xs ++ y ∷ ys)) ∙ ap (drop 1) (drop_at xs (y ∷ ys) (length xs) refl)

  pub before_none : (xs : List ℕ) → Lacks xs → before_first p xs ≡ xs
  before_none xs none = ap (λ n. take n xs) (position_none xs none) ∙ take_all (length xs) xs (omega arith)

  pub behind_none : (xs : List ℕ) → Lacks xs → after_first p xs ≡ []
  behind_none xs none = drop_all (position_or_len p xs + 1) xs (omega (arith, position_none xs none))

  -- ---- a byte that is so, behind any

  position_same : (xs : List ℕ) (y : ℕ) (ys : List ℕ) → p y ≡ true → position_or_len p (xs ++ y ∷ ys) ≡ position_or_len p xs
  position_same [] y ys is = rw is refl
  position_same (x ∷ xs) y ys is = elim (cases_Bool (p x)) [
    | inl here ↦ rw here refl
    | inr other ↦ rw other (ap (λ n. 1 + n) (position_same xs y ys is))
  ]

  position_within : (xs : List ℕ) → position_or_len p xs ≤ length xs
  position_within [] = omega arith
  position_within (x ∷ xs) = elim (cases_Bool (p x)) [
    | inl here ↦ rw here (omega arith)
    | inr other ↦ let more = position_within xs in rw other (omega (arith, more))
  ]

  pub before_same : (xs : List ℕ) (y : ℕ) (ys : List ℕ) → p y ≡ true → before_first p (xs ++ y ∷ ys) ≡ before_first p xs
  before_same xs y ys is =
      ap (λ n. take n (xs ++ y ∷ ys)) (position_same xs y ys is) ∙ take-append-le (position_or_len p xs) xs (y ∷ ys) (position_within xs)

  pub split_both : (xs : List ℕ) (y : ℕ) (ys : List ℕ) → p y ≡ true → slice_split p (xs ++ y ∷ ys) ≡ slice_split p xs ++ slice_split p ys
  split_both [] y ys is = slice_split-cons_yes p y ys is
  split_both (x ∷ xs) y ys is = elim (cases_Bool (p x)) [
    | inl here ↦
        slice_split-cons_yes p x (xs ++ y ∷ ys) here ∙ ap (λ l. [] ∷ l) (split_both xs y ys is)
        ∙ ap (λ (l : List (List ℕ)). l ++ slice_split p ys) (sym (slice_split-cons_yes p x xs here))
    | inr other ↦
        slice_split-cons_no p x (xs ++ y ∷ ys) other ∙ ap (onto_first x) (split_both xs y ys is)
        ∙ onto_both x (slice_split p xs) (slice_split p ys) (some_part xs)
        ∙ ap (λ (l : List (List ℕ)). l ++ slice_split p ys) (sym (slice_split-cons_no p x xs other))
  ] where
    some_part : (xs : List ℕ) → (first : List ℕ) × (more : List (List ℕ)) × (slice_split p xs ≡ first ∷ more)
    some_part [] = ([], [], refl)
    some_part (x ∷ xs) = elim (cases_Bool (p x)) [
      | inl here ↦ ([], slice_split p xs, slice_split-cons_yes p x xs here)
      | inr other ↦ let s = some_part xs in (x ∷ s.0, s.1, slice_split-cons_no p x xs other ∙ ap (onto_first x) s.2)
    ]

    onto_both : (x : ℕ) (l m : List (List ℕ)) → (first : List ℕ) × (more : List (List ℕ)) × (l ≡ first ∷ more) → onto_first x (l ++ m) ≡ onto_first x l ++ m
    onto_both x l m (first, more, is) = rw is refl

  -- what stands behind the first byte that is so ends as the text does, in the same parts
  pub record Behind (text ys : List ℕ) : Type 0 where
    pub front : List ℕ
    pub stems : List (List ℕ)
    pub text_is : after_first p text ≡ front ++ ys
    pub parts_are : slice_split p (front ++ ys) ≡ stems ++ slice_split p ys

  pub behind : (xs : List ℕ) (y : ℕ) (ys : List ℕ) → p y ≡ true → Behind (xs ++ y ∷ ys) ys
  behind [] y ys is = record { front = []; stems = []; text_is = behind_at [] y ys tt is; parts_are = refl }
  behind (x ∷ xs) y ys is = elim (cases_Bool (p x)) [
    | inl here ↦ record {
      front = xs ++ y ∷ [];
      stems = slice_split p xs;
      text_is = behind_at [] x (xs ++ y ∷ ys) tt here ∙ sym (append_assoc xs (y ∷ []) ys);
      parts_are = ap (slice_split p) (append_assoc xs (y ∷ []) ys) ∙ split_both xs y ys is;
    }
    | inr other ↦
        let more = behind xs y ys is in
        record {
          front = more.front;
          stems = more.stems;
          text_is = rw other (drop_more_one (position_or_len p (xs ++ y ∷ ys)) x (xs ++ y ∷ ys)) ∙ more.text_is;
          parts_are = more.parts_are;
        }
  ] where
    drop_more_one : (n x : ℕ) (l : List ℕ) → drop (1 + n + 1) (x ∷ l) ≡ drop (n + 1) l
    drop_more_one n x l = let e : 1 + n + 1 ≡ 1 + (n + 1) = omega arith in ap (λ k. drop k (x ∷ l)) e ∙ sym (drop-drop (n + 1) 1 (x ∷ l))
