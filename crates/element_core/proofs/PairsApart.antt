-- The pairs of a list say which list it is.
use Rattle.std.proofs.Common.{◌≡◌, ℕ, Bool, true, eqb, not, List, [], ◌∷◌, ◌++◌, length, refl, sym, ap, subst, ◌∙◌, append_assoc, arith, inl, inr, length-append}
use Rattle.std.specs.List.{list_all, AllByRecursion}
use Rattle.std.proofs.lemmas.Bool.{and_parts, eq-eqb, ne_eqb, cases_eq}
use Rattle.std.proofs.lemmas.List.{append-nil}
use Rattle.element_core.specs.Terms.{Terms, rows_by}
use Rattle.element_core.specs.Table.{Row, every_row}
use Rattle.element_core.specs.inner.Table.{is_of_digits}
use Rattle.element_core.specs.Elements.{Entry, IsElement, is_digit, is_value_byte, pair_text, pairs_text, PairsDiffer}
use Rattle.element_core.specs.inner.Elements.{AreElements}
use Rattle.element_core.proofs.TableLaws.{each_is_of_digits}
use Rattle.element_core.proofs.Look.{all_at, in_table}
use Rattle.element_core.proofs.PieceLemmas.{from_left}
use Rattle.element_core.proofs.Canonical.{elements_are}
use Rattle.element_core.proofs.Unique.{same_element}
use Rattle.element_core.proofs.Letters.{all_weaker, value_letters}
use Rattle.element_core.proofs.PairLines.{more_pairs, pairs_text-cons}

-- no byte is this one
abbrev is_without : ℕ → List ℕ → Bool
is_without c v = list_all (λ b. not (eqb b c)) v

not_itself : (c : ℕ) (v : List ℕ) → is_without c (c ∷ v) ≡ true → ⊥
not_itself c v h = let p = rw (eq-eqb c c refl) at (and_parts (not (eqb c c)) (is_without c v) h).0 in absurd cc

-- what stands before the first c, and what stands after it
split_once : (c : ℕ) (a x b y : List ℕ) → is_without c a ≡ true → is_without c b ≡ true → a ++ (c ∷ x) ≡ b ++ (c ∷ y) → (a ≡ b) × (x ≡ y)
split_once c [] x [] y p q e = (refl, cc)
split_once c [] x (k ∷ b) y p q e = let same : k ≡ c = cc in absurd (not_itself c b (subst (λ (j : ℕ). is_without c (j ∷ b) ≡ true) same q))
split_once c (k ∷ a) x [] y p q e = let same : k ≡ c = cc in absurd (not_itself c a (subst (λ (j : ℕ). is_without c (j ∷ a) ≡ true) same p))
split_once c (k ∷ a) x (m ∷ b) y p q e =
    let first : k ≡ m = cc in
    let left : a ++ (c ∷ x) ≡ b ++ (c ∷ y) = cc in
    let more = split_once c a x b y (and_parts (not (eqb k c)) (is_without c a) p).1 (and_parts (not (eqb m c)) (is_without c b) q).1 left in
    (let rest : a ≡ b = more.0 in cc, more.1)

-- without it no c stands anywhere
not_among : (c : ℕ) (a b y : List ℕ) → is_without c a ≡ true → a ≡ b ++ (c ∷ y) → ⊥
not_among c a [] y p e = not_itself c y (ap (is_without c) (sym e) ∙ p)
not_among c [] (k ∷ b) y p e = absurd cc
not_among c (m ∷ a) (k ∷ b) y p e =
    let left : a ≡ b ++ (c ∷ y) = cc in
    not_among c a b y (and_parts (not (eqb m c)) (is_without c a) p).1 left

-- the AI has no "=", and the value no tab
record IsApart (e : Entry) : Type 0 where
  ai : is_without 61 e.ai ≡ true
  value : is_without 9 e.value ≡ true

digit_apart : (b : ℕ) → is_digit b ≡ true → not (eqb b 61) ≡ true
digit_apart b h =
    elim (cases_eq b 61) [
      | inl e ↦ absurd (let f = rw e at h in cc)
      | inr ne ↦ rw (ne_eqb b 61 ne) refl
    ]

value_byte_apart : (b : ℕ) → is_value_byte b ≡ true → not (eqb b 9) ≡ true
value_byte_apart b h =
    elim (cases_eq b 9) [
      | inl e ↦ absurd (let f = rw e at h in cc)
      | inr ne ↦ rw (ne_eqb b 9 ne) refl
    ]

element_apart : (year : Terms) (e : Entry) (row : Row) → IsElement (rows_by year) year.year row e → IsApart e
element_apart year e row is =
    let digits = (and_parts _ (list_all is_digit row.ai) (all_at is_of_digits every_row row (in_table year row is.listed) each_is_of_digits)).1 in
    let fits = is.value in
    record {
      ai = ap (is_without 61) is.ai ∙ all_weaker is_digit (λ b. not (eqb b 61)) digit_apart row.ai digits;
      value = all_weaker is_value_byte (λ b. not (eqb b 9)) value_byte_apart e.value (value_letters row.parts e.value fits.greatest fits.characters);
    }

each_apart : (year : Terms) (es : List Entry) → AreElements year es → AllByRecursion IsApart es
each_apart year [] are = tt
each_apart year (e ∷ es) are = (element_apart year e are.0.0 are.0.1, each_apart year es are.1)

-- a value and the pairs after it
same_ends : (v w : List ℕ) (es fs : List Entry) → is_without 9 v ≡ true → is_without 9 w ≡ true → v ++ more_pairs es ≡ w ++ more_pairs fs
    → (v ≡ w) × (pairs_text es ≡ pairs_text fs)
same_ends v w [] [] p q e = (sym (append-nil v) ∙ e ∙ append-nil w, refl)
same_ends v w [] (f ∷ fs) p q e = absurd (not_among 9 v w (pair_text f ++ more_pairs fs) p (sym (append-nil v) ∙ e))
same_ends v w (d ∷ es) [] p q e = absurd (not_among 9 w v (pair_text d ++ more_pairs es) q (sym (append-nil w) ∙ sym e))
same_ends v w (d ∷ es) (f ∷ fs) p q e =
    let both = split_once 9 v (pair_text d ++ more_pairs es) w (pair_text f ++ more_pairs fs) p q e in
    (both.0, pairs_text-cons d es ∙ both.1 ∙ sym (pairs_text-cons f fs))

same_lists : (es fs : List Entry) → AllByRecursion IsApart es → AllByRecursion IsApart fs → pairs_text es ≡ pairs_text fs → es ≡ fs
same_lists [] [] p q e = refl
same_lists [] (f ∷ fs) p q e = absurd (omega (
  arith,
  ap length (e ∙ pairs_text-cons f fs),
  length-append (pair_text f) (more_pairs fs),
  length-append f.ai
      (61 ∷ f.value),
))
same_lists (d ∷ es) [] p q e = absurd (omega (
  arith,
  ap length (sym e ∙ pairs_text-cons d es),
  length-append (pair_text d) (more_pairs es),
  length-append d.ai
      (61 ∷ d.value),
))
same_lists (d ∷ es) (f ∷ fs) p q e =
    let left : d.ai ++ (61 ∷ (d.value ++ more_pairs es)) ≡ f.ai ++ (61 ∷ (f.value ++ more_pairs fs)) =
    sym (append_assoc d.ai (61 ∷ d.value) (more_pairs es)) ∙ sym (pairs_text-cons d es) ∙ e ∙ pairs_text-cons f fs
    ∙ append_assoc f.ai (61 ∷ f.value) (more_pairs fs) in
    let ais = split_once 61 d.ai (d.value ++ more_pairs es) f.ai (f.value ++ more_pairs fs) p.0.ai q.0.ai left in
    let ends = same_ends d.value f.value es fs p.0.value q.0.value ais.1 in
    let first = same_element d f ais.0 ends.0 in
    let rest = same_lists es fs p.1 q.1 ends.1 in
    cc

pub pairs_differ : PairsDiffer
pairs_differ = λ year other text more es fs is also same.
    same_lists es fs
    (each_apart year es (elements_are year text es [] (from_left year text es [] is.reads)))
    (each_apart other fs (elements_are other more fs [] (from_left other more fs [] also.reads))) same
