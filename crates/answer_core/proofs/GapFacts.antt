-- Gaps that are passed over one after another.
use Rattle.std.proofs.Common.{◌≡◌, ◌∙◌, ◌-◌, ◌<◌, ℕ, zero, suc, true, false, eqb, List, [], ◌∷◌, ◌++◌, Option, Some, None, ap, append_assoc, drop, inl, inr, length, refl, sym, subst, take}
use Rattle.std.proofs.Math.Seq.{drop-nil}
use Rattle.std.proofs.lemmas.Bool.{and_from, and_parts, cases_Bool, cond_both, ne_eqb, true≢false}
use Rattle.std.specs.List.{cons_option, list_all}
use Rattle.element_core.specs.Elements.{is_digit}
use Rattle.answer_core.specs.Gaps.{before_gaps_in, behind_gaps_in, gap_length, kept_in, last_gap_length}
use Rattle.answer_core.specs.declared.gap.GapPlace.{GapPlace}

-- without a gap at the front all is left
pub front_ends : (n : ℕ) (place : GapPlace) (text : List ℕ) → gap_length place text ≡ 0 → behind_gaps_in n place text ≡ text
front_ends zero place text none = refl
front_ends (suc n) place text none = rw none refl

pub front_more : (n m : ℕ) (place : GapPlace) (text : List ℕ) → n ≡ suc m → (gap_length place text ≡ 0 → ⊥)
    → behind_gaps_in n place text ≡ behind_gaps_in m place (drop (gap_length place text) text)
front_more n m place text e some = ap (λ k. behind_gaps_in k place text) e ∙ rw (ne_eqb (gap_length place text) 0 some) refl

pub back_ends : (n : ℕ) (place : GapPlace) (text : List ℕ) → last_gap_length place text ≡ 0 → before_gaps_in n place text ≡ text
back_ends zero place text none = refl
back_ends (suc n) place text none = rw none refl

pub back_more : (n m : ℕ) (place : GapPlace) (text : List ℕ) → n ≡ suc m → (last_gap_length place text ≡ 0 → ⊥)
    → before_gaps_in n place text ≡ before_gaps_in m place (take (length text - last_gap_length place text) text)
back_more n m place text e some = ap (λ k. before_gaps_in k place text) e ∙ rw (ne_eqb (last_gap_length place text) 0 some) refl

-- a gap is not kept
pub gap_left : (n : ℕ) (place : GapPlace) (text : List ℕ) → (gap_length place text ≡ 0 → ⊥)
    → kept_in (suc n) place text ≡ kept_in n place (drop (gap_length place text) text)
gap_left n place text some = rw (ne_eqb (gap_length place text) 0 some) refl

-- another byte is
pub byte_kept : (n : ℕ) (place : GapPlace) (b : ℕ) (text : List ℕ) → gap_length place (b ∷ text) ≡ 0 → kept_in (suc n) place (b ∷ text) ≡ b ∷ kept_in n place text
byte_kept n place b text none = rw none refl

pub none_kept : (n : ℕ) (place : GapPlace) → kept_in n place [] ≡ []
none_kept zero place = refl
none_kept (suc n) place =
    cond_both (eqb (gap_length place []) 0) [] (kept_in n place (drop (gap_length place []) [])) (λ t. t ≡ []) (λ _. refl)
    (λ _. ap (kept_in n place) (drop-nil (gap_length place [])) ∙ none_kept n place)

option_front : (o : Option ℕ) (xs : List ℕ) → cons_option o [] ++ xs ≡ cons_option o xs
option_front None xs = refl
option_front (Some x) xs = refl

-- a sign more was passed
module _ (place : GapPlace) (rest behind all : List ℕ) (o : Option ℕ) (n m : ℕ) (is : n ≡ suc m)
    (passed : (k : ℕ) → kept_in (suc k) place rest ≡ cons_option o (kept_in k place behind)) where
  one_passed : kept_in n place rest ≡ cons_option o (kept_in m place behind)
  one_passed = ap (λ k. kept_in k place rest) is ∙ passed m

  pub kept_more : (left now : List ℕ) → now ≡ left ++ cons_option o [] → left ++ kept_in n place rest ≡ all → now ++ kept_in m place behind ≡ all
  kept_more left now put sofar =
      ap (λ t. t ++ kept_in m place behind) put ∙ append_assoc left (cons_option o []) (kept_in m place behind)
      ∙ ap (λ t. left ++ t) (option_front o (kept_in m place behind) ∙ sym one_passed) ∙ sofar

  pub kept_full : (left : List ℕ) → ((more : List ℕ) → 192 < length (left ++ cons_option o more)) → left ++ kept_in n place rest ≡ all → 192 < length all
  kept_full left full sofar = subst (λ (t : List ℕ). 192 < length t) (ap (λ t. left ++ t) (sym one_passed) ∙ sofar) (full (kept_in m place behind))

  pub digits_more : list_all is_digit (cons_option o []) ≡ true → list_all is_digit (kept_in n place rest) ≡ list_all is_digit (kept_in m place behind)
  digits_more is_one = ap (list_all is_digit) one_passed ∙ behind_digit o is_one
    where
      behind_digit : (p : Option ℕ) → list_all is_digit (cons_option p []) ≡ true → list_all is_digit (cons_option p (kept_in m place behind)) ≡ list_all is_digit (kept_in m place behind)
      behind_digit None h = refl
      behind_digit (Some b) h = rw ((and_parts (is_digit b) true h).0) refl

  pub digits_end : list_all is_digit (cons_option o []) ≡ false → list_all is_digit (kept_in n place rest) ≡ false
  digits_end is_none = ap (list_all is_digit) one_passed ∙ no_digit o is_none
    where
      no_digit : (p : Option ℕ) → list_all is_digit (cons_option p []) ≡ false → list_all is_digit (cons_option p (kept_in m place behind)) ≡ false
      no_digit None h = absurd (true≢false h)
      no_digit (Some b) h = elim (cases_Bool (is_digit b)) [
        | inl is ↦ absurd (true≢false (sym (and_from (is_digit b) true is refl) ∙ h))
        | inr other ↦ rw other refl
      ]
