-- Conflicts that are added one after another.
use Rattle.std.proofs.Common.{◌≡◌, ◌∙◌, ◌+◌, ◌≤◌, ℕ, List, [], ◌∷◌, ◌++◌, add-one, ap, ap₂, arith, drop, inl, inr, length, length-append, min, refl, set, sym, take, Option, Some, None}
use Rattle.std.specs.List.{cons_option}
use Rattle.std.proofs.lemmas.Bool.{cases_lt}
use Rattle.std.proofs.lemmas.List.{length-set, set_past}
use Rattle.answer_core.specs.declared.conflict.Conflict.{Conflict}
use Rattle.answer_core.specs.inner.Conflicts.{AreAdded, with_added}

pub length_with_added : (old : List Conflict) (at : ℕ) (cs : List Conflict) → length (with_added old at cs) ≡ length old
length_with_added old at [] = refl
length_with_added old at (c ∷ cs) = length_with_added (set old at c) (at + 1) cs ∙ length-set old at c

-- nothing is written behind the end
pub with_added_past : (old : List Conflict) (at : ℕ) (cs : List Conflict) → length old ≤ at → with_added old at cs ≡ old
with_added_past old at [] past = refl
with_added_past old at (c ∷ cs) past =
    ap (λ (l : List Conflict). with_added l (at + 1) cs) (set_past old at c past) ∙ with_added_past old (at + 1) cs (omega (arith, past))

pub with_added_more : (old : List Conflict) (at : ℕ) (xs ys : List Conflict) → with_added (with_added old at xs) (at + length xs) ys ≡ with_added old at (xs ++ ys)
with_added_more old at [] ys = let e : at + length {A = Conflict} [] ≡ at = omega arith in ap (λ k. with_added old k ys) e
with_added_more old at (x ∷ xs) ys =
    let e : at + length (x ∷ xs) ≡ at + 1 + length xs = omega arith in
    ap (λ k. with_added (with_added (set old at x) (at + 1) xs) k ys) e ∙ with_added_more (set old at x) (at + 1) xs ys

pub with_added_min : (old : List Conflict) (at : ℕ) (ys : List Conflict) → with_added old (min at (length old)) ys ≡ with_added old at ys
with_added_min old at ys =
    elim (cases_lt at (length old)) [
      | inl below ↦ let e : min at (length old) ≡ at = omega arith in ap (λ k. with_added old k ys) e
      | inr past ↦
          let e : min at (length old) ≡ length old = omega arith in
          ap (λ k. with_added old k ys) e ∙ with_added_past old (length old) ys (omega arith) ∙ sym (with_added_past old at ys past)
    ]

-- what is added behind others is added with them
pub added_more : (old now : List Conflict) (at end : ℕ) (xs ys : List Conflict) → AreAdded xs at old now end → with_added now end ys ≡ with_added old at (xs ++ ys)
added_more old now at end xs ys added =
    let first : List Conflict = with_added old at xs in
    let long : length old ≡ length first = sym (length_with_added old at xs) in
    ap₂ (λ (l : List Conflict) (k : ℕ). with_added l k ys) added.put (added.counted ∙ ap (min (at + length xs)) long)
    ∙ with_added_min first (at + length xs) ys ∙ with_added_more old at xs ys

pub counted_more : (old now : List Conflict) (at end : ℕ) (xs ys : List Conflict) → AreAdded xs at old now end
    → min (end + length ys) (length now) ≡ min (at + length (xs ++ ys)) (length old)
counted_more old now at end xs ys added =
    let long : length now ≡ length old = ap length added.put ∙ length_with_added old at xs in
    let ends = added.counted in
    let both = length-append xs ys in
    omega (arith, long, ends, both)

pub are_added : (old now new : List Conflict) (at end last : ℕ) (xs ys : List Conflict) → AreAdded xs at old now end → AreAdded ys end now new last
    → AreAdded (xs ++ ys) at old new last
are_added old now new at end last xs ys first second = record {
  put = second.put ∙ added_more old now at end xs ys first;
  counted = second.counted ∙ counted_more old now at end xs ys first;
}

-- ---- one by one

pub one_more : (o : Option Conflict) (cs : List Conflict) → cons_option o [] ++ cs ≡ cons_option o cs
one_more None cs = refl
one_more (Some c) cs = refl

-- ---- from the front

set_behind : (x : Conflict) (old : List Conflict) (at : ℕ) (c : Conflict) → set (x ∷ old) (at + 1) c ≡ x ∷ set old at c
set_behind x old at c = rw (add-one at) refl

pub with_added_behind : (x : Conflict) (old : List Conflict) (at : ℕ) (cs : List Conflict) → with_added (x ∷ old) (at + 1) cs ≡ x ∷ with_added old at cs
with_added_behind x old at [] = refl
with_added_behind x old at (c ∷ cs) =
    ap (λ (l : List Conflict). with_added l (at + 1 + 1) cs) (set_behind x old at c) ∙ with_added_behind x (set old at c) (at + 1) cs

pub with_added_front : (old cs : List Conflict) → with_added old 0 cs ≡ take (length old) cs ++ drop (length cs) old
with_added_front [] [] = refl
with_added_front (x ∷ old) [] = refl
with_added_front [] (c ∷ cs) = with_added_past [] 1 cs (omega arith)
with_added_front (x ∷ old) (c ∷ cs) = with_added_behind c old 0 cs ∙ ap (λ (l : List Conflict). c ∷ l) (with_added_front old cs)
