-- Elements stand at their places.
use Rattle.std.proofs.Common.{◌≡◌, ◌∙◌, ◌⊎◌, ◌+◌, ◌-◌, ◌<◌, ◌≤◌, ◌∷◌, [], List, Some, ap, ap₂, arith, drop, inl, inr, length, map, refl, set, suc, sym, take, zero, ℕ}
use Rattle.std.specs.Prelude.{slice_get}
use Rattle.std.specs.List.{AllZip}
use Rattle.std.proofs.Math.Seq.{drop-nil}
use Rattle.std.proofs.lemmas.List.{drop-drop}
use Rattle.std.proofs.lemmas.Bool.{le-leb}
use Rattle.element_core.specs.Elements.{Entry, canonical, entry_day, entry_time, entry_until}
use Rattle.element_core.specs.Terms.{Terms}
use Rattle.answer_core.specs.Laws.{AnswersTellOne}
use Rattle.answer_core.specs.Numbers.{decimals_of, number_at, number_index}
use Rattle.answer_core.specs.Places.{IsPlaced, Names, entry_at, span}
use Rattle.answer_core.specs.inner.Places.{StandTo}
use Rattle.answer_core.specs.declared.place.Place.{Place}

get_set_same : (xs : List Place) (i : ℕ) (a : Place) → i < length xs → slice_get (set xs i a) i ≡ Some a
get_set_same [] i a h = absurd (omega (arith, h))
get_set_same (x ∷ xs) zero a h = refl
get_set_same (x ∷ xs) (suc i) a h = get_set_same xs i a (omega (arith, h))

get_set_other : (xs : List Place) (i j : ℕ) (a : Place) → j < i → slice_get (set xs i a) j ≡ slice_get xs j
get_set_other [] i j a h = refl
get_set_other (x ∷ xs) zero j a h = absurd (omega (arith, h))
get_set_other (x ∷ xs) (suc i) zero a h = refl
get_set_other (x ∷ xs) (suc i) (suc j) a h = get_set_other xs i j a (omega (arith, h))

first_of : (es : List Entry) (i : ℕ) (e : Entry) (more : List Entry) → e ∷ more ≡ drop i es → slice_get es i ≡ Some e
first_of [] zero e more h = absurd (omega (arith, ap length h))
first_of [] (suc i) e more h = absurd (omega (arith, ap length h))
first_of (x ∷ es) zero e more h = cc h
first_of (x ∷ es) (suc i) e more h = first_of es i e more h

pub next_left : (es more : List Entry) (e : Entry) (k : ℕ) → e ∷ more ≡ drop k es → more ≡ drop (k + 1) es
next_left [] more e k h = absurd (omega (arith, ap length (h ∙ drop-nil k)))
next_left (x ∷ es) more e zero h = cc
next_left (x ∷ es) more e (suc k) h = let one : suc k + 1 ≡ suc (k + 1) = omega arith in rw one (next_left es more e k h)

below_or_same : (i n : ℕ) → i < n + 1 → (i < n) ⊎ (i ≡ n)
below_or_same zero zero h = inr refl
below_or_same zero (suc n) h = inl (omega arith)
below_or_same (suc i) zero h = absurd (omega (arith, h))
below_or_same (suc i) (suc n) h = elim (below_or_same i n (omega (arith, h))) [
  | inl l ↦ inl (omega (arith, l))
  | inr e ↦ inr (ap suc e)
]

-- one more
pub one_more : (count : ℕ) (terms : Terms) (text : List ℕ) (es : List Entry) (places : List Place) (p : Place) (e : Entry) (more : List Entry)
    → StandTo count terms text es places → e ∷ more ≡ drop count es → IsPlaced terms text e p → count < length places
    → StandTo (count + 1) terms text es (set places count p)
one_more count terms text es places p e more before left stands room i lt f is =
    elim (below_or_same i count lt) [
      | inl below ↦ let s = before i below f is in (s.0, get_set_other places count i p below ∙ s.1, s.2)
      | inr same ↦
          let other : Some e ≡ Some f = sym (first_of es count e more left) ∙ ap (slice_get es) (sym same) ∙ is in
          let one : e ≡ f = cc other in
          (p, ap (slice_get (set places count p)) same ∙ get_set_same places count p room, rw (sym one) stands)
    ]

entry_of : List ℕ → List ℕ → Entry
entry_of ai value = record { ai = ai; value = value }

-- a span that there is
pub span_within : (text : List ℕ) (from to : ℕ) → from ≤ to → to ≤ length text → span text from to ≡ take (to - from) (drop from text)
span_within text from to first within = rw (le-leb from to first) (rw (le-leb to (length text) within) refl)

-- the place of an element that begins where what is left of a text begins
pub stands_at : (terms : Terms) (text rest ai value : List ℕ) (p : Place) → rest ≡ drop (length text - length rest) text
    → length ai + length value ≤ length rest → length rest ≤ length text → ai ≡ take (length ai) rest
    → value ≡ take (length value) (drop (length ai) rest) → p.ai ≡ length text - length rest → p.value ≡ length text - length rest + length ai
    → p.end ≡ length text - length rest + length ai + length value
    → Names (entry_day terms (record { ai = ai; value = value })) (entry_time (record { ai = ai; value = value }))
    (entry_until terms (record { ai = ai; value = value })) p
    → p.number ≡ number_index p.value (number_at ai) → p.decimals ≡ decimals_of (number_at ai) → p.reserved ≡ 0
    → IsPlaced terms text (record { ai = ai; value = value }) p
unfolding entry_of
stands_at terms text rest ai value p from fits shorter ai_is value_is begin mid end names number decimals reserved =
    let at = length text - length rest in
    let n : length ai ≡ p.value - p.ai = omega (arith, begin, mid) in
    let m : length value ≡ p.end - p.value = omega (arith, mid, end) in
    let tail : drop (length ai) rest ≡ drop p.value text = ap (drop (length ai)) from ∙ drop-drop (length ai) at text ∙ ap (λ k. drop k text) (sym mid) in
    let first : p.ai ≤ p.value = omega (arith, begin, mid) in
    let second : p.value ≤ p.end = omega (arith, mid, end) in
    let within : p.end ≤ length text = omega (arith, end, fits, shorter) in
    let ai_at : ai ≡ span text p.ai p.value =
    ai_is ∙ ap₂ (λ (k : ℕ) (r : List ℕ). take k r) n (from ∙ ap (λ k. drop k text) (sym begin))
    ∙ sym (span_within text p.ai p.value first (omega (arith, second, within))) in
    let value_at : value ≡ span text p.value p.end =
    value_is ∙ ap₂ (λ (k : ℕ) (r : List ℕ). take k r) m tail ∙ sym (span_within text p.value p.end second within) in
    record {
      here = record {
        first = first;
        second = second;
        within = within;
        is = ap₂ entry_of ai_at value_at;
      };
      names = names;
      number = number;
      decimals = decimals;
      reserved = reserved;
    }

-- ---- from places by their index to places one for one

shifted : (count : ℕ) (terms : Terms) (text : List ℕ) (e : Entry) (es : List Entry) (p : Place) (places : List Place)
    → StandTo (suc count) terms text (e ∷ es) (p ∷ places) → StandTo count terms text es places
shifted count terms text e es p places stand i lt f is = stand (suc i) (omega (arith, lt)) f is

pub one_for_one : (terms : Terms) (text : List ℕ) (es : List Entry) (places : List Place) → length es ≤ length places
    → StandTo (length es) terms text es places → AllZip (IsPlaced terms text) es (take (length es) places)
one_for_one terms text [] places room stand = tt
one_for_one terms text (e ∷ es) [] room stand = absurd (omega (arith, room))
one_for_one terms text (e ∷ es) (p ∷ places) room stand =
    let s = stand 0 (omega arith) e refl in
    let same : p ≡ s.0 = cc s.1 in
    (rw same s.2, one_for_one terms text es places (omega (arith, room)) (shifted (length es) terms text e es p places stand))

-- the elements are those at their places
pub entries_are : (terms : Terms) (text : List ℕ) (es : List Entry) (places : List Place) → AllZip (IsPlaced terms text) es places
    → map (entry_at text) places ≡ es
entries_are terms text [] [] stand = refl
entries_are terms text [] (p ∷ places) stand = absurd stand
entries_are terms text (e ∷ es) [] stand = absurd stand
entries_are terms text (e ∷ es) (p ∷ places) stand =
    ap₂ (λ (f : Entry) (fs : List Entry). f ∷ fs) (sym stand.0.here.is) (entries_are terms text es places stand.1)

-- an answer tells one list of elements
pub answers_tell_one : AnswersTellOne
answers_tell_one terms a es fs tells also =
    let same : canonical es ≡ canonical fs = sym tells.text_is ∙ also.text_is in
    sym (entries_are terms (canonical es) es (take a.count a.elements) tells.stand)
    ∙ ap (λ (t : List ℕ). map (entry_at t) (take a.count a.elements)) same
    ∙ entries_are terms (canonical fs) fs (take a.count a.elements) also.stand
