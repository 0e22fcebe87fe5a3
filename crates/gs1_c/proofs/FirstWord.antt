-- The first word of a line, and the elements behind it.
use Rattle.std.proofs.Common.{◌≡◌, ◌+◌, ◌-◌, ◌<◌, ◌≤◌, ℕ, Bool, true, false, ◌||◌, List, [], ◌∷◌, ◌++◌, ◌∙◌, ap, arith, cond, drop, eqb, inl, inr, length, map, refl, subst, sym, take}
use Rattle.std.specs.List.{filter, list_any, slice_split, onto_first}
use Rattle.std.proofs.lemmas.Bool.{cases_Bool}
use Rattle.std.proofs.lemmas.List.{drop-drop, drop-take, take-take, length-drop}
use Rattle.std.proofs.lemmas.List.Splits.{slice_split-cons_yes}
use Rattle.element_core.specs.Elements.{Entry}
use Rattle.gs1_c.specs.Dates.{before_equals, shown_pair}
use Rattle.gs1_c.specs.Shown.{IsFirstElement, bytes_from, element_in, is_between, line_elements, shows_element}
use Rattle.gs1_c.specs.inner.Shown.{up_to}
use Rattle.gs1_c.proofs.DateFacts.{take_before}

-- the words behind the first one, which ends here
abbrev pub rest_words : (ℕ → Bool) → List ℕ → List (List ℕ)
rest_words p [] = []
rest_words p (b ∷ line) = slice_split p line

pub split_word : (p : ℕ → Bool) (line : List ℕ) → slice_split p line ≡ up_to p line ∷ rest_words p (drop (length (up_to p line)) line)
split_word p [] = refl
split_word p (b ∷ line) =
    elim (p b) as (λ t. cond t ([] ∷ slice_split p line) (onto_first b (slice_split p line))
    ≡ cond t [] (b ∷ up_to p line) ∷ rest_words p (drop (length (cond t [] (b ∷ up_to p line))) (b ∷ line))) [
      | true ↦ refl
      | false ↦ rw (split_word p line) refl
    ]

-- where the first word ends, there is an empty one
split_here : (p : ℕ → Bool) (line : List ℕ) → slice_split p (drop (length (up_to p line)) line) ≡ [] ∷ rest_words p (drop (length (up_to p line)) line)
split_here p [] = refl
split_here p (b ∷ line) =
    elim (cases_Bool (p b)) [
      | inl e ↦ rw e (slice_split-cons_yes p b line e)
      | inr e ↦ rw e (split_here p line)
    ]

-- it is the front of the line
pub take_up_to : (p : ℕ → Bool) (line : List ℕ) → take (length (up_to p line)) line ≡ up_to p line
take_up_to p [] = refl
take_up_to p (b ∷ line) =
    elim (p b) as (λ t. take (length (cond t [] (b ∷ up_to p line))) (b ∷ line) ≡ cond t [] (b ∷ up_to p line)) [
      | true ↦ refl
      | false ↦ ap (λ (w : List ℕ). b ∷ w) (take_up_to p line)
    ]

abbrev entries : List (List ℕ) → List Entry
entries words = map shown_pair (filter shows_element words)

-- behind the byte after the first word stand the others
behind : (line : List ℕ) → entries (rest_words is_between line) ≡ line_elements (drop 1 line)
behind [] = refl
behind (b ∷ line) = refl

pub no_element : (line : List ℕ) → shows_element (up_to is_between line) ≡ false
    → line_elements line ≡ line_elements (drop (length (up_to is_between line) + 1) line)
no_element line h =
    let n = length (up_to is_between line) in
    ap entries (split_word is_between line) ∙ rw h (behind (drop n line)) ∙ ap line_elements (drop-drop 1 n line)

pub first_of : (line : List ℕ) → shows_element (up_to is_between line) ≡ true
    → line_elements line ≡ shown_pair (up_to is_between line) ∷ line_elements (drop (length (up_to is_between line)) line)
first_of line h =
    let n = length (up_to is_between line) in
    let same : line_elements (drop n line) ≡ entries (rest_words is_between (drop n line)) = ap entries (split_here is_between line) in
    ap entries (split_word is_between line) ∙ rw h (ap (λ (es : List Entry). shown_pair (up_to is_between line) ∷ es) (sym same))

pub shows_yes : (word : List ℕ) → length (before_equals word) < length word → shows_element word ≡ true
shows_yes [] h = absurd (omega arith)
shows_yes (b ∷ word) h =
    elim (eqb b 61) as (λ t. length (cond t [] (b ∷ before_equals word)) < length (b ∷ word) → (t || shows_element word) ≡ true) [
      | true ↦ λ k. refl
      | false ↦ λ k. shows_yes word (omega arith)
    ] h

pub shows_no : (word : List ℕ) → length word ≤ length (before_equals word) → shows_element word ≡ false
shows_no [] h = refl
shows_no (b ∷ word) h =
    elim (eqb b 61) as (λ t. length (b ∷ word) ≤ length (cond t [] (b ∷ before_equals word)) → (t || shows_element word) ≡ false) [
      | true ↦ λ k. absurd (omega arith)
      | false ↦ λ k. shows_no word (omega arith)
    ] h

-- ---- the first element at its place in the line

module _ (line : List ℕ) (s n a : ℕ) (counted : n ≡ length (up_to is_between (drop s line))) (equals : a ≡ length (before_equals (take n (drop s line))))
    (inside : n ≤ length (drop s line)) (low : s ≤ length line) where
  abbrev rest : List ℕ
  rest = drop s line

  abbrev word : List ℕ
  word = up_to is_between rest

  word_is : take n rest ≡ word
  word_is = ap (λ (k : ℕ). take k rest) counted ∙ take_up_to is_between rest

  equals_in : a ≡ length (before_equals word)
  equals_in = equals ∙ ap (λ (w : List ℕ). length (before_equals w)) word_is

  ai_is : a < n → before_equals word ≡ bytes_from s (s + a) line
  ai_is has =
      sym (take_before word) ∙ ap (λ (k : ℕ). take k word) (sym equals_in) ∙ ap (take a) (sym word_is) ∙ take-take a n rest (omega arith)
      ∙ ap (λ (k : ℕ). take k rest) (omega arith)

  value_is : a < n → drop (length (before_equals word) + 1) word ≡ bytes_from (s + a + 1) (s + n) line
  value_is has =
      let whole : n ≡ (a + 1) + (n - (a + 1)) = omega arith in
      let more : n - (a + 1) ≡ (s + n) - (s + a + 1) = omega arith in
      let past : s + (a + 1) ≡ s + a + 1 = omega arith in
      ap (λ (k : ℕ). drop (k + 1) word) (sym equals_in) ∙ ap (drop (a + 1)) (sym word_is) ∙ ap (λ (k : ℕ). drop (a + 1) (take k rest)) whole
      ∙ drop-take (a + 1) (n - (a + 1)) rest ∙ ap (take (n - (a + 1))) (drop-drop (a + 1) s line ∙ ap (λ (k : ℕ). drop k line) past)
      ∙ ap (λ (k : ℕ). take k (drop (s + a + 1) line)) more

  tail_is : drop (length word) rest ≡ drop (s + n) line
  tail_is = ap (λ (k : ℕ). drop k rest) (sym counted) ∙ drop-drop n s line

  pub first_at : a < n → line_elements line ≡ line_elements rest → IsFirstElement line (record { start = s; equals = s + a; end = s + n })
  first_at has same =
      record {
        elements = same ∙ first_of rest (shows_yes word (omega (arith, counted, equals_in)))
            ∙ rw (value_is has, ai_is has, tail_is) refl;
        ai = omega arith;
        value = omega (arith, has);
        within = omega (arith, inside, low, length-drop s line);
      }

  pub word_passed : n ≤ a → line_elements line ≡ line_elements rest → line_elements line ≡ line_elements (drop (s + (n + 1)) line)
  word_passed without same =
      same ∙ no_element rest (shows_no word (omega (arith, counted, equals_in, without)))
      ∙ ap (λ (k : ℕ). line_elements (drop (k + 1) rest)) (sym counted) ∙ ap line_elements (drop-drop (n + 1) s line)
