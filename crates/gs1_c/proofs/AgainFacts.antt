-- Elements that were put as pairs are shown again.
use Rattle.std.proofs.Common.{◌≡◌, ◌+◌, ℕ, Bool, true, false, eqb, not, ◌||◌, List, [], ◌∷◌, ◌++◌, ◌∙◌, ap, arith, cond, drop, inl, inr, length, map, refl, subst, suc, sym}
use Rattle.std.specs.List.{AllByRecursion, filter, list_all, list_any, onto_first, slice_split}
use Rattle.std.proofs.lemmas.Bool.{and_from, and_parts, cases_Bool, cases_eq, ne_eqb, not-true, or_parts}
use Rattle.std.proofs.lemmas.List.Splits.{slice_split-cons_no, slice_split-cons_yes}
use Rattle.element_core.specs.Elements.{Entry, IsElement, IsElements, is_digit, is_value_byte, pair_text, pairs_text}
use Rattle.element_core.specs.Table.{Row, every_row}
use Rattle.element_core.specs.Terms.{Terms, rows_by}
use Rattle.element_core.specs.inner.Elements.{AreElements}
use Rattle.element_core.specs.inner.Table.{is_of_digits}
use Rattle.element_core.proofs.Canonical.{elements_are}
use Rattle.element_core.proofs.Letters.{all_weaker, value_letters}
use Rattle.element_core.proofs.Look.{all_at, in_table}
use Rattle.element_core.proofs.PieceLemmas.{from_left}
use Rattle.element_core.proofs.TableLaws.{each_is_of_digits}
use Rattle.gs1_c.specs.Dates.{before_equals, shown_pair}
use Rattle.gs1_c.specs.Shown.{ShownAgain, is_between, line_elements, shows_element}
use Rattle.gs1_c.specs.inner.Shown.{up_to}
use Rattle.gs1_c.proofs.FirstWord.{rest_words, split_word}

-- ---- words without `=` are passed over

dropped : (word : List ℕ) (words : List (List ℕ)) → shows_element word ≡ false → filter shows_element (word ∷ words) ≡ filter shows_element words
dropped word words h = rw h refl

first_hides : (p : ℕ → Bool) (word rest : List ℕ) (b : ℕ) → p b ≡ true → shows_element word ≡ false → shows_element (up_to p (word ++ (b ∷ rest))) ≡ false
first_hides p [] rest b at h = rw at refl
first_hides p (c ∷ word) rest b at h =
    let parts = or_parts (eqb c 61) (shows_element word) h in
    elim (p c) as (λ t. shows_element (cond t [] (c ∷ up_to p (word ++ (b ∷ rest)))) ≡ false) [
      | true ↦ refl
      | false ↦ rw parts.0 (first_hides p word rest b at parts.1)
    ]

passed : (p : ℕ → Bool) (word rest : List ℕ) (b : ℕ) → p b ≡ true → shows_element word ≡ false
    → filter shows_element (slice_split p (word ++ (b ∷ rest))) ≡ filter shows_element (slice_split p rest)
passed p [] rest b at h = ap (filter shows_element) (slice_split-cons_yes p b rest at)
passed p (c ∷ word) rest b at h =
    let parts = or_parts (eqb c 61) (shows_element word) h in
    let text = word ++ (b ∷ rest) in
    let more = passed p word rest b at parts.1 in
    let hides = first_hides p word rest b at parts.1 in
    elim (cases_Bool (p c)) [
      | inl e ↦ ap (filter shows_element) (slice_split-cons_yes p c text e) ∙ more
      | inr e ↦
          let others = rest_words p (drop (length (up_to p text)) text) in
          let hidden : shows_element (c ∷ up_to p text) ≡ false = rw parts.0 hides in
          ap (filter shows_element) (slice_split-cons_no p c text e ∙ ap (onto_first c) (split_word p text)) ∙ dropped (c ∷ up_to p text) others hidden
          ∙ sym (dropped (up_to p text) others hides) ∙ ap (filter shows_element) (sym (split_word p text)) ∙ more
    ]

-- ---- words of bytes that are not between words

split_off : (p : ℕ → Bool) (word rest : List ℕ) (b : ℕ) → p b ≡ true → list_all (λ c. not (p c)) word ≡ true → slice_split p (word ++ (b ∷ rest)) ≡ word ∷ slice_split p rest
split_off p [] rest b at h = slice_split-cons_yes p b rest at
split_off p (c ∷ word) rest b at h =
    let parts = and_parts (not (p c)) (list_all (λ d. not (p d)) word) h in
    slice_split-cons_no p c (word ++ (b ∷ rest)) (not-true (p c) parts.0) ∙ ap (onto_first c) (split_off p word rest b at parts.1)

split_all : (p : ℕ → Bool) (word : List ℕ) → list_all (λ c. not (p c)) word ≡ true → slice_split p word ≡ word ∷ []
split_all p [] h = refl
split_all p (c ∷ word) h =
    let parts = and_parts (not (p c)) (list_all (λ d. not (p d)) word) h in
    slice_split-cons_no p c word (not-true (p c) parts.0) ∙ ap (onto_first c) (split_all p word parts.1)

-- ---- the bytes of an element

other_byte : (test : ℕ → Bool) (c : ℕ) → test c ≡ false → (b : ℕ) → test b ≡ true → eqb b c ≡ false
other_byte test c misses b passes =
    elim (cases_eq b c) [
      | inl e ↦ absurd (let bad : true ≡ false = sym passes ∙ ap test e ∙ misses in cc)
      | inr ne ↦ ne_eqb b c ne
    ]

value_byte_inside : (b : ℕ) → is_value_byte b ≡ true → not (is_between b) ≡ true
value_byte_inside b h = rw (other_byte is_value_byte 32 refl b h, other_byte is_value_byte 9 refl b h, other_byte is_value_byte 10 refl b h) refl

digit_inside : (b : ℕ) → is_digit b ≡ true → not (is_between b) ≡ true
digit_inside b h = rw (other_byte is_digit 32 refl b h, other_byte is_digit 9 refl b h, other_byte is_digit 10 refl b h) refl

digit_is_other : (b : ℕ) → is_digit b ≡ true → not (eqb b 61) ≡ true
digit_is_other b h = rw (other_byte is_digit 61 refl b h) refl

-- the AI has no `=`, and neither it nor the value a byte between words
record IsWhole (e : Entry) : Type 0 where
  equals : list_all (λ b. not (eqb b 61)) e.ai ≡ true
  ai : list_all (λ b. not (is_between b)) e.ai ≡ true
  value : list_all (λ b. not (is_between b)) e.value ≡ true

element_whole : (terms : Terms) (e : Entry) (row : Row) → IsElement (rows_by terms) terms.year row e → IsWhole e
element_whole terms e row is =
    let digits : list_all is_digit row.ai ≡ true
    = (and_parts _ (list_all is_digit row.ai) (all_at is_of_digits every_row row (in_table terms row is.listed) each_is_of_digits)).1 in
    let fits = is.value in
    record {
      equals = ap (list_all (λ b. not (eqb b 61))) is.ai ∙ all_weaker is_digit (λ b. not (eqb b 61)) digit_is_other row.ai digits;
      ai = ap (list_all (λ b. not (is_between b))) is.ai ∙ all_weaker is_digit (λ b. not (is_between b)) digit_inside row.ai digits;
      value = all_weaker is_value_byte (λ b. not (is_between b)) value_byte_inside e.value (value_letters row.parts e.value fits.greatest fits.characters);
    }

each_whole : (terms : Terms) (es : List Entry) → AreElements terms es → AllByRecursion IsWhole es
each_whole terms [] are = tt
each_whole terms (e ∷ es) are = (element_whole terms e are.0.0 are.0.1, each_whole terms es are.1)

-- ---- a pair

pair_inside : (ai value : List ℕ) → list_all (λ b. not (is_between b)) ai ≡ true → list_all (λ b. not (is_between b)) value ≡ true
    → list_all (λ b. not (is_between b)) (ai ++ (61 ∷ value)) ≡ true
pair_inside [] value f g = g
pair_inside (c ∷ ai) value f g =
    let parts = and_parts (not (is_between c)) (list_all (λ b. not (is_between b)) ai) f in
    and_from (not (is_between c)) (list_all (λ b. not (is_between b)) (ai ++ (61 ∷ value))) parts.0 (pair_inside ai value parts.1 g)

pair_shows : (ai value : List ℕ) → shows_element (ai ++ (61 ∷ value)) ≡ true
pair_shows [] value = refl
pair_shows (c ∷ ai) value = elim (eqb c 61) as (λ t. (t || shows_element (ai ++ (61 ∷ value))) ≡ true) [ true ↦ refl | false ↦ pair_shows ai value ]

before_pair : (ai value : List ℕ) → list_all (λ b. not (eqb b 61)) ai ≡ true → before_equals (ai ++ (61 ∷ value)) ≡ ai
before_pair [] value h = refl
before_pair (c ∷ ai) value h =
    let parts = and_parts (not (eqb c 61)) (list_all (λ b. not (eqb b 61)) ai) h in
    rw (not-true (eqb c 61) parts.0) (ap (λ (w : List ℕ). c ∷ w) (before_pair ai value parts.1))

behind_pair : (ai value : List ℕ) → drop (suc (length ai)) (ai ++ (61 ∷ value)) ≡ value
behind_pair [] value = refl
behind_pair (c ∷ ai) value = behind_pair ai value

pair_again : (e : Entry) → IsWhole e → shown_pair (pair_text e) ≡ e
pair_again e is =
    let ai = before_pair e.ai e.value is.equals in
    let past : length e.ai + 1 ≡ suc (length e.ai) = omega arith in
    let value : drop (length (before_equals (pair_text e)) + 1) (pair_text e) ≡ e.value
    = ap (λ (w : List ℕ). drop (length w + 1) (pair_text e)) ai ∙ ap (λ (n : ℕ). drop n (pair_text e)) past ∙ behind_pair e.ai e.value in
    rw (value, ai) refl

one_more : (e : Entry) (words : List (List ℕ)) → IsWhole e → map shown_pair (filter shows_element (pair_text e ∷ words)) ≡ e ∷ map shown_pair (filter shows_element words)
one_more e words is = rw (pair_shows e.ai e.value) (ap (λ (it : Entry). it ∷ map shown_pair (filter shows_element words)) (pair_again e is))

pairs_again : (es : List Entry) → AllByRecursion IsWhole es → line_elements (pairs_text es) ≡ es
pairs_again [] are = refl
pairs_again (e ∷ []) are =
    ap (λ (ws : List (List ℕ)). map shown_pair (filter shows_element ws)) (split_all is_between (pair_text e) (pair_inside e.ai e.value are.0.ai are.0.value))
    ∙ one_more e [] are.0
pairs_again (e ∷ f ∷ es) are =
    ap (λ (ws : List (List ℕ)). map shown_pair (filter shows_element ws))
    (split_off is_between (pair_text e) (pairs_text (f ∷ es)) 9 refl (pair_inside e.ai e.value are.0.ai are.0.value))
    ∙ one_more e (slice_split is_between (pairs_text (f ∷ es))) are.0 ∙ ap (λ (it : List Entry). e ∷ it) (pairs_again (f ∷ es) are.1)

pub shown_again : ShownAgain
shown_again = λ terms text word es is plain.
    ap (map shown_pair) (passed is_between word (pairs_text es) 32 refl (not-true (shows_element word) plain))
    ∙ pairs_again es (each_whole terms es (elements_are terms text es [] (from_left terms text es [] is.reads)))
