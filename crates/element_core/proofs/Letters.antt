-- Which bytes a canonical text has.
use Rattle.std.proofs.Common.{◌≡◌, ℕ, ◌<◌, ◌≤◌, Bool, true, false, cond, eqb, leb, ◌||◌, List, [], ◌∷◌, ◌++◌, length, take, drop, refl, sym, ap, subst, ◌∙◌, append_assoc, arith, inl, inr, length-drop}
use Rattle.std.specs.Prelude.{is_some}
use Rattle.std.specs.List.{list_all, AllByRecursion}
use Rattle.std.proofs.lemmas.Bool.{and_parts, and_from, leb-true, le-leb, lt-leb, ne_eqb, eqb-true, or_cases, cases_lt}
use Rattle.std.proofs.lemmas.List.{take-append-drop, nil_from_length}
use Rattle.std.specs.Int.{is_in_range}
use Rattle.element_core.specs.declared.part.Part.{Part}
use Rattle.element_core.specs.declared.part.PartFormat.{PartFormat}
use Rattle.element_core.specs.declared.part.PartFormat.TheVariants.{Numeric, Alphanumeric, Component, Base64Url, Capitals, YesNo, Winding, Sex, Zero, Hyphen, Importer}
use Rattle.element_core.specs.Terms.{Terms, rows_by}
use Rattle.element_core.specs.Table.{Row, every_row, greatest_of, predefined_length}
use Rattle.element_core.specs.inner.Table.{is_of_digits}
use Rattle.element_core.specs.Elements.{Entry, IsElement, IsElements, belongs, is_digit, is_capital_or_digit, is_of_64, is_character, is_value_byte, is_text_byte, begins_with_digits, is_printable, has_characters, each_part, separator_for, canonical}
use Rattle.element_core.specs.inner.Elements.{AreElements}
use Rattle.element_core.specs.Rules.{follows}
use Rattle.element_core.proofs.TableLaws.{each_is_of_digits}
use Rattle.element_core.proofs.Look.{all_at, in_table}
use Rattle.element_core.proofs.PieceLemmas.{from_left}
use Rattle.element_core.proofs.Canonical.{elements_are}

or_right : (x y : Bool) → y ≡ true → (x || y) ≡ true
or_right true y h = refl
or_right false y h = h

or_left : (x y : Bool) → x ≡ true → (x || y) ≡ true
or_left x y h = rw h refl

digit_is_character : (b : ℕ) → is_digit b ≡ true → is_character b ≡ true
digit_is_character b h =
    let p = and_parts (leb 48 b) (leb b 57) h in
    let low = leb-true 48 b p.0 in
    let high = leb-true b 57 p.1 in
    let inside : is_in_range 37 63 b ≡ true = and_from (leb 37 b) (leb b 63) (le-leb 37 b (omega arith)) (le-leb b 63 (omega arith)) in
    or_left _ _ (or_left _ _ (or_left _ _ (or_right (is_in_range 33 34 b) (is_in_range 37 63 b) inside)))

character_is_value_byte : (b : ℕ) → is_character b ≡ true → is_value_byte b ≡ true
character_is_value_byte b h = or_left (is_character b) (eqb b 35) h

-- a byte of one of the ranges
between_is_character : (low high b : ℕ) → 37 ≤ low → high ≤ 63 → is_in_range low high b ≡ true → is_character b ≡ true
between_is_character low high b from to h =
    let p = and_parts (leb low b) (leb b high) h in
    let a = leb-true low b p.0 in
    let z = leb-true b high p.1 in
    let inside : is_in_range 37 63 b ≡ true = and_from (leb 37 b) (leb b 63) (le-leb 37 b (omega arith)) (le-leb b 63 (omega arith)) in
    or_left _ _ (or_left _ _ (or_left _ _ (or_right (is_in_range 33 34 b) (is_in_range 37 63 b) inside)))

one_is_character : (b c : ℕ) → eqb b c ≡ true → is_character c ≡ true → is_character b ≡ true
one_is_character b c here h = rw (eqb-true b c here) h

capital_is_character : (b : ℕ) → is_in_range 65 90 b ≡ true → is_character b ≡ true
capital_is_character b h = or_left _ _ (or_left _ _ (or_right (is_in_range 33 34 b || is_in_range 37 63 b) (is_in_range 65 90 b) h))

small_is_character : (b : ℕ) → is_in_range 97 122 b ≡ true → is_character b ≡ true
small_is_character b h = or_right (is_in_range 33 34 b || is_in_range 37 63 b || is_in_range 65 90 b || eqb b 95) (is_in_range 97 122 b) h

either : (x y : Bool) (P : Type 0) → (x ≡ true → P) → (y ≡ true → P) → (x || y) ≡ true → P
either x y P f g h = elim (or_cases x y h) [ inl a ↦ f a | inr a ↦ g a ]

upper_is_character : (b : ℕ) → is_capital_or_digit b ≡ true → is_character b ≡ true
upper_is_character b h = either (is_digit b) (is_in_range 65 90 b) (is_character b ≡ true) (digit_is_character b) (capital_is_character b) h

of_64_is_character : (b : ℕ) → is_of_64 b ≡ true → is_character b ≡ true
of_64_is_character b h =
    either (eqb b 45) _ (is_character b ≡ true) (λ e. one_is_character b 45 e refl)
    (either (is_digit b) _ (is_character b ≡ true) (digit_is_character b)
    (either (is_in_range 65 90 b) _ (is_character b ≡ true) (capital_is_character b)
    (either (eqb b 95) (is_in_range 97 122 b) (is_character b ≡ true) (λ e. one_is_character b 95 e refl) (small_is_character b)))) h

component_is_value_byte : (b : ℕ) → belongs Component b ≡ true → is_value_byte b ≡ true
component_is_value_byte b h =
    either (eqb b 35) _ (is_value_byte b ≡ true) (or_right (is_character b) (eqb b 35))
    (λ k. character_is_value_byte b (either (eqb b 45) _ (is_character b ≡ true) (λ e. one_is_character b 45 e refl)
    (either (eqb b 47) (is_capital_or_digit b) (is_character b ≡ true) (λ e. one_is_character b 47 e refl) (upper_is_character b)) k)) h

belongs_is_value_byte : (format : PartFormat) (b : ℕ) → belongs format b ≡ true → is_value_byte b ≡ true
belongs_is_value_byte Numeric b h = character_is_value_byte b (digit_is_character b h)
belongs_is_value_byte Alphanumeric b h = character_is_value_byte b h
belongs_is_value_byte Component b h = component_is_value_byte b h
belongs_is_value_byte Base64Url b h =
    character_is_value_byte b
    (either (eqb b 61) (is_of_64 b) (is_character b ≡ true) (λ e. one_is_character b 61 e refl) (of_64_is_character b) h)
belongs_is_value_byte Capitals b h = character_is_value_byte b (upper_is_character b h)
belongs_is_value_byte YesNo b h = character_is_value_byte b (between_is_character 48 49 b (omega arith) (omega arith) h)
belongs_is_value_byte Winding b h =
    character_is_value_byte b
    (either (is_in_range 48 49 b) (eqb b 57) (is_character b ≡ true) (between_is_character 48 49 b (omega arith) (omega arith))
    (λ e. one_is_character b 57 e refl) h)
belongs_is_value_byte Sex b h =
    character_is_value_byte b
    (either (is_in_range 48 50 b) (eqb b 57) (is_character b ≡ true) (between_is_character 48 50 b (omega arith) (omega arith))
    (λ e. one_is_character b 57 e refl) h)
belongs_is_value_byte Zero b h = character_is_value_byte b (one_is_character b 48 h refl)
belongs_is_value_byte Hyphen b h = character_is_value_byte b (one_is_character b 45 h refl)
belongs_is_value_byte Importer b h = character_is_value_byte b (of_64_is_character b h)

pub all_weaker : (p q : ℕ → Bool) → ((b : ℕ) → p b ≡ true → q b ≡ true) → (v : List ℕ) → list_all p v ≡ true → list_all q v ≡ true
all_weaker p q f [] h = refl
all_weaker p q f (b ∷ v) h = let k = and_parts (p b) (list_all p v) h in and_from (q b) (list_all q v) (f b k.0) (all_weaker p q f v k.1)

all-append : (q : ℕ → Bool) (a b : List ℕ) → list_all q a ≡ true → list_all q b ≡ true → list_all q (a ++ b) ≡ true
all-append q [] b h k = k
all-append q (x ∷ a) b h k = let p = and_parts (q x) (list_all q a) h in and_from (q x) (list_all q (a ++ b)) p.0 (all-append q a b p.1 k)

pub value_letters : (parts : List Part) (v : List ℕ) → length v ≤ greatest_of parts → each_part has_characters parts v ≡ true → list_all is_value_byte v ≡ true
value_letters [] v le h = rw (nil_from_length v (omega arith)) refl
value_letters (p ∷ parts) v le h =
    let q = and_parts (has_characters p (take p.greatest v)) (each_part has_characters parts (drop p.greatest v)) h in
    let short : length (drop p.greatest v) ≤ greatest_of parts = omega (arith, length-drop p.greatest v) in
    let both = all-append is_value_byte (take p.greatest v) (drop p.greatest v)
    (all_weaker (belongs p.format) is_value_byte (belongs_is_value_byte p.format) (take p.greatest v)
    (and_parts (list_all (belongs p.format) (take p.greatest v)) (follows p.rule (take p.greatest v)) q.0).0) (value_letters parts (drop p.greatest v) short q.1)
    in
    subst (λ (w : List ℕ). list_all is_value_byte w ≡ true) (take-append-drop p.greatest v) both

text_byte : (b : ℕ) → is_value_byte b ≡ true → is_text_byte b ≡ true
text_byte b h = or_right (eqb b 29) (is_value_byte b) h

pub element_letters : (year : Terms) (e : Entry) → (row : Row) × IsElement (rows_by year) year.year row e → list_all is_text_byte (e.ai ++ e.value) ≡ true
element_letters year e (row, is) =
    let digits = (and_parts (leb 2 (length row.ai)) (list_all is_digit row.ai) (all_at is_of_digits every_row row (in_table year row is.listed) each_is_of_digits)).1 in
    let ai = subst (λ (a : List ℕ). list_all is_text_byte a ≡ true) (sym is.ai)
    (all_weaker is_digit is_text_byte (λ b h. text_byte b (character_is_value_byte b (digit_is_character b h))) row.ai digits) in
    let fits = is.value in
    all-append is_text_byte e.ai e.value ai (all_weaker is_value_byte is_text_byte text_byte e.value
    (value_letters row.parts e.value fits.greatest fits.characters))

pub canonical_letters : (year : Terms) (es : List Entry) → AreElements year es → list_all is_text_byte (canonical es) ≡ true
canonical_letters year [] are = refl
canonical_letters year (e ∷ []) are = element_letters year e are.0
canonical_letters year (e ∷ f ∷ es) are =
    all-append is_text_byte (e.ai ++ e.value ++ separator_for e) (canonical (f ∷ es))
    (all-append is_text_byte (e.ai ++ e.value) (separator_for e) (element_letters year e are.0) (gap_letters e)) (canonical_letters year (f ∷ es) are.1)
  where
    gap_letters : (e : Entry) → list_all is_text_byte (separator_for e) ≡ true
    gap_letters e = elim (is_some (predefined_length e.ai)) as (λ p. list_all is_text_byte (cond p [] (29 ∷ [])) ≡ true) [ true ↦ refl | false ↦ refl ]

two_digits : (ai more : List ℕ) → 2 ≤ length ai → list_all is_digit ai ≡ true → begins_with_digits (ai ++ more) ≡ true
two_digits [] more two h = absurd (omega arith)
two_digits (a ∷ []) more two h = absurd (omega arith)
two_digits (a ∷ b ∷ ai) more two h =
    let p = and_parts (is_digit a) (list_all is_digit (b ∷ ai)) h in
    and_from (is_digit a) (is_digit b) p.0 (and_parts (is_digit b) (list_all is_digit ai) p.1).0

front_digits : (year : Terms) (e : Entry) (more : List ℕ) → (row : Row) × IsElement (rows_by year) year.year row e → begins_with_digits (e.ai ++ more) ≡ true
front_digits year e more (row, is) =
    let p = and_parts (leb 2 (length row.ai)) (list_all is_digit row.ai) (all_at is_of_digits every_row row (in_table year row is.listed) each_is_of_digits) in
    subst (λ (a : List ℕ). begins_with_digits (a ++ more) ≡ true) (sym is.ai) (two_digits row.ai more (leb-true 2 (length row.ai) p.0) p.1)

-- a canonical text is separators and characters, and begins with two digits
pub canonical_printable : (year : Terms) (e : Entry) (es : List Entry) → AreElements year (e ∷ es) → is_printable (canonical (e ∷ es)) ≡ true
canonical_printable year e [] are = and_from _ _ (canonical_letters year (e ∷ []) are) (front_digits year e e.value are.0)
canonical_printable year e (f ∷ es) are =
    let c = canonical (f ∷ es) in
    let parts : canonical (e ∷ f ∷ es) ≡ e.ai ++ (e.value ++ (separator_for e ++ c)) =
    append_assoc (e.ai ++ e.value) (separator_for e) c ∙ append_assoc e.ai e.value (separator_for e ++ c) in
    and_from _ _ (canonical_letters year (e ∷ f ∷ es) are) (ap begins_with_digits parts ∙ front_digits year e (e.value ++ (separator_for e ++ c)) are.0)

pub listing_printable : (year : Terms) (text : List ℕ) (es : List Entry) → IsElements year text es → text ≡ canonical es → is_printable text ≡ true
listing_printable year text [] is text_is = absurd (let some = is.some in omega (arith, ap length text_is))
listing_printable year text (e ∷ es) is text_is = ap is_printable text_is
    ∙ canonical_printable year e es (elements_are year text (e ∷ es) [] (from_left year text (e ∷ es) [] is.reads))

below_128 : (b : ℕ) → is_text_byte b ≡ true → b < 128
below_128 b h =
    elim (cases_lt b 128) [
      | inl lt ↦ lt
      | inr le ↦ absurd (let k = rw (
        ne_eqb b 29 (omega arith),
        ne_eqb b 35 (omega arith),
        ne_eqb b 95 (omega arith),
        lt-leb b 34 (omega arith),
        lt-leb b 63 (omega arith),
        lt-leb b 90
            (omega arith),
        lt-leb b 122 (omega arith),
        le-leb 33 b (omega arith),
        le-leb 37 b (omega arith),
        le-leb 65 b (omega arith),
        le-leb 97 b (omega arith),
      )
          at h in cc)
    ]

pub ascii_by : (text : List ℕ) → list_all is_text_byte text ≡ true → AllByRecursion (λ b. b < 128) text
ascii_by [] h = tt
ascii_by (b ∷ text) h = let p = and_parts (is_text_byte b) (list_all is_text_byte text) h in (below_128 b p.0, ascii_by text p.1)
