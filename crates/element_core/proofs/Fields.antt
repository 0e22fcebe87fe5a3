-- The value that stands in a field.
use Rattle.std.proofs.Common.{◌≡◌, ℕ, ◌≤◌, Bool, true, false, cond, eqb, not, ◌||◌, List, [], ◌∷◌, ◌++◌, length, take, drop, refl, ap, subst, arith, inl, inr, length-drop}
use Rattle.std.specs.List.{list_all}
use Rattle.std.proofs.lemmas.Bool.{and_parts, and_from, ne_eqb, cases_eq, not-true}
use Rattle.std.proofs.lemmas.List.{take-append-drop, append-nil, nil_from_length, take_at}
use Rattle.element_core.specs.declared.part.Part.{Part}
use Rattle.element_core.specs.declared.part.PartFormat.{PartFormat}
use Rattle.element_core.specs.declared.part.PartFormat.TheVariants.{Numeric, Alphanumeric, Component, Base64Url, Capitals, YesNo, Winding, Sex, Zero, Hyphen, Importer}
use Rattle.element_core.specs.Table.{Row, least_of, greatest_of}
use Rattle.element_core.specs.Elements.{belongs, has_characters, each_part, field_of, value_in}
use Rattle.element_core.specs.Fronts.{ends_element}
use Rattle.element_core.specs.Rules.{follows}

-- no byte is a separator
abbrev pub is_plain : List ℕ → Bool
is_plain v = list_all (λ b. not (eqb b 29)) v

no_separator : (format : PartFormat) → belongs format 29 ≡ false
no_separator Numeric = refl
no_separator Alphanumeric = refl
no_separator Component = refl
no_separator Base64Url = refl
no_separator Capitals = refl
no_separator YesNo = refl
no_separator Winding = refl
no_separator Sex = refl
no_separator Zero = refl
no_separator Hyphen = refl
no_separator Importer = refl

belongs_plain : (format : PartFormat) (b : ℕ) → belongs format b ≡ true → not (eqb b 29) ≡ true
belongs_plain format b h =
    elim (cases_eq b 29) [
      | inl e ↦ absurd (let f = rw e at h in let g = no_separator format in cc)
      | inr ne ↦ rw (ne_eqb b 29 ne) refl
    ]

all_plain : (format : PartFormat) (v : List ℕ) → list_all (belongs format) v ≡ true → is_plain v ≡ true
all_plain format [] h = refl
all_plain format (b ∷ v) h =
    let p = and_parts (belongs format b) (list_all (belongs format) v) h in
    and_from (not (eqb b 29)) (is_plain v) (belongs_plain format b p.0) (all_plain format v p.1)

is_plain-append : (a b : List ℕ) → is_plain a ≡ true → is_plain b ≡ true → is_plain (a ++ b) ≡ true
is_plain-append [] b h k = k
is_plain-append (x ∷ a) b h k =
    let p = and_parts (not (eqb x 29)) (is_plain a) h in
    and_from (not (eqb x 29)) (is_plain (a ++ b)) p.0 (is_plain-append a b p.1 k)

pub value_plain : (parts : List Part) (v : List ℕ) → length v ≤ greatest_of parts → each_part has_characters parts v ≡ true → is_plain v ≡ true
value_plain [] v le h = rw (nil_from_length v (omega arith)) refl
value_plain (p ∷ parts) v le h =
    let q = and_parts (has_characters p (take p.greatest v)) (each_part has_characters parts (drop p.greatest v)) h in
    let short : length (drop p.greatest v) ≤ greatest_of parts = omega (arith, length-drop p.greatest v) in
    let both = is_plain-append (take p.greatest v) (drop p.greatest v) (all_plain p.format (take p.greatest v) (and_parts (list_all (belongs p.format) (take p.greatest v)) (follows p.rule (take p.greatest v)) q.0).0)
    (value_plain parts (drop p.greatest v) short q.1) in
    subst (λ (w : List ℕ). is_plain w ≡ true) (take-append-drop p.greatest v) both

field_of-append : (v after : List ℕ) → is_plain v ≡ true → field_of (v ++ after) ≡ v ++ field_of after
field_of-append [] after h = refl
field_of-append (b ∷ v) after h =
    let p = and_parts (not (eqb b 29)) (is_plain v) h in
    let no = not-true (eqb b 29) p.0 in
    rw no (ap (λ (w : List ℕ). b ∷ w) (field_of-append v after p.1))

field_of-closed : (after : List ℕ) → ends_element after ≡ true → field_of after ≡ []
field_of-closed [] h = refl
field_of-closed (b ∷ after) h = rw h refl

-- the value that a text shows between its AI and what is after it
pub value_in_field : (row : Row) (v after : List ℕ) → (row.predefined ≡ true → least_of row.parts ≡ greatest_of row.parts)
    → least_of row.parts ≤ length v → length v ≤ greatest_of row.parts → is_plain v ≡ true → (row.predefined || ends_element after) ≡ true
    → value_in row (field_of (v ++ after)) ≡ v
value_in_field row v after one least greatest plain ends =
    let split = field_of-append v after plain in
    elim row.predefined as (λ p. (p ≡ true → least_of row.parts ≡ greatest_of row.parts) → (p || ends_element after) ≡ true
    → cond p (take (greatest_of row.parts) (field_of (v ++ after))) (field_of (v ++ after)) ≡ v) [
      | true ↦ λ one _. rw split (take_at v (field_of after) (greatest_of row.parts) (let e = one refl in omega arith))
      | false ↦ λ _ ends. rw (split, field_of-closed after ends) (append-nil v)
    ] one ends

-- where a field ends a separator stands, or the text ends
pub field_splits : (text : List ℕ) → (after : List ℕ) × (text ≡ field_of text ++ after) × (ends_element after ≡ true)
field_splits [] = ([], refl, refl)
field_splits (b ∷ text) =
    elim (eqb b 29) as (λ t. eqb b 29 ≡ t → (after : List ℕ) × ((b ∷ text) ≡ cond t [] (b ∷ field_of text) ++ after) × (ends_element after ≡ true)) [
      | true ↦ λ here. (b ∷ text, refl, here)
      | false ↦ λ _. let more = field_splits text in (more.0, ap (λ (w : List ℕ). b ∷ w) more.1, more.2)
    ] refl
