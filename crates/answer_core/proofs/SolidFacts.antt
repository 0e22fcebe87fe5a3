-- Texts of bytes of values alone have no gaps.
use Rattle.std.proofs.Common.{◌≡◌, ◌∙◌, ◌-◌, ◌<◌, ◌≤◌, ◌&&◌, ℕ, Bool, true, false, eqb, List, [], ◌∷◌, ap, arith, get_or, inl, inr, length, refl, sym}
use Rattle.std.specs.List.{list_all}
use Rattle.std.proofs.lemmas.Bool.{and_parts, cases_lt, cond_both, le-leb, lt-leb, ne_eqb, true≢false}
use Rattle.std.proofs.lemmas.Grind.{common_steps}
use Rattle.std.proofs.lemmas.List.Elements.{Contains-get_or}
use Rattle.element_core.specs.Elements.{is_digit, is_value_byte}
use Rattle.element_core.proofs.Look.{all_at}
use Rattle.answer_core.specs.Gaps.{before_gaps, behind_gaps, gap_length, is_byte_gap, is_general_gap, is_three_byte_gap, without_gaps, kept_in, last_gap_length, trimmed}
use Rattle.answer_core.specs.Printed.{printed_value}
use Rattle.answer_core.specs.declared.gap.GapPlace.{GapPlace}
use Rattle.answer_core.specs.declared.gap.GapPlace.TheVariants.{Ends, Value}
use Rattle.answer_core.proofs.GapFacts.{back_ends, byte_kept, front_ends}

below : (b : ℕ) → b < 33 → is_value_byte b ≡ false
below b low = rw (lt-leb 33 b low, lt-leb 37 b (omega arith), lt-leb 65 b (omega arith), lt-leb 97 b (omega arith), ne_eqb b 95 (λ e. omega arith), ne_eqb b 35 (λ e. omega arith)) refl

above : (b : ℕ) → 122 < b → is_value_byte b ≡ false
above b high =
    rw (
      le-leb 33 b (omega arith),
      lt-leb b 34 (omega arith),
      le-leb 37 b (omega arith),
      lt-leb b 63 (omega arith),
      le-leb 65 b (omega arith),
      lt-leb b 90 (omega arith),
      le-leb 97 b (omega arith),
      lt-leb b 122 high,
      ne_eqb b 95 (λ e. omega arith),
      ne_eqb b 35 (λ e. omega arith),
    ) refl

pub solid : (b : ℕ) → is_value_byte b ≡ true → (33 ≤ b) × (b ≤ 122)
solid b is =
    elim (cases_lt b 33) [
      | inl low ↦ absurd (true≢false (sym is ∙ below b low))
      | inr from ↦ elim (cases_lt 122 b) [
        | inl high ↦ absurd (true≢false (sym is ∙ above b high))
        | inr to ↦ (from, to)
      ]
    ]

pub digit_is_solid : (b : ℕ) → is_digit b ≡ true → is_value_byte b ≡ true
digit_is_solid b is = grind (arith, common_steps)

-- a place where hyphens are no gaps
data IsSolidPlace : GapPlace → Type 0 where
  at_ends : IsSolidPlace Ends
  in_value : IsSolidPlace Value

no_byte_gap : (place : GapPlace) (b : ℕ) → IsSolidPlace place → 33 ≤ b → b ≤ 122 → is_byte_gap place b ≡ false
no_byte_gap place b at_ends from to =
    rw (le-leb 9 b (omega arith), lt-leb b 13 (omega arith), le-leb 30 b (omega arith), lt-leb b 32 (omega arith), ne_eqb b 28 (λ e. omega arith)) refl
no_byte_gap place b in_value from to =
    rw (le-leb 9 b (omega arith), lt-leb b 13 (omega arith), le-leb 30 b (omega arith), lt-leb b 32 (omega arith), ne_eqb b 28 (λ e. omega arith), ne_eqb b 29 (λ e. omega arith)) refl

-- a text that begins with such a byte has no gap at its front
front_solid : (place : GapPlace) (b : ℕ) (text : List ℕ) → IsSolidPlace place → 33 ≤ b → b ≤ 122 → gap_length place (b ∷ text) ≡ 0
unfolding gap_length
front_solid place b text is from to =
    rw (no_byte_gap place b is from to, ne_eqb b 194 (λ e. omega arith), ne_eqb b 226 (λ e. omega arith), ne_eqb b 225 (λ e. omega arith), ne_eqb b 227 (λ e. omega arith)) refl

none_both : (x y : Bool) → (x && (y && false)) ≡ false
none_both true true = refl
none_both true false = refl
none_both false y = refl

none_one : (x : Bool) → (x && false) ≡ false
none_one true = refl
none_one false = refl

no_general_gap : (place : GapPlace) (c : ℕ) → IsSolidPlace place → c ≤ 122 → is_general_gap place c ≡ false
no_general_gap place c at_ends to =
    rw (lt-leb 128 c (omega arith), ne_eqb c 168 (λ e. omega arith), ne_eqb c 169 (λ e. omega arith), ne_eqb c 175 (λ e. omega arith)) refl
no_general_gap place c in_value to =
    rw (lt-leb 128 c (omega arith), ne_eqb c 168 (λ e. omega arith), ne_eqb c 169 (λ e. omega arith), ne_eqb c 175 (λ e. omega arith)) refl

no_three : (place : GapPlace) (a b c : ℕ) → IsSolidPlace place → c ≤ 122 → is_three_byte_gap place a b c ≡ false
no_three place a b c is to =
    rw (
      no_general_gap place c is to,
      ne_eqb c 128 (λ e. omega arith),
      ne_eqb c 159 (λ e. omega arith),
      none_both (eqb a 226) (eqb b 128),
      none_both (eqb a 225) (eqb b 154),
      none_both (eqb a 226) (eqb b 129),
      none_both (eqb a 227) (eqb b 128),
    ) refl

-- a text that ends with such a byte has no gap at its end
back_solid : (place : GapPlace) (text : List ℕ) → IsSolidPlace place → 33 ≤ get_or text (length text - 1) 0 → get_or text (length text - 1) 0 ≤ 122
    → last_gap_length place text ≡ 0
unfolding last_gap_length
back_solid place text is from to =
    let c = get_or text (length text - 1) 0 in
    let b = get_or text (length text - 2) 0 in
    rw (
      no_byte_gap place c is from to,
      ne_eqb c 133 (λ e. omega (arith, e, to)),
      ne_eqb c 160 (λ e. omega (arith, e, to)),
      none_one (eqb b 194),
      no_three place (get_or text (length text - 3) 0) b c is to,
    ) refl

-- ---- texts

behind_solid : (place : GapPlace) (text : List ℕ) → IsSolidPlace place → list_all is_value_byte text ≡ true → behind_gaps place text ≡ text
behind_solid place [] is all = refl
behind_solid place (b ∷ text) is all =
    let range = solid b (and_parts (is_value_byte b) (list_all is_value_byte text) all).0 in
    front_ends (length (b ∷ text)) place (b ∷ text) (front_solid place b text is range.0 range.1)

before_solid : (place : GapPlace) (text : List ℕ) → IsSolidPlace place → list_all is_value_byte text ≡ true → before_gaps place text ≡ text
before_solid place [] is all = refl
before_solid place (b ∷ text) is all =
    let whole = b ∷ text in
    let last : length whole - 1 < length whole = omega arith in
    let range = solid (get_or whole (length whole - 1) 0) (all_at is_value_byte whole (get_or whole (length whole - 1) 0) (Contains-get_or whole (length whole - 1) 0 last) all) in
    back_ends (length whole) place whole (back_solid place whole is range.0 range.1)

trimmed_solid : (place : GapPlace) (text : List ℕ) → IsSolidPlace place → list_all is_value_byte text ≡ true → trimmed place text ≡ text
trimmed_solid place text is all = ap (before_gaps place) (behind_solid place text is all) ∙ before_solid place text is all

kept_solid : (place : GapPlace) (text : List ℕ) → IsSolidPlace place → list_all is_value_byte text ≡ true → kept_in (length text) place text ≡ text
kept_solid place [] is all = refl
kept_solid place (b ∷ text) is all =
    let parts = and_parts (is_value_byte b) (list_all is_value_byte text) all in
    let range = solid b parts.0 in
    byte_kept (length text) place b text (front_solid place b text is range.0 range.1) ∙ ap (λ (t : List ℕ). b ∷ t) (kept_solid place text is parts.1)

pub trimmed_ends : (text : List ℕ) → list_all is_value_byte text ≡ true → trimmed Ends text ≡ text
trimmed_ends text all = trimmed_solid Ends text at_ends all

pub value_solid : (text : List ℕ) → list_all is_value_byte text ≡ true → printed_value text ≡ text
value_solid text all =
    cond_both (list_all is_digit (without_gaps Value text)) (without_gaps Value text) (trimmed Value text) (λ t. t ≡ text)
    (λ _. kept_solid Value text in_value all) (λ _. trimmed_solid Value text in_value all)
