-- The element at the front of a text, and the fault in its place.
use Rattle.std.proofs.Common.{◌≡◌, ℕ, ◌≤◌, Bool, true, false, cond, ltb, not, ◌||◌, List, ◌++◌, length, take, drop, Option, Some, None, refl, sym, ap, subst, ◌∙◌, append_assoc, arith, length-append}
use Rattle.std.proofs.lemmas.Bool.{ltb-false, le-ltb, not-false}
use Rattle.std.proofs.lemmas.List.{take-append-drop, drop_at, take_at, length-take-le}
use Rattle.element_core.specs.declared.fault.ElementFault.{ElementFault}
use Rattle.element_core.specs.declared.fault.ElementFault.TheVariants.{ValueLength, ValueCharacter, ValueCheckDigit, ValueDate, MissingSeparator}
use Rattle.element_core.specs.Terms.{Terms, row_by_terms}
use Rattle.element_core.specs.Table.{Row, begins, row_at, least_of, greatest_of}
use Rattle.element_core.specs.Elements.{Entry, IsValue, each_part, has_characters, has_check_digit, has_whole_steps, field_of, value_in, row_fault, fault_by}
use Rattle.element_core.specs.inner.Elements.{fault_at}
use Rattle.element_core.specs.inner.PartTests.{has_date}
use Rattle.element_core.specs.Fronts.{Begins, ends_element, after_separator}
use Rattle.element_core.specs.Shown.{shown_value, shown_rest}
use Rattle.element_core.proofs.Look.{begins-append, begins-split, row_found, in_table, read_row_found, read_row_is, predefined_length_is}
use Rattle.element_core.proofs.Fields.{value_plain, value_in_field, field_splits}

-- a test that gave no fault
pub passes : (b : Bool) (f : ElementFault) (x : Option ElementFault) → cond b (Some f) x ≡ None → (b ≡ false) × (x ≡ None)
passes true f x e = absurd cc
passes false f x e = (refl, e)

pub fits_no_fault : (year place : ℕ) (long : ElementFault) (row : Row) (v : List ℕ) → IsValue year row.parts v → row_fault year place long row.parts v ≡ None
fits_no_fault year place long row v fits =
    let steps = fits.steps in
    let characters = fits.characters in
    let check_digits = fits.check_digits in
    let dates = fits.dates in
    rw (le-ltb (length v) (least_of row.parts) fits.least, le-ltb (greatest_of row.parts) (length v) fits.greatest, steps, characters, check_digits, dates) refl

pub no_fault_fits : (year place : ℕ) (long : ElementFault) (row : Row) (v : List ℕ) → row_fault year place long row.parts v ≡ None → IsValue year row.parts v
no_fault_fits year place long row v e =
    let p = passes (ltb (length v) (least_of row.parts)) (ValueLength place) _ e in
    let q = passes (ltb (greatest_of row.parts) (length v)) long _ p.1 in
    let o = passes (not (each_part has_whole_steps row.parts v)) (ValueLength place) _ q.1 in
    let r = passes (not (each_part has_characters row.parts v)) (ValueCharacter place) _ o.1 in
    let s = passes (not (each_part has_check_digit row.parts v)) (ValueCheckDigit place) _ r.1 in
    let t = passes (not (each_part (has_date year) row.parts v)) (ValueDate place) _ s.1 in
    record {
      least = ltb-false _ _ p.0;
      greatest = ltb-false _ _ q.0;
      steps = not-false _ o.0;
      characters = not-false _ r.0;
      check_digits = not-false _ s.0;
      dates = not-false _ t.0;
    }

pub record Shows (year : Terms) (e : Entry) (text rest : List ℕ) : Type 0 where
  pub row : Row
  pub row_is : row_at text ≡ Some row
  pub read_row : row_by_terms year text ≡ Some row
  pub ai_is : e.ai ≡ row.ai
  pub value_is : e.value ≡ shown_value row text
  pub rest_is : rest ≡ shown_rest row text
  pub no_fault : (place : ℕ) → fault_at year place text ≡ None

-- what begins a text is what it shows
pub shows : (year : Terms) (e : Entry) (text rest : List ℕ) → Begins year e text rest → Shows year e text rest
shows year e text rest b =
    let row = b.row in
    let ends = b.closed in
    let parts : text ≡ row.ai ++ (e.value ++ b.after) = b.text_is ∙ append_assoc e.ai e.value b.after
    ∙ ap (λ (a : List ℕ). a ++ (e.value ++ b.after)) b.element.ai in
    let left : drop (length row.ai) text ≡ e.value ++ b.after = ap (drop (length row.ai)) parts ∙ drop_at row.ai (e.value ++ b.after) (length row.ai) refl in
    let row_is : row_at text ≡ Some row = row_found row text (in_table year row b.element.listed) (ap (begins row.ai) parts ∙ begins-append row.ai (e.value ++ b.after)) in
    let read : row_by_terms year text ≡ Some row = read_row_found year row text b.element.listed (ap (begins row.ai) parts ∙ begins-append row.ai (e.value ++ b.after)) in
    let fits = b.element.value in
    let value_is : shown_value row text ≡ e.value = ap (λ (t : List ℕ). value_in row (field_of t)) left
    ∙ value_in_field row e.value b.after (predefined_length_is row (in_table year row b.element.listed)) fits.least fits.greatest
    (value_plain row.parts e.value fits.greatest fits.characters) ends in
    let after_is : drop (length (shown_value row text)) (drop (length row.ai) text) ≡ b.after =
    ap (λ (v : List ℕ). drop (length v) (drop (length row.ai) text)) value_is ∙ ap (drop (length e.value)) left
    ∙ drop_at e.value b.after (length e.value) refl in
    record {
      row = row;
      row_is = row_is;
      read_row = read;
      ai_is = b.element.ai;
      value_is = sym value_is;
      rest_is = b.rest_is ∙ ap after_separator (sym after_is);
      no_fault = λ place. ap (fault_by year place text) read ∙ ap (row_fault year.year place (MissingSeparator place) row.parts) value_is
          ∙ fits_no_fault year.year place (MissingSeparator place) row e.value fits;
    }

-- a value that is shown stands at the front of what follows the AI
value_splits : (row : Row) (text : List ℕ) → (after : List ℕ) × (text ≡ value_in row (field_of text) ++ after) × ((row.predefined || ends_element after) ≡ true)
value_splits row text =
    let f = field_splits text in
    elim row.predefined as (λ p. (after : List ℕ) × (text ≡ cond p (take (greatest_of row.parts) (field_of text)) (field_of text) ++ after)
    × ((p || ends_element after) ≡ true)) [
      | true ↦ (
        drop (greatest_of row.parts) (field_of text) ++ f.0,
        f.1
            ∙ ap (λ (w : List ℕ). w ++ f.0) (sym (take-append-drop (greatest_of row.parts) (field_of text)))
            ∙ append_assoc (take (greatest_of row.parts) (field_of text)) (drop (greatest_of row.parts) (field_of text)) f.0,
        refl,
      )
      | false ↦ (f.0, f.1, f.2)
    ]

-- a text without a fault at its front begins with what it shows
pub stands : (year : Terms) (place : ℕ) (row : Row) (text : List ℕ) → row_by_terms year text ≡ Some row → fault_at year place text ≡ None
    → Begins year (record { ai = row.ai; value = shown_value row text }) text (shown_rest row text)
stands year place row text found none =
    let r = read_row_is year row text found in
    let tail = drop (length row.ai) text in
    let s = value_splits row tail in
    let fits = no_fault_fits year.year place (MissingSeparator place) row (shown_value row text) (sym (ap (fault_by year place text) found) ∙ none) in
    let after_is : drop (length (shown_value row text)) tail ≡ s.0 =
    ap (drop (length (shown_value row text))) s.1 ∙ drop_at (shown_value row text) s.0 (length (shown_value row text)) refl in
    record {
      row = row;
      element = record { listed = r.0; ai = refl; value = fits };
      after = s.0;
      text_is = begins-split row.ai text r.1 ∙ ap (λ (t : List ℕ). row.ai ++ t) s.1 ∙ sym (append_assoc row.ai (shown_value row text) s.0);
      closed = s.2;
      rest_is = ap after_separator after_is;
    }

pub take-shown : (row : Row) (text : List ℕ) → take (length (value_in row (field_of text))) text ≡ value_in row (field_of text)
take-shown row text =
    let s = value_splits row text in
    ap (take (length (value_in row (field_of text)))) s.1 ∙ take_at (value_in row (field_of text)) s.0 (length (value_in row (field_of text))) refl

pub shown-within : (row : Row) (text : List ℕ) → length (value_in row (field_of text)) ≤ length text
shown-within row text =
    let s = value_splits row text in
    omega (arith, ap length s.1, length-append (value_in row (field_of text)) s.0)

pub record IsShown (row : Row) (text ai value rest : List ℕ) : Type 0 where
  pub ai_is : ai ≡ row.ai
  pub value_is : value ≡ shown_value row text
  pub rest_is : rest ≡ shown_rest row text

-- what a text shows, as the code finds it
pub shown_as : (n : ℕ) (row : Row) (text ai tail value rest : List ℕ) → n ≤ length text → row.ai ≡ take n text → ai ≡ take n text → tail ≡ drop n text
    → value ≡ value_in row (field_of tail) → rest ≡ after_separator (drop (length value) tail) → IsShown row text ai value rest
shown_as n row text ai tail value rest within row_ai ai_is tail_is value_is rest_is =
    let len : length row.ai ≡ n = ap length row_ai ∙ length-take-le n text within in
    let left : tail ≡ drop (length row.ai) text = tail_is ∙ ap (λ (k : ℕ). drop k text) (sym len) in
    let shown : value ≡ shown_value row text = value_is ∙ ap (λ (t : List ℕ). value_in row (field_of t)) left in
    record {
      ai_is = ai_is ∙ sym row_ai;
      value_is = shown;
      rest_is = rest_is ∙ ap (λ (v : List ℕ). after_separator (drop (length v) tail)) shown
          ∙ ap (λ (t : List ℕ). after_separator (drop (length (shown_value row text)) t)) left;
    }

moved : (year : Terms) (text a b v w r t : List ℕ) → a ≡ b → v ≡ w → r ≡ t → Begins year (record { ai = a; value = v }) text r
    → Begins year (record { ai = b; value = w }) text t
moved year text a b v w r t p q e x =
    subst (λ (z : List ℕ). Begins year (record { ai = b; value = w }) text z) e
    (subst (λ (z : List ℕ). Begins year (record { ai = b; value = z }) text r) q
    (subst (λ (z : List ℕ). Begins year (record { ai = z; value = v }) text r) p x))

-- what it shows begins it, where the value has no fault
pub stands_as : (year : Terms) (place : ℕ) (row : Row) (text ai value rest : List ℕ) → row_by_terms year text ≡ Some row → IsShown row text ai value rest
    → row_fault year.year place (MissingSeparator place) row.parts value ≡ None → Begins year (record { ai = ai; value = value }) text rest
stands_as year place row text ai value rest found is none =
    let no_fault : fault_at year place text ≡ None = ap (fault_by year place text) found
    ∙ ap (row_fault year.year place (MissingSeparator place) row.parts) (sym is.value_is) ∙ none in
    moved year text row.ai ai (shown_value row text) value (shown_rest row text) rest (sym is.ai_is) (sym is.value_is) (sym is.rest_is)
    (stands year place row text found no_fault)
