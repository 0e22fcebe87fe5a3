-- What is printed of elements is read as these elements.
use Rattle.std.proofs.Common.{◌≡◌, ◌∙◌, ◌+◌, ◌≤◌, ℕ, suc, true, false, add-one, cond, eqb, List, [], ◌∷◌, ◌++◌, Option, Some, None, ap, ap₂, arith, drop, length, length-append, refl, sym, subst}
use Rattle.std.specs.Prelude.{is_some, not, option_map}
use Rattle.std.specs.List.{AllByRecursion, list_all}
use Rattle.std.proofs.lemmas.Bool.{and_from, and_parts, eq-eqb, le-leb, ne_eqb, or_parts, true≢false}
use Rattle.std.proofs.lemmas.List.{append-nil}
use Rattle.std.proofs.lemmas.List.Folds.{list_all-append}
use Rattle.element_core.specs.Elements.{Entry, IsElement, IsElements, canonical, hri, is_digit, is_value_byte, separator_for}
use Rattle.element_core.specs.Pairs.{FaultlessPairs, list_fault}
use Rattle.element_core.specs.Table.{Row, begins, every_row}
use Rattle.element_core.specs.Terms.{Terms, rows_by}
use Rattle.element_core.specs.inner.Elements.{AreElements}
use Rattle.element_core.specs.inner.Table.{is_of_digits}
use Rattle.element_core.proofs.Canonical.{elements_are}
use Rattle.element_core.proofs.Growth.{few_elements}
use Rattle.element_core.proofs.Letters.{all_weaker, value_letters}
use Rattle.element_core.proofs.Listed.{shown_some}
use Rattle.element_core.proofs.Look.{all_at, begins-append, in_table, row_found}
use Rattle.element_core.proofs.PieceLemmas.{from_left}
use Rattle.element_core.proofs.TableLaws.{each_is_of_digits}
use Rattle.message_core.specs.Links.{fits, fits_all}
use Rattle.answer_core.specs.Answers.{TellsElements}
use Rattle.answer_core.specs.Printed.{before_mark, begins_marked, closed, has_mark, is_known_ai, is_first_ai, mark_at, printed, printed_by, printed_entry, taken_of}
use Rattle.answer_core.specs.Reads.{IsUnnamed}
use Rattle.answer_core.specs.Texts.{ArePlain, IsKindAnswer, OnePrintedLine, PrintedRead, TellsPrinted, is_read, text_kind, marks_of}
use Rattle.answer_core.specs.declared.answer.Answer.{Answer}
use Rattle.answer_core.specs.declared.printed.Marks.{Marks}
use Rattle.answer_core.proofs.MarkFacts.{unmarked}
use Rattle.answer_core.proofs.SolidFacts.{digit_is_solid, trimmed_ends, value_solid}

abbrev m : Marks
m = marks_of 40 41 true

-- ---- an element

-- its AI is digits and in the table, and its value has bytes of values alone and no AI in parentheses
record IsClear (e : Entry) : Type 0 where
  digits : list_all is_digit e.ai ≡ true
  known : is_known_ai e.ai ≡ true
  bytes : list_all is_value_byte e.value ≡ true
  plain : has_mark m e.value ≡ false

known_ai : (terms : Terms) (e : Entry) (row : Row) → IsElement (rows_by terms) terms.year row e → is_known_ai e.ai ≡ true
known_ai terms e row is =
    let front : begins row.ai e.ai ≡ true = ap (begins row.ai) (is.ai ∙ sym (append-nil row.ai)) ∙ begins-append row.ai [] in
    ap (is_first_ai e.ai) (shown_some e.ai row (row_found row e.ai (in_table terms row is.listed) front)) ∙ eq-eqb (length row.ai) (length e.ai) (ap length (sym is.ai))

clear : (terms : Terms) (e : Entry) (row : Row) → IsElement (rows_by terms) terms.year row e → has_mark m e.value ≡ false → IsClear e
clear terms e row is plain =
    let digits : list_all is_digit row.ai ≡ true
    = (and_parts _ (list_all is_digit row.ai) (all_at is_of_digits every_row row (in_table terms row is.listed) each_is_of_digits)).1 in
    let fits = is.value in
    record {
      digits = ap (list_all is_digit) is.ai ∙ digits;
      known = known_ai terms e row is;
      bytes = value_letters row.parts e.value fits.greatest fits.characters;
      plain = plain;
    }

each_clear : (terms : Terms) (es : List Entry) → AreElements terms es → ArePlain es → AllByRecursion IsClear es
each_clear terms [] are plain = tt
each_clear terms (e ∷ es) are plain = (clear terms e are.0.0 are.0.1 plain.0, each_clear terms es are.1 plain.1)

all_clear : (terms : Terms) (es : List Entry) → IsElements terms (canonical es) es → ArePlain es → AllByRecursion IsClear es
all_clear terms es is plain = each_clear terms es (elements_are terms (canonical es) es [] (from_left terms (canonical es) es [] is.reads)) plain

-- ---- its AI between signs

other_digit : (b : ℕ) → is_digit b ≡ true → (eqb b 40 ≡ false) × (eqb b 41 ≡ false)
other_digit b is = (ne_eqb b 40 (λ e. true≢false (sym is ∙ ap is_digit e)), ne_eqb b 41 (λ e. true≢false (sym is ∙ ap is_digit e)))

closes : (ai value rest : List ℕ) → list_all is_digit ai ≡ true → closed 41 ((ai ++ (41 ∷ value)) ++ rest) ≡ Some ai
closes [] value rest digits = refl
closes (b ∷ ai) value rest digits =
    let parts = and_parts (is_digit b) (list_all is_digit ai) digits in
    rw ((other_digit b parts.0).1, parts.0) (ap (option_map (λ ds. b ∷ ds)) (closes ai value rest parts.1))

marked : (e : Entry) (rest : List ℕ) → IsClear e → mark_at m (40 ∷ ((e.ai ++ (41 ∷ e.value)) ++ rest)) ≡ Some e.ai
marked e rest is = ap (taken_of m) (closes e.ai e.value rest is.digits) ∙ ap (λ b. cond b (Some e.ai) None) is.known

-- what is behind a value closes nothing in it
same_closed : (value : List ℕ) (es : List Entry) → closed 41 (value ++ hri es) ≡ closed 41 value
same_closed [] [] = refl
same_closed [] (e ∷ es) = refl
same_closed (b ∷ value) es = ap (λ o. cond (eqb b 41) (Some []) (cond (is_digit b) (option_map (λ ds. b ∷ ds) o) None)) (same_closed value es)

same_mark : (b : ℕ) (value : List ℕ) (es : List Entry) → mark_at m (b ∷ (value ++ hri es)) ≡ mark_at m (b ∷ value)
same_mark b value es = ap (λ o. cond (eqb b 40) (taken_of m o) None) (same_closed value es)

-- ---- its value

up_to_next : (value : List ℕ) (es : List Entry) → has_mark m value ≡ false → AllByRecursion IsClear es → before_mark m (value ++ hri es) ≡ value
up_to_next [] [] plain are = refl
up_to_next [] (e ∷ es) plain are = rw (marked e (hri es) are.0) refl
up_to_next (b ∷ value) es plain are =
    let parts = or_parts (begins_marked m (b ∷ value)) (has_mark m value) plain in
    let none : begins_marked m (b ∷ (value ++ hri es)) ≡ false = ap is_some (same_mark b value es) ∙ parts.0 in
    unmarked m b (value ++ hri es) none ∙ ap (λ (t : List ℕ). b ∷ t) (up_to_next value es parts.1 are)

none_of : (o : Option (List ℕ)) → is_some o ≡ false → o ≡ None
none_of None is = refl
none_of (Some x) is = absurd (true≢false is)

skip_value : (value : List ℕ) (es : List Entry) → has_mark m value ≡ false → printed m (value ++ hri es) ≡ printed m (hri es)
skip_value [] es plain = refl
skip_value (b ∷ value) es plain =
    let parts = or_parts (begins_marked m (b ∷ value)) (has_mark m value) plain in
    ap (λ o. printed_by m (value ++ hri es) o (printed m (value ++ hri es))) (same_mark b value es ∙ none_of (mark_at m (b ∷ value)) parts.0)
    ∙ skip_value value es parts.1

skip_ai : (ai value : List ℕ) (es : List Entry) → list_all is_digit ai ≡ true → has_mark m value ≡ false
    → printed m ((ai ++ (41 ∷ value)) ++ hri es) ≡ printed m (hri es)
skip_ai [] value es digits plain = skip_value value es plain
skip_ai (b ∷ ai) value es digits plain =
    let parts = and_parts (is_digit b) (list_all is_digit ai) digits in
    rw (other_digit b parts.0).0 (skip_ai ai value es parts.1 plain)

behind_ai : (ai value rest : List ℕ) → drop (suc (length ai)) ((ai ++ (41 ∷ value)) ++ rest) ≡ value ++ rest
behind_ai [] value rest = refl
behind_ai (b ∷ ai) value rest = behind_ai ai value rest

-- ---- a list

printed_again : (es : List Entry) → AllByRecursion IsClear es → printed m (hri es) ≡ es
printed_again [] are = refl
printed_again (e ∷ es) are =
    let is = are.0 in
    let text = (e.ai ++ (41 ∷ e.value)) ++ hri es in
    let behind : drop (length e.ai + 1) text ≡ e.value ++ hri es = ap (λ n. drop n text) (add-one (length e.ai)) ∙ behind_ai e.ai e.value (hri es) in
    let value : before_mark m (drop (length e.ai + 1) text) ≡ e.value = ap (before_mark m) behind ∙ up_to_next e.value es is.plain are.1 in
    let entry : printed_entry e.ai (before_mark m (drop (length e.ai + 1) text)) ≡ e = ap (printed_entry e.ai) value ∙ ap (λ v. record { ai = e.ai; value = v }) (value_solid e.value is.bytes) in
    ap (λ o. printed_by m text o (printed m text)) (marked e (hri es) is)
    ∙ ap₂ (λ (x : Entry) (xs : List Entry). x ∷ xs) entry (skip_ai e.ai e.value es is.digits is.plain ∙ printed_again es are.1)

solid_line : (es : List Entry) → AllByRecursion IsClear es → list_all is_value_byte (hri es) ≡ true
solid_line [] are = refl
solid_line (e ∷ es) are =
    let is = are.0 in
    let value : list_all is_value_byte (41 ∷ e.value) ≡ true = is.bytes in
    let element : list_all is_value_byte (e.ai ++ (41 ∷ e.value)) ≡ true = list_all-append is_value_byte e.ai (41 ∷ e.value)
    ∙ and_from _ _ (all_weaker is_digit is_value_byte digit_is_solid e.ai is.digits) value in
    list_all-append is_value_byte (e.ai ++ (41 ∷ e.value)) (hri es) ∙ and_from _ _ element (solid_line es are.1)

-- ---- what fits

canonical_holds : (e : Entry) (es : List Entry) → (length e.ai + length e.value ≤ length (canonical (e ∷ es))) × (length (canonical es) ≤ length (canonical (e ∷ es)))
canonical_holds e [] = (omega (arith, length-append e.ai e.value), omega arith)
canonical_holds e (f ∷ es) =
    let whole = length-append (e.ai ++ e.value ++ separator_for e) (canonical (f ∷ es)) in
    let one = length-append (e.ai ++ e.value) (separator_for e) in
    let two = length-append e.ai e.value in
    (omega (arith, whole, one, two), omega (arith, whole, one, two))

each_fits : (es : List Entry) → length (canonical es) ≤ 192 → fits_all es ≡ true
each_fits [] few = refl
each_fits (e ∷ es) few =
    let holds = canonical_holds e es in
    let first = holds.0 in
    let others = holds.1 in
    and_from _ _ (and_from _ _ (le-leb (length e.ai) 192 (omega (arith, first, few))) (le-leb (length e.value) 192 (omega (arith, first, few))))
    (each_fits es (omega (arith, others, few)))

elements_fit : (terms : Terms) (es : List Entry) → IsElements terms (canonical es) es → fits es ≡ true
elements_fit terms es is =
    let few = is.fits in
    let count = few_elements terms es (elements_are terms (canonical es) es [] (from_left terms (canonical es) es [] is.reads)) in
    and_from _ _ (le-leb (length es) 48 (omega (arith, count, few))) (each_fits es few)

-- ---- the laws

read_by : (faultless : FaultlessPairs) (terms : Terms) (e : Entry) (es : List Entry) → IsElements terms (canonical (e ∷ es)) (e ∷ es) → AllByRecursion IsClear (e ∷ es)
    → is_read terms m (hri (e ∷ es)) ≡ true
read_by faultless terms e es is are =
    let again = printed_again (e ∷ es) are in
    and_from _ _ (ap is_some (marked e (hri es) are.0))
    (and_from _ _ (ap fits again ∙ elements_fit terms (e ∷ es) is)
    (ap (λ fs. not (is_some (list_fault terms fs))) again ∙ ap (λ o. not (is_some o)) ((faultless terms (e ∷ es)).1 is)))

line_read : (faultless : FaultlessPairs) (terms : Terms) (es : List Entry) (a : Answer) → IsElements terms (canonical es) es → AllByRecursion IsClear es
    → IsKindAnswer (text_kind (hri es)) terms (hri es) a → TellsElements terms es a × IsUnnamed a
line_read faultless terms [] a is are told = let some = is.some in absurd (omega (arith, some))
line_read faultless terms (e ∷ es) a is are told =
    let text = hri (e ∷ es) in (
      subst (λ fs. TellsElements terms fs a) (printed_again (e ∷ es) are)
          (subst (λ b. TellsPrinted terms m (marks_of 40 41 false) text b a) (read_by faultless terms e es is are) told.0),
      told.1,
    )

module _ (faultless : FaultlessPairs) where
  pub printed_read : PrintedRead
  printed_read terms es a is plain told =
      let are = all_clear terms es is plain in
      line_read faultless terms es a is are (subst (λ t. IsKindAnswer (text_kind t) terms t a) (trimmed_ends (hri es) (solid_line es are)) told)

pub one_printed : OnePrintedLine
one_printed terms other es fs is plain also more same =
    sym (printed_again es (all_clear terms es is plain)) ∙ ap (printed m) same ∙ printed_again fs (all_clear other fs also more)
