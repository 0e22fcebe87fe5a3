-- The element of a GTIN.
use Rattle.std.proofs.Common.{◌≡◌, ◌<◌, ℕ, ◌+◌, ◌%◌, ◌&&◌, true, eqb, List, [], ◌∷◌, length, take, refl, sym, ap, ap₂, subst, ◌∙◌, arith, lit<, leb}
use Rattle.std.specs.Prelude.{All, Contains, codes}
use Rattle.std.specs.List.{AllByRecursion, list_all}
use Rattle.std.proofs.lemmas.List.Elements.{All-from_recursion}
use Rattle.std.proofs.lemmas.Bool.{and_from, le-leb, eq-eqb}
use Rattle.std.proofs.lemmas.List.{length-map, take_all}
use Rattle.digits_core.specs.Digits.{AreDigits, IsChecked, ascii_of, digits_of, weighted}
use Rattle.element_core.specs.Terms.{Terms, is_read_by, rows_by}
use Rattle.element_core.proofs.Look.{listed_kept}
use Rattle.element_core.specs.Table.{Row, every_row, families, first_families, last_families, n_check}
use Rattle.element_core.specs.Elements.{Entry, GtinReads, IsElement, IsElements, IsValue, canonical, gtin_entry, is_digit}
use Rattle.element_core.proofs.PieceLemmas.{to_pieces}
use Rattle.element_core.proofs.Canonical.{canonical_reads, or_true}

gtin_row : Row
gtin_row = record { ai = codes "01"; parts = n_check 14 ∷ []; predefined = true; profile = true }

gtin_listed : Contains every_row gtin_row
unfolding families first_families last_families every_row gtin_row
gtin_listed = (1, lit< tt, refl)

gtin_read : (terms : Terms) → Contains (rows_by terms) gtin_row
unfolding gtin_row
gtin_read terms = listed_kept (is_read_by terms) every_row gtin_row gtin_listed (or_true terms.every)

shown_again : (g : List ℕ) → digits_of (ascii_of g) ≡ g
shown_again [] = refl
shown_again (d ∷ g) = ap₂ (λ c cs. c ∷ cs) (omega arith) (shown_again g)

all_digits : (g : List ℕ) → AreDigits g → list_all is_digit (ascii_of g) ≡ true
all_digits [] h = refl
all_digits (d ∷ g) h =
    let lt = h.0 in
    and_from (is_digit (d + 48)) (list_all is_digit (ascii_of g))
    (and_from (leb 48 (d + 48)) (leb (d + 48) 57) (le-leb 48 (d + 48) (omega arith)) (le-leb (d + 48) 57 (omega arith))) (all_digits g h.1)

gtin_value : (year : Terms) (g : List ℕ) → AreDigits g → IsChecked g → length (ascii_of g) ≡ 14 → IsValue year.year (n_check 14 ∷ []) (ascii_of g)
gtin_value year g digits checked long =
    let whole : take 14 (ascii_of g) ≡ ascii_of g = take_all 14 (ascii_of g) (omega arith) in
    record {
      least = omega arith;
      greatest = omega arith;
      steps = refl;
      characters = and_from (list_all is_digit (take 14 (ascii_of g)) && true) true
          (and_from (list_all is_digit (take 14 (ascii_of g))) true (ap (list_all is_digit) whole ∙ all_digits g digits) refl) refl;
      check_digits = and_from (eqb (weighted (digits_of (take 14 (ascii_of g))) % 10) 0) true
          (eq-eqb (weighted (digits_of (take 14 (ascii_of g))) % 10) 0
          (ap (λ (v : List ℕ). weighted (digits_of v) % 10) whole ∙ ap (λ (v : List ℕ). weighted v % 10) (shown_again g) ∙ checked)) refl;
      dates = refl;
    }

gtin_element : (year : Terms) (g : List ℕ) → AreDigits g → IsChecked g → length (ascii_of g) ≡ 14 → IsElement (rows_by year) year.year gtin_row (gtin_entry g)
unfolding gtin_row
gtin_element year g digits checked long = record { listed = gtin_read year; ai = refl; value = gtin_value year g digits checked long }

pub gtin_elements : (year : Terms) (g text : List ℕ) (es : List Entry) → AreDigits g → IsChecked g → length (ascii_of g) ≡ 14 → es ≡ gtin_entry g ∷ [] → text
    ≡ canonical es → IsElements year text es
gtin_elements year g text es digits checked long es_is text_is =
    let is = gtin_element year g digits checked long in
    let one : List Entry = gtin_entry g ∷ [] in
    let same : text ≡ canonical one = text_is ∙ ap canonical es_is in
    let size : length (canonical one) ≡ 16 = omega (arith, long) in
    subst (IsElements year text) (sym es_is) (subst (λ (t : List ℕ). IsElements year t one) (sym same)
    (record { some = omega arith; fits = omega arith; reads = to_pieces year (canonical one) one [] (canonical_reads year one ((gtin_row, is), tt)) }))

pub gtin_reads : GtinReads
gtin_reads gtin year long digits checked =
    let shown : length (ascii_of gtin) ≡ 14 = length-map gtin (λ d. d + 48) ∙ long in
    gtin_elements year gtin (canonical (gtin_entry gtin ∷ [])) (gtin_entry gtin ∷ []) digits checked shown refl refl

-- the text of digits is ASCII
each_ascii : (ds : List ℕ) → AreDigits ds → AllByRecursion (λ b. b < 128) (ascii_of ds)
each_ascii [] h = tt
each_ascii (d ∷ ds) h = (omega (arith, h.0), each_ascii ds h.1)

pub digits_ascii : (ds : List ℕ) → AreDigits ds → All (λ b. b < 128) (ascii_of ds)
digits_ascii ds h = All-from_recursion (λ b. b < 128) (ascii_of ds) (each_ascii ds h)
