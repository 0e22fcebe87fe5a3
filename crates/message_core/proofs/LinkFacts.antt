-- Steps through a Digital Link: its scheme, the qualifiers of its path, its pairs, and what they say.
use Rattle.std.proofs.Common.{◌≡◌, ◌<◌, ◌≤◌, ◌+◌, ◌&&◌, ◌++◌, ◌∷◌, ◌∙◌, List, Option, Some, Err, [], ap, append_assoc, arith, drop, false, if◌then◌else◌, length, length-append, nat_le, refl, sym, true, ℕ}
use Rattle.std.specs.List.{list_all}
use Rattle.std.proofs.lemmas.Bool.{and_from, and_parts, both_ways, false_from_ne_true, le-leb, leb-true}
use Rattle.std.proofs.lemmas.List.{drop_all, drop_more}
use Rattle.std.proofs.lemmas.List.Folds.{list_all-append}
use Rattle.element_core.specs.Elements.{Entry}
use Rattle.element_core.specs.Pairs.{list_fault}
use Rattle.element_core.specs.declared.fault.ElementFault.{ElementFault}
use Rattle.element_core.specs.declared.fault.ElementFault.TheVariants.{TooLong}
use Rattle.message_core.specs.declared.fault.MessageFault.TheVariants.{Elements}
use Rattle.message_core.specs.Keys.{place_by}
use Rattle.element_core.specs.Terms.{Terms}
use Rattle.message_core.specs.Links.{begins_any_case, entries_said, entries_said_by, fits, fits_all, fits_entry, follow_all, follow_by}

-- ---- the scheme

-- a text that ends within the scheme
pub ended : (small text : List ℕ) (i : ℕ) → i < length small → length text ≤ i → begins_any_case (drop i small) (drop i text) ≡ false
ended small text i low past = rw (drop_more small i 0 low, drop_all i text past) refl

-- ---- the path

-- one qualifier and its value before the others
pub follow_one_more : (key ai value : List ℕ) (least place : ℕ) (all rest : List (List ℕ)) → all ≡ ai ∷ value ∷ rest → place_by key ai ≡ Some place
    → least ≤ place → follow_all key least all ≡ follow_all key (place + 1) rest
follow_one_more key ai value least place all rest is at low =
    ap (follow_all key least) is
    ∙ ap (λ o. follow_by least o (λ next. follow_all key next rest)) at
    ∙ ap (λ b. b && follow_all key (place + 1) rest) (le-leb least place low)

-- ---- pairs

-- what fits, fits without its end
fits_front : (xs ys : List Entry) → fits (xs ++ ys) ≡ true → fits xs ≡ true
fits_front xs ys is =
    let parts = and_parts (nat_le (length (xs ++ ys)) 48) (fits_all (xs ++ ys)) is in
    let both = and_parts (list_all fits_entry xs) (list_all fits_entry ys) (sym (list_all-append fits_entry xs ys) ∙ parts.1) in
    let few : length (xs ++ ys) ≤ 48 = leb-true (length (xs ++ ys)) 48 parts.0 in
    and_from (nat_le (length xs) 48) (fits_all xs) (le-leb (length xs) 48 (omega (arith, few, length-append xs ys))) both.0

pub fits_not : (xs ys : List Entry) → fits xs ≡ false → fits (xs ++ ys) ≡ false
fits_not xs ys fails = false_from_ne_true (fits (xs ++ ys)) (λ is. both_ways (fits xs) fails (fits_front xs ys is))

-- one that does not fit, before others
pub fits_not_before : (xs all : List Entry) (e : Entry) (es : List Entry) → fits (xs ++ (e ∷ [])) ≡ false → xs ++ (e ∷ es) ≡ all → fits all ≡ false
fits_not_before xs all e es fails is = ap fits (sym is ∙ sym (append_assoc xs (e ∷ []) es)) ∙ fits_not (xs ++ (e ∷ [])) es fails

-- all fit with one more
pub all_fit : (es : List Entry) (e : Entry) → fits_all es ≡ true → fits_entry e ≡ true → fits_all (es ++ (e ∷ [])) ≡ true
all_fit es e is one = list_all-append fits_entry es (e ∷ []) ∙ and_from (fits_all es) (fits_all (e ∷ [])) is (and_from (fits_entry e) true one refl)

fits_by : (es : List Entry) → length es ≤ 48 → fits_all es ≡ true → fits es ≡ true
fits_by es few all = and_from (nat_le (length es) 48) (fits_all es) (le-leb (length es) 48 few) all

-- those of the path and then those of the query were put into none, and fit
pub both_put : (none first all path query : List Entry) → none ≡ [] → first ≡ none ++ path → all ≡ first ++ query → length all ≤ 48 → fits_all all ≡ true
    → (all ≡ path ++ query) × (fits (path ++ query) ≡ true)
both_put none first all path query new one both few fit =
    let same : all ≡ path ++ query = both ∙ ap (λ l. l ++ query) (one ∙ ap (λ l. l ++ path) new) in
    (same, ap fits (sym same) ∙ fits_by all few fit)

-- ---- what is said

module _ (year : Terms) (es : List Entry) (fit : fits es ≡ true) where
  pub fitting : (o : Option ElementFault) → list_fault year es ≡ o → entries_said year es ≡ entries_said_by es o
  fitting o is = ap (λ b. if b then entries_said_by es (list_fault year es) else Err (Elements TooLong)) fit ∙ ap (entries_said_by es) is
