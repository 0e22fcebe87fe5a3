-- A link is read as the elements that it was written of.
use Rattle.std.proofs.Common.{◌≡◌, ◌⊎◌, ◌∙◌, Err, ◌&&◌, ◌||◌, ◌+◌, ◌-◌, ◌<◌, ◌≤◌, ◌∷◌, ◌++◌, [], Bool, List, None, Ok, Option, Some, ap, ap₂, append_assoc, arith, drop, false, get_or, inl, inr, length, length-append, map, nat_le, not, refl, subst, suc, sym, take, true, zero, ℕ}
use Rattle.std.specs.Prelude.{◌==◌, codes}
use Rattle.std.specs.Char.{is_ascii_digit, is_ascii_graphic, is_ascii_whitespace, to_ascii_lowercase}
use Rattle.std.specs.List.{AllByRecursion, after_first, before_first, list_all}
use Rattle.std.specs.Str.{bytes_eq}
use Rattle.std.proofs.lemmas.Bool.{and_from, and_left, and_parts, and_right, cases_Bool, le-leb, ne_eqb, not-true, eqb-true, or_cases, or_left, or_right, true≢false}
use Rattle.std.proofs.lemmas.Grind.{common_steps}
use Rattle.std.proofs.lemmas.List.{append-nil, drop-append-le, get_or-append_right}
use Rattle.element_core.specs.Elements.{Entry, IsElement, canonical, is_value_byte}
use Rattle.element_core.specs.Pairs.{entries_fault, list_fault}
use Rattle.element_core.specs.Table.{Row, every_row, families, first_families, greatest_of, last_families, least_of}
use Rattle.element_core.specs.Terms.{Terms, rows_by}
use Rattle.element_core.specs.declared.fault.ElementFault.{ElementFault}
use Rattle.element_core.specs.declared.fault.ElementFault.TheVariants.{Empty}
use Rattle.element_core.specs.inner.Elements.{AreElements}
use Rattle.element_core.specs.inner.Table.{is_of_digits}
use Rattle.element_core.proofs.Growth.{few_elements}
use Rattle.element_core.proofs.Letters.{all_weaker, value_letters}
use Rattle.element_core.proofs.Look.{all_at, in_table}
use Rattle.element_core.proofs.PairLemmas.{entries_valid, or_else-none}
use Rattle.element_core.proofs.TableLaws.{each_is_of_digits}
use Rattle.message_core.specs.Coding.{is_coded}
use Rattle.message_core.specs.Heads.{begins_with_eight, head_of, is_bare}
use Rattle.message_core.specs.Keys.{is_key}
use Rattle.message_core.specs.Laws.{CodesAreRead, KeyPartIs, StandInOrder, spread}
use Rattle.message_core.specs.Links.{begins_any_case, begins_http, begins_https, begins_link, behind_scheme, entries_said, fits, fits_all, fits_entry, front_of, has_host, host_and_path, host_of, is_plain, is_plain_name, is_uri, is_written, key_part, link_entries, link_said_by, parameters, path_of, query_entries, query_of, segments, without_slash}
use Rattle.message_core.specs.Messages.{IsMessage}
use Rattle.message_core.specs.declared.fault.MessageFault.TheVariants.{Elements, Kind}
use Rattle.message_core.specs.declared.head.Head.TheVariants as head
use Rattle.answer_core.specs.Laws.{LinkReads}
use Rattle.answer_core.specs.Written.{Parted, Writing, checked_by, coded_elements, faultless_by, is_stem, link_by, parted, parted_text, stem_link}
use Rattle.answer_core.proofs.CodedTexts.{ArePlain, IsPlain, IsSign, IsWritten, both_written, coded_entry, elements_lack, elements_written, is_code_byte, lacks, name_is, parameter, path_ends, path_is, path_read, path_rest, path_segments, query_is, query_parameters, query_read, query_rest}
use Rattle.answer_core.proofs.Cuts.{Behind, Lacks, before_at, before_none, before_same, behind, behind_at, behind_none, lacks_both}
use Rattle.answer_core.proofs.Ends.{trimmed}
use Rattle.answer_core.proofs.Moves.{IsParted, count_both, parted_is}

-- ---- elements that have no fault

row_has_value : Row → Bool
row_has_value row = nat_le 1 (least_of row.parts)

is_gtin_row : Row → Bool
is_gtin_row row = not (bytes_eq row.ai (codes "01")) || (nat_le 14 (least_of row.parts) && nat_le (greatest_of row.parts) 14)

each_has_value : list_all row_has_value every_row ≡ true
unfolding families first_families last_families every_row row_has_value
each_has_value = refl

each_gtin : list_all is_gtin_row every_row ≡ true
unfolding families first_families last_families every_row is_gtin_row
each_gtin = refl

digit_is : (b : ℕ) → (nat_le 48 b && nat_le b 57) ≡ true → is_ascii_digit b ≡ true
digit_is b h = h

value_low : (b : ℕ) → is_value_byte b ≡ true → b < 256
value_low b h = grind (arith, common_steps)

all_low : (v : List ℕ) → list_all is_value_byte v ≡ true → AllByRecursion (λ b. b < 256) v
all_low [] h = tt
all_low (b ∷ v) h = let p = and_parts (is_value_byte b) (list_all is_value_byte v) h in (value_low b p.0, all_low v p.1)

plain : (terms : Terms) (row : Row) (e : Entry) → IsElement (rows_by terms) terms.year row e → IsPlain e
unfolding row_has_value is_gtin_row
plain terms row e is =
    let listed = in_table terms row is.listed in
    let digits = and_parts (nat_le 2 (length row.ai)) (list_all (λ a. nat_le 48 a && nat_le a 57) row.ai) (all_at is_of_digits every_row row listed each_is_of_digits) in
    let long : 2 ≤ length row.ai = grind (arith, common_steps) in
    let least : 1 ≤ least_of row.parts = le_of (all_at row_has_value every_row row listed each_has_value) in
    let value = is.value in
    record {
      ai_digits = ap (list_all is_ascii_digit) is.ai ∙ all_weaker (λ a. nat_le 48 a && nat_le a 57) is_ascii_digit digit_is row.ai digits.1;
      ai_some = omega (arith, long, ap length is.ai);
      value_some = let short = value.least in omega (arith, least, short);
      value_low = all_low e.value (value_letters row.parts e.value value.greatest value.characters);
      gtin = λ gtin. fourteen gtin;
    } where
      le_of : nat_le 1 (least_of row.parts) ≡ true → 1 ≤ least_of row.parts
      le_of h = grind (arith, common_steps)

      fourteen : bytes_eq e.ai (codes "01") ≡ true → length e.value ≡ 14
      fourteen gtin =
          let listed = in_table terms row is.listed in
          let named : bytes_eq row.ai (codes "01") ≡ true = ap (λ a. bytes_eq a (codes "01")) (sym is.ai) ∙ gtin in
          let sizes = all_at is_gtin_row every_row row listed each_gtin in
          let both : (nat_le 14 (least_of row.parts) && nat_le (greatest_of row.parts) 14) ≡ true = rw named at sizes in
          let p = and_parts (nat_le 14 (least_of row.parts)) (nat_le (greatest_of row.parts) 14) both in
          let low : 14 ≤ least_of row.parts = grind (arith, common_steps) in
          let high : greatest_of row.parts ≤ 14 = grind (arith, common_steps) in
          let least = is.value.least in
          let greatest = is.value.greatest in
          omega (arith, low, high, least, greatest)

pub all_plain : (terms : Terms) (es : List Entry) → AreElements terms es → ArePlain es
all_plain terms [] are = tt
all_plain terms (e ∷ es) are = (plain terms are.0.0 e are.0.1, all_plain terms es are.1)

plain_front : (xs ys : List Entry) → ArePlain (xs ++ ys) → ArePlain xs
plain_front [] ys h = tt
plain_front (x ∷ xs) ys h = (h.0, plain_front xs ys h.1)

plain_end : (xs ys : List Entry) → ArePlain (xs ++ ys) → ArePlain ys
plain_end [] ys h = h
plain_end (x ∷ xs) ys h = plain_end xs ys h.1

-- ---- what is said of elements without a fault

canonical_first : (e : Entry) (es : List Entry) → (length e.ai + length e.value ≤ length (canonical (e ∷ es))) × (length (canonical es) ≤ length (canonical (e ∷ es)))
canonical_first e [] = (omega (arith, length-append e.ai e.value), omega arith)
canonical_first e (f ∷ es) =
    let sep = length-append (e.ai ++ e.value) in
    (grind (arith, length-append), grind (arith, length-append))

all_short : (es : List Entry) → length (canonical es) ≤ 192 → fits_all es ≡ true
all_short [] short = refl
all_short (e ∷ es) short =
    let first = (canonical_first e es).0 in
    let more = (canonical_first e es).1 in
    and_from (fits_entry e) (fits_all es)
    (and_from (nat_le (length e.ai) 192) (nat_le (length e.value) 192) (le-leb (length e.ai) 192 (omega (arith, first, short)))
    (le-leb (length e.value) 192 (omega (arith, first, short))))
    (all_short es (omega (arith, more, short)))

-- what is known of elements without a fault
pub record IsFaultless (terms : Terms) (es : List Entry) : Type 0 where
  pub are : AreElements terms es
  pub short : length (canonical es) ≤ 192

pub faultless : (terms : Terms) (es : List Entry) → list_fault terms es ≡ None → IsFaultless terms es
faultless terms es none = by (cases_Bool (length es == 0)) where
  by : ((length es == 0) ≡ true) ⊎ ((length es == 0) ≡ false) → IsFaultless terms es
  by (inl empty) = absurd (let k = none in let h : list_fault terms es ≡ Some Empty = rw empty refl in cc)
  by (inr some) =
      let k = (rw some at none) in
      let p = or_else-none (entries_fault terms 0 es) _ k in
      record { are = entries_valid terms 0 es p.0; short = grind (arith, common_steps) }

said_as : (terms : Terms) (es : List Entry) → list_fault terms es ≡ None → entries_said terms es ≡ Ok es
said_as terms es none =
    let f = faultless terms es none in
    let few = few_elements terms es f.are in
    let short = f.short in
    let fit : fits es ≡ true = and_from (nat_le (length es) 48) (fits_all es) (le-leb (length es) 48 (omega (arith, few, short))) (all_short es short) in
    rw (fit, none) refl

-- ---- a stem

begins_long : (small text : List ℕ) → begins_any_case small text ≡ true → length small ≤ length text
begins_long [] text h = omega arith
begins_long (a ∷ small) [] h = absurd (true≢false (sym h))
begins_long (a ∷ small) (b ∷ text) h =
    let p = and_parts (to_ascii_lowercase b == a) (begins_any_case small text) h in
    let more = begins_long small text p.1 in
    omega (arith, more)

begins_same : (small text more : List ℕ) → length small ≤ length text → begins_any_case small (text ++ more) ≡ begins_any_case small text
begins_same [] text more long = refl
begins_same (a ∷ small) [] more long = absurd (omega (arith, long))
begins_same (a ∷ small) (b ∷ text) more long = ap (λ x. (to_ascii_lowercase b == a) && x) (begins_same small text more (omega (arith, long)))

scheme_long : (s : List ℕ) → begins_link s ≡ true → (begins_http s ≡ true) ⊎ ((begins_http s ≡ false) × (begins_https s ≡ true))
scheme_long s h = elim (cases_Bool (begins_http s)) [
  | inl http ↦ inl http
  | inr other ↦ inr (other, rw other at h)
]

lacks_drop : (p : ℕ → Bool) (n : ℕ) (xs : List ℕ) → Lacks p xs → Lacks p (drop n xs)
lacks_drop p zero xs h = h
lacks_drop p (suc n) [] h = tt
lacks_drop p (suc n) (x ∷ xs) h = lacks_drop p n xs h.1

-- what is known of a stem
pub record IsStem (s : List ℕ) : Type 0 where
  pub host : List ℕ
  pub begins : (more : List ℕ) → begins_link (s ++ more) ≡ true
  pub behind_is : (more : List ℕ) → behind_scheme (s ++ more) ≡ host ++ more
  pub written : IsWritten s
  pub no_query : Lacks (λ b. b == 63) host
  pub no_fragment : Lacks (λ b. b == 35) host
  pub has_name : not (length (before_first (λ b. b == 47) host) == 0) ≡ true

lacks_all : (c : ℕ) (xs : List ℕ) → list_all (λ b. not (b == c)) xs ≡ true → Lacks (λ b. b == c) xs
lacks_all c [] h = tt
lacks_all c (x ∷ xs) h =
    let p = and_parts (not (x == c)) (list_all (λ b. not (b == c)) xs) h in
    (not-true (x == c) p.0, lacks_all c xs p.1)

make : (s : List ℕ) (n : ℕ) → n ≤ length s → ((more : List ℕ) → begins_link (s ++ more) ≡ true) → ((more : List ℕ) → behind_scheme (s ++ more) ≡ drop n (s ++ more))
    → IsWritten s → Lacks (λ b. b == 63) s → Lacks (λ b. b == 35) s → has_host s ≡ true → IsStem s
make s n long begins is written query fragment host =
    let x = drop n s in
    let no_query = lacks_drop (λ b. b == 63) n s query in
    let no_fragment = lacks_drop (λ b. b == 35) n s fragment in
    let alone : behind_scheme s ≡ x = ap behind_scheme (sym (append-nil s)) ∙ is [] ∙ ap (drop n) (append-nil s) in
    let front : front_of s ≡ x = ap (before_first (λ b. b == 35)) alone ∙ before_none (λ b. b == 35) x no_fragment in
    let path : host_and_path s ≡ x = ap (before_first (λ b. b == 63)) front ∙ before_none (λ b. b == 63) x no_query in
    record {
      host = x;
      begins = begins;
      behind_is = λ more. is more ∙ drop-append-le n s more long;
      written = written;
      no_query = no_query;
      no_fragment = no_fragment;
      has_name = ap (λ (t : List ℕ). not (length (before_first (λ b. b == 47) t) == 0)) (sym path) ∙ host;
    }

pub stem_is : (s : List ℕ) → is_stem s ≡ true → IsStem s
stem_is s h =
    let p = and_parts (is_uri s) (list_all (λ b. not (b == 63)) s && list_all (λ b. not (b == 35)) s) h in
    let u = and_parts (begins_link s) (is_written s && (has_host s && is_plain (query_of s))) p.0 in
    let w = and_parts (is_written s) (has_host s && is_plain (query_of s)) u.1 in
    let q = and_parts (has_host s) (is_plain (query_of s)) w.1 in
    let parts = and_parts (list_all is_ascii_graphic s) (is_coded s) w.0 in
    let written : IsWritten s = record { graphic = parts.0; coded_is = parts.1 } in
    let signs = and_parts (list_all (λ b. not (b == 63)) s) (list_all (λ b. not (b == 35)) s) p.1 in
    let query = lacks_all 63 s signs.0 in
    let fragment = lacks_all 35 s signs.1 in
    elim (scheme_long s u.0) [
      | inl http ↦
          let long = begins_long (codes "http://") s http in
          let begun : (more : List ℕ) → begins_http (s ++ more) ≡ true = λ more. begins_same (codes "http://") s more long ∙ http in
          make s 7 long (λ more. or_left (begins_http (s ++ more)) (begins_https (s ++ more)) (begun more)) (λ more. rw (begun more) refl) written query fragment q.0
      | inr other ↦
          let long = begins_long (codes "https://") s other.1 in
          let begun : (more : List ℕ) → begins_https (s ++ more) ≡ true = λ more. begins_same (codes "https://") s more long ∙ other.1 in
          let not_http : (more : List ℕ) → begins_http (s ++ more) ≡ false = λ more. begins_same (codes "http://") s more (omega (arith, long)) ∙ other.0 in
          make s 8 long (λ more. or_right (begins_http (s ++ more)) (begins_https (s ++ more)) (begun more)) (λ more. rw (not_http more) refl) written query fragment q.0
    ]

-- ---- the path

-- no slash ends the path
no_slash : (front last : List ℕ) → 0 < length last → list_all is_code_byte last ≡ true → without_slash (front ++ last) ≡ front ++ last
no_slash front last some code =
    let n = length front in
    let all = length-append front last in
    let at : get_or (front ++ last) (length (front ++ last) - 1) 0 ≡ get_or last (length (front ++ last) - 1 - n) 0 =
    get_or-append_right front last n (length (front ++ last) - 1) 0 refl (omega (arith, all, some)) in
    let other : (get_or last (length (front ++ last) - 1 - n) 0 == 47) ≡ false =
    last_other last (length (front ++ last) - 1 - n) (omega (arith, all, some)) code in
    rw (at, other) refl where
      last_other : (xs : List ℕ) (k : ℕ) → k < length xs → list_all is_code_byte xs ≡ true → (get_or xs k 0 == 47) ≡ false
      last_other [] k low h = absurd (omega (arith, low))
      last_other (x ∷ xs) zero low h = (lacks is_code_byte 47 refl (x ∷ xs) h).0
      last_other (x ∷ xs) (suc k) low h = last_other xs k (omega (arith, low)) (and_parts (is_code_byte x) (list_all is_code_byte xs) h).1

order_coded : (key : List ℕ) (least : ℕ) (qs : List Entry) → StandInOrder key least qs → StandInOrder key least (map coded_entry qs)
order_coded key least [] o = tt
order_coded key least (e ∷ es) o = (o.0, o.1, o.2, order_coded key (o.0 + 1) es o.3)

-- ---- the query

all_not : (c : ℕ) (xs : List ℕ) → Lacks (λ b. b == c) xs → list_all (λ b. not (b == c)) xs ≡ true
all_not c [] h = refl
all_not c (x ∷ xs) h = rw h.0 (all_not c xs h.1)

plain_names : CodesAreRead → (es : List Entry) → ArePlain es → list_all is_plain_name (map parameter es) ≡ true
plain_names read [] hs = refl
plain_names read (e ∷ es) hs =
    and_from (is_plain_name (parameter e)) (list_all is_plain_name (map parameter es))
    (ap (list_all (λ b. not (b == 37))) (name_is read e hs.0) ∙ all_not 37 e.ai (lacks is_ascii_digit 37 refl e.ai hs.0.ai_digits)) (plain_names read es hs.1)

-- ---- a link

module _ (read : CodesAreRead) (finds : KeyPartIs) (terms : Terms) (s : List ℕ) (stem : IsStem s) (key : Entry) (qs query : List Entry) (kh : IsPlain key)
    (qh : ArePlain qs) (oh : ArePlain query) (listed : is_key key.ai ≡ true) (order : StandInOrder key.ai 0 qs) where
  abbrev path_text : List ℕ
  path_text = coded_elements 47 47 47 (key ∷ qs)

  abbrev text : List ℕ
  text = s ++ (path_text ++ coded_elements 63 38 61 query)

  path_lacks : (c : ℕ) → is_code_byte c ≡ false → (47 == c) ≡ false → Lacks (λ b. b == c) path_text
  path_lacks c out other = elements_lack c 47 47 47 (key ∷ qs) out other other other (kh, qh)

  front_is : front_of text ≡ stem.host ++ (path_text ++ coded_elements 63 38 61 query)
  front_is =
      ap (before_first (λ b. b == 35)) (stem.behind_is (path_text ++ coded_elements 63 38 61 query))
      ∙ before_none (λ b. b == 35) (stem.host ++ (path_text ++ coded_elements 63 38 61 query))
      (lacks_both (λ b. b == 35) stem.host (path_text ++ coded_elements 63 38 61 query) stem.no_fragment
      (lacks_both (λ b. b == 35) path_text (coded_elements 63 38 61 query) (path_lacks 35 refl refl)
      (elements_lack 35 63 38 61 query refl refl refl refl oh)))

  -- the query of the link
  record IsQuery : Type 0 where
    rest : List ℕ
    path_is : host_and_path text ≡ stem.host ++ path_text
    query_is : query_of text ≡ rest
    plain_is : is_plain rest ≡ true
    read_is : query_entries (parameters rest) ≡ query

  query_by : (es : List Entry) → query ≡ es → IsQuery
  query_by [] is =
      let front : front_of text ≡ stem.host ++ path_text =
      front_is ∙ ap (λ (l : List Entry). stem.host ++ (path_text ++ coded_elements 63 38 61 l)) is ∙ ap (λ t. stem.host ++ t) (append-nil path_text) in
      let none = lacks_both (λ b. b == 63) stem.host path_text stem.no_query (path_lacks 63 refl refl) in
      record {
        rest = [];
        path_is = ap (before_first (λ b. b == 63)) front ∙ before_none (λ b. b == 63) (stem.host ++ path_text) none;
        query_is = ap (after_first (λ b. b == 63)) front ∙ behind_none (λ b. b == 63) (stem.host ++ path_text) none;
        plain_is = refl;
        read_is = sym is;
      }
  query_by (e ∷ es) is =
      let hs = subst ArePlain is oh in
      let rest = query_rest e es in
      let front : front_of text ≡ (stem.host ++ path_text) ++ (63 ∷ rest) =
      front_is ∙ ap (λ (l : List Entry). stem.host ++ (path_text ++ coded_elements 63 38 61 l)) is
      ∙ ap (λ t. stem.host ++ (path_text ++ t)) (query_is 63 e es) ∙ sym (append_assoc stem.host path_text (63 ∷ rest)) in
      let none = lacks_both (λ b. b == 63) stem.host path_text stem.no_query (path_lacks 63 refl refl) in
      let no_semicolon : Lacks (λ b. b == 59) (63 ∷ rest) =
      subst (Lacks (λ b. b == 59)) (query_is 63 e es) (elements_lack 59 63 38 61 (e ∷ es) refl refl refl refl hs) in
      let names = query_parameters e es hs.0 hs.1 in
      record {
        rest = rest;
        path_is = ap (before_first (λ b. b == 63)) front ∙ before_at (λ b. b == 63) (stem.host ++ path_text) 63 rest none refl;
        query_is = ap (after_first (λ b. b == 63)) front ∙ behind_at (λ b. b == 63) (stem.host ++ path_text) 63 rest none refl;
        plain_is = and_from (list_all (λ b. not (b == 59)) rest) (list_all is_plain_name (parameters rest)) (all_not 59 rest no_semicolon.1)
            (ap (list_all is_plain_name) names ∙ plain_names read (e ∷ es) hs);
        read_is = ap query_entries names ∙ query_read read (e ∷ es) hs ∙ sym is;
      }

  abbrev rest_of_path : List ℕ
  rest_of_path = path_rest key qs

  cut : Behind (λ b. b == 47) (stem.host ++ (47 ∷ rest_of_path)) rest_of_path
  cut = behind (λ b. b == 47) stem.host 47 rest_of_path refl

  path_segments_are : (q : IsQuery) → segments (path_of text) ≡ cut.stems ++ spread (map coded_entry (key ∷ qs))
  path_segments_are q =
      let path : host_and_path text ≡ stem.host ++ (47 ∷ path_rest key qs) = q.path_is ∙ ap (λ t. stem.host ++ t) (path_is key qs) in
      let ends = path_ends key qs kh qh in
      let rest : after_first (λ b. b == 47) (host_and_path text) ≡ (cut.front ++ ends.front) ++ ends.last =
      ap (after_first (λ b. b == 47)) path ∙ cut.text_is ∙ ap (λ t. cut.front ++ t) ends.text_is ∙ sym (append_assoc cut.front ends.front ends.last) in
      let back : (cut.front ++ ends.front) ++ ends.last ≡ cut.front ++ path_rest key qs =
      append_assoc cut.front ends.front ends.last ∙ ap (λ t. cut.front ++ t) (sym ends.text_is) in
      let whole : path_of text ≡ cut.front ++ path_rest key qs =
      ap without_slash rest ∙ no_slash (cut.front ++ ends.front) ends.last ends.some ends.code ∙ back in
      ap segments whole ∙ cut.parts_are ∙ ap (λ l. cut.stems ++ l) (path_segments key qs kh qh)

  part_is : (q : IsQuery) → key_part (segments (path_of text)) ≡ Some (spread (map coded_entry (key ∷ qs)))
  part_is q = (finds (segments (path_of text)) (spread (map coded_entry (key ∷ qs)))).1 (record {
    stems = cut.stems;
    key = key.ai;
    value = (coded_entry key).value;
    qualifiers = map coded_entry qs;
    listed = listed;
    order = order_coded key.ai 0 qs order;
    part_is = refl;
    all_is = path_segments_are q;
  })

  uri_is : (q : IsQuery) → is_uri text ≡ true
  uri_is q =
      let signs : IsSign 47 = (refl, refl) in
      let elements = both (elements_written 47 47 47 (key ∷ qs) signs signs signs (kh, qh)) (elements_written 63 38 61 query (refl, refl) (refl, refl) (refl, refl) oh) in
      let written = both stem.written elements in
      let host : host_of text ≡ before_first (λ b. b == 47) stem.host =
      ap (before_first (λ b. b == 47)) (q.path_is ∙ ap (λ t. stem.host ++ t) (path_is key qs)) ∙ before_same (λ b. b == 47) stem.host 47 (path_rest key qs) refl in
      and_from (begins_link text) (is_written text && (has_host text && is_plain (query_of text)))
      (stem.begins (coded_elements 47 47 47 (key ∷ qs) ++ coded_elements 63 38 61 query))
      (and_from (is_written text) (has_host text && is_plain (query_of text)) (and_from (list_all is_ascii_graphic text) (is_coded text) written.graphic written.coded_is)
      (and_from (has_host text) (is_plain (query_of text)) (ap (λ (t : List ℕ). not (length t == 0)) host ∙ stem.has_name) (ap is_plain q.query_is ∙ q.plain_is))) where
        both : {xs ys : List ℕ} → IsWritten xs → IsWritten ys → IsWritten (xs ++ ys)
        both {xs} {ys} a b = both_written xs ys a b

  pub graphic_is : list_all is_ascii_graphic text ≡ true
  graphic_is =
      let q = query_by query refl in
      let u = and_parts (begins_link text) (is_written text && (has_host text && is_plain (query_of text))) (uri_is q) in
      let w = and_parts (is_written text) (has_host text && is_plain (query_of text)) u.1 in
      (and_parts (list_all is_ascii_graphic text) (is_coded text) w.0).0

  pub entries_are : link_entries text ≡ Some ((key ∷ qs) ++ query)
  entries_are =
      let q = query_by query refl in
      rw (uri_is q, part_is q)
      (ap₂ (λ (a b : List Entry). Some (a ++ b)) (path_read read (key ∷ qs) (kh, qh)) (ap (λ t. query_entries (parameters t)) q.query_is ∙ q.read_is))

-- ---- a message

first_byte : (b : ℕ) (text : List ℕ) → begins_link (b ∷ text) ≡ true → to_ascii_lowercase b ≡ 104
first_byte b text h = elim (or_cases (begins_http (b ∷ text)) (begins_https (b ∷ text)) h) [
  | inl http ↦ eqb-true (to_ascii_lowercase b) 104 (and_parts (to_ascii_lowercase b == 104) _ http).0
  | inr https ↦ eqb-true (to_ascii_lowercase b) 104 (and_parts (to_ascii_lowercase b == 104) _ https).0
]

no_digit : (b : ℕ) → to_ascii_lowercase b ≡ 104 → is_ascii_digit b ≡ false
no_digit b h = grind (arith, common_steps)

other_byte : (b c : ℕ) → to_ascii_lowercase b ≡ 104 → (to_ascii_lowercase c == 104) ≡ false → (b == c) ≡ false
other_byte b c h out = ne_eqb b c (λ e. true≢false (sym (ap (λ x. x == 104) (sym (ap to_ascii_lowercase e) ∙ h)) ∙ out))

no_bare : (b : ℕ) (text : List ℕ) → to_ascii_lowercase b ≡ 104 → is_bare (b ∷ text) ≡ false
no_bare b text first =
    let digits : list_all is_ascii_digit (take 8 (b ∷ text)) ≡ false = rw (no_digit b first) refl in
    and_left (begins_with_eight (b ∷ text)) _ (and_right (nat_le 8 (length (b ∷ text))) (list_all is_ascii_digit (take 8 (b ∷ text))) digits)

pub head_is : (text : List ℕ) → begins_link text ≡ true → head_of text ≡ Some head.Link
head_is [] h = absurd (true≢false (sym h))
head_is (b ∷ text) h =
    let first = first_byte b text h in
    rw (other_byte b 93 first refl, other_byte b 29 first refl, other_byte b 94 first refl, no_bare b text first, h) refl

no_blank : (b : ℕ) → is_ascii_graphic b ≡ true → is_ascii_whitespace b ≡ false
no_blank b h = grind (arith, common_steps)

some_text : (text : List ℕ) → begins_link text ≡ true → 0 < length text
some_text [] h = absurd (true≢false (sym h))
some_text (b ∷ text) h = omega arith

-- ---- the law

link_parts : (terms : Terms) (stem : List ℕ) (es : List Entry) (link : List ℕ) → stem_link terms stem es ≡ Ok link
    → (p : Parted) × (is_stem stem ≡ true) × (parted es ≡ Some p) × (list_fault terms (p.path ++ p.query) ≡ None) × (link ≡ stem ++ parted_text p)
link_parts terms stem es link is = elim (cases_Bool (is_stem stem)) [
  | inl stems ↦ let by : link_by terms stem (parted es) ≡ Ok link = rw stems at is in by_order stems (parted es) refl by
  | inr other ↦ absurd (let no : Err Kind ≡ Ok link = rw other at is in cc)
] where
  by_fault : (text : List ℕ) (o : Option ElementFault) → faultless_by text o ≡ Ok link → (o ≡ None) × (link ≡ text)
  by_fault text None ok = (refl, cc)
  by_fault text (Some fault) ok = absurd cc

  by_order : is_stem stem ≡ true → (o : Option Parted) → parted es ≡ o → link_by terms stem o ≡ Ok link
      → (p : Parted) × (is_stem stem ≡ true) × (parted es ≡ Some p) × (list_fault terms (p.path ++ p.query) ≡ None) × (link ≡ stem ++ parted_text p)
  by_order stems None at ok = absurd cc
  by_order stems (Some p) at ok =
      let f = by_fault (stem ++ parted_text p) (list_fault terms (p.path ++ p.query)) ok in
      (p, stems, at, f.0, f.1)

checked : (o : Option ElementFault) (w : Writing) (link : List ℕ) → checked_by o w ≡ Ok link → w ≡ Ok link
checked None w link is = is
checked (Some fault) w link is = absurd (let no : Err (Elements fault) ≡ Ok link = is in cc)

module _ (read : CodesAreRead) (finds : KeyPartIs) where
  -- the link of elements in this order
  said : (terms : Terms) (s : List ℕ) (es : List Entry) (p : Parted) → IsStem s → IsParted es p → list_fault terms (p.path ++ p.query) ≡ None
      → IsMessage terms (s ++ parted_text p) (Some head.Link) (Ok (p.path ++ p.query))
  said terms s es p stem order none =
      let text : List ℕ = s ++ parted_text p in
      let f = faultless terms (p.path ++ p.query) none in
      let all = all_plain terms (p.path ++ p.query) f.are in
      let path : ArePlain (order.key ∷ order.qualifiers) = subst ArePlain order.path_is (plain_front p.path p.query all) in
      let query = plain_end p.path p.query all in
      let same : (order.key ∷ order.qualifiers) ++ p.query ≡ p.path ++ p.query = ap (λ (l : List Entry). l ++ p.query) (sym order.path_is) in
      let written : text ≡ s ++ (coded_elements 47 47 47 (order.key ∷ order.qualifiers) ++ coded_elements 63 38 61 p.query) =
      ap (λ (l : List Entry). s ++ (coded_elements 47 47 47 l ++ coded_elements 63 38 61 p.query)) order.path_is in
      let entries : link_entries text ≡ Some (p.path ++ p.query) =
      ap link_entries written ∙ entries_are read finds terms s stem order.key order.qualifiers p.query path.0 path.1 query order.listed order.order
      ∙ ap (λ (l : List Entry). Some l) same in
      let uri : list_all is_ascii_graphic text ≡ true =
      ap (list_all is_ascii_graphic) written ∙ graphic_is read finds terms s stem order.key order.qualifiers p.query path.0 path.1 query order.listed order.order in
      let begins = stem.begins (parted_text p) in (
        text,
        trimmed is_ascii_graphic no_blank text (some_text text begins) uri,
        sym (head_is text begins),
        sym (ap (link_said_by terms) entries ∙ said_as terms (p.path ++ p.query) none),
      )

  pub link_reads : LinkReads
  link_reads terms stem es link is =
      let l = link_parts terms (without_slash stem) es link (checked (list_fault terms es) (stem_link terms (without_slash stem) es) link is) in
      let p = l.0 in
      let order = parted_is es p l.2 in (
        p,
        l.2,
        λ is. count_both is p.path p.query ∙ order.same is,
        subst (λ t. IsMessage terms t (Some head.Link) (Ok (p.path ++ p.query))) (sym l.4) (said terms (without_slash stem) es p (stem_is (without_slash stem) l.1) order l.3),
      )
