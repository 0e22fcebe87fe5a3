-- Elements in percent codes, cut at the signs of a link.
use Rattle.std.proofs.Common.{◌≡◌, ◌∙◌, ◌||◌, ◌<◌, ◌/◌, ◌%◌, ◌∷◌, ◌++◌, [], Bool, List, ap, ap₂, append_assoc, arith, false, inl, inr, length, map, not, refl, sym, true, ℕ}
use Rattle.std.specs.Prelude.{◌==◌, codes}
use Rattle.std.specs.Char.{is_ascii_digit, is_ascii_graphic, is_ascii_hexdigit}
use Rattle.std.specs.List.{AllByRecursion, list_all}
use Rattle.std.specs.Str.{bytes_eq}
use Rattle.std.proofs.lemmas.Bool.{and_from, and_parts, cases_Bool, cond_both, ne_eqb, or_left, true≢false}
use Rattle.std.proofs.lemmas.Grind.{common_steps}
use Rattle.std.proofs.lemmas.List.{append-nil}
use Rattle.element_core.specs.Elements.{Entry}
use Rattle.element_core.proofs.Letters.{all_weaker}
use Rattle.message_core.specs.Coding.{begins_code, decoded, encoded, hex_digit, is_coded}
use Rattle.message_core.specs.Laws.{CodesAreRead, spread}
use Rattle.message_core.specs.Links.{fourteen, is_ai, name_of, parameters, path_entries, path_entry, query_entries, query_entry, segments}
use Rattle.answer_core.specs.Written.{coded_elements, is_unreserved}
use Rattle.answer_core.proofs.Cuts.{Lacks, before_at, behind_at, lacks_both, split_at, split_none}

-- ---- bytes

-- a byte of a text with codes
abbrev pub is_code_byte : ℕ → Bool
is_code_byte b = is_unreserved b || (b == 37)

pub all_both : (q : ℕ → Bool) (a b : List ℕ) → list_all q a ≡ true → list_all q b ≡ true → list_all q (a ++ b) ≡ true
all_both q [] b h k = k
all_both q (x ∷ a) b h k = let p = and_parts (q x) (list_all q a) h in and_from (q x) (list_all q (a ++ b)) p.0 (all_both q a b p.1 k)

-- a byte that no byte of a text is
pub lacks : (q : ℕ → Bool) (c : ℕ) → q c ≡ false → (xs : List ℕ) → list_all q xs ≡ true → Lacks (λ b. b == c) xs
lacks q c out [] h = tt
lacks q c out (b ∷ xs) h =
    let k = and_parts (q b) (list_all q xs) h in
    (ne_eqb b c (λ e. true≢false (sym k.0 ∙ ap q e ∙ out)), lacks q c out xs k.1)

digit_code : (b : ℕ) → is_ascii_digit b ≡ true → is_code_byte b ≡ true
digit_code b h = grind (arith, common_steps)

hex_code : (n : ℕ) → n < 16 → is_code_byte (hex_digit n) ≡ true
hex_code n low = grind (arith, common_steps)

hex_hex : (n : ℕ) → n < 16 → is_ascii_hexdigit (hex_digit n) ≡ true
hex_hex n low = grind (arith, common_steps)

pub code_graphic : (b : ℕ) → is_code_byte b ≡ true → is_ascii_graphic b ≡ true
code_graphic b h = grind (arith, common_steps)

kept_code : (b : ℕ) → is_unreserved b ≡ true → is_code_byte b ≡ true
kept_code b h = or_left (is_unreserved b) (b == 37) h

pub coded : List ℕ → List ℕ
coded bytes = encoded is_unreserved bytes

pub coded_bytes : (bytes : List ℕ) → AllByRecursion (λ b. b < 256) bytes → list_all is_code_byte (coded bytes) ≡ true
unfolding encoded coded
coded_bytes [] low = refl
coded_bytes (b ∷ bytes) low =
    let rest : list_all is_code_byte (encoded is_unreserved bytes) ≡ true = coded_bytes bytes low.1 in
    cond_both (is_unreserved b) (b ∷ encoded is_unreserved bytes) (37 ∷ hex_digit (b / 16) ∷ hex_digit (b % 16) ∷ encoded is_unreserved bytes)
    (λ t. list_all is_code_byte t ≡ true)
    (λ kept. and_from (is_code_byte b) (list_all is_code_byte (encoded is_unreserved bytes)) (kept_code b kept) rest)
    (λ other. and_from (is_code_byte (hex_digit (b / 16))) _ (hex_code (b / 16) (let l = low.0 in omega (arith, l)))
    (and_from (is_code_byte (hex_digit (b % 16))) _ (hex_code (b % 16) (omega arith)) rest))

pub coded_some : (bytes : List ℕ) → 0 < length bytes → 0 < length (coded bytes)
unfolding encoded coded
coded_some [] some = absurd (omega (arith, some))
coded_some (b ∷ bytes) some =
    cond_both (is_unreserved b) (b ∷ encoded is_unreserved bytes) (37 ∷ hex_digit (b / 16) ∷ hex_digit (b % 16) ∷ encoded is_unreserved bytes)
    (λ (t : List ℕ). 0 < length t) (λ kept. omega arith) (λ other. omega arith)

-- ---- two hexadecimal digits behind each `%`

begins_more : (xs ys : List ℕ) → begins_code xs ≡ true → begins_code (xs ++ ys) ≡ true
begins_more [] ys h = absurd (true≢false (sym h))
begins_more (a ∷ []) ys h = absurd (true≢false (sym h))
begins_more (a ∷ b ∷ xs) ys h = h

code_kept : (x : ℕ) (xs ys : List ℕ) → (not (x == 37) || begins_code xs) ≡ true → (not (x == 37) || begins_code (xs ++ ys)) ≡ true
code_kept x xs ys h = elim (cases_Bool (x == 37)) [
  | inl is ↦ let k : begins_code xs ≡ true = rw is at h in rw is (begins_more xs ys k)
  | inr other ↦ rw other refl
]

pub coded_both : (xs ys : List ℕ) → is_coded xs ≡ true → is_coded ys ≡ true → is_coded (xs ++ ys) ≡ true
coded_both [] ys h k = k
coded_both (x ∷ xs) ys h k =
    let p = and_parts (not (x == 37) || begins_code xs) (is_coded xs) h in
    and_from (not (x == 37) || begins_code (xs ++ ys)) (is_coded (xs ++ ys)) (code_kept x xs ys p.0) (coded_both xs ys p.1 k)

-- without `%`
pub plain_coded : (xs : List ℕ) → Lacks (λ b. b == 37) xs → is_coded xs ≡ true
plain_coded [] h = refl
plain_coded (x ∷ xs) h = rw h.0 (plain_coded xs h.1)

hex_no_percent : (n : ℕ) → n < 16 → (hex_digit n == 37) ≡ false
hex_no_percent n low = grind (arith, common_steps)

pub coded_coded : (bytes : List ℕ) → AllByRecursion (λ b. b < 256) bytes → is_coded (coded bytes) ≡ true
unfolding encoded coded
coded_coded [] low = refl
coded_coded (b ∷ bytes) low =
    let rest : is_coded (encoded is_unreserved bytes) ≡ true = coded_coded bytes low.1 in
    let high : b / 16 < 16 = let l = low.0 in omega (arith, l) in
    let less : b % 16 < 16 = omega arith in
    cond_both (is_unreserved b) (b ∷ encoded is_unreserved bytes) (37 ∷ hex_digit (b / 16) ∷ hex_digit (b % 16) ∷ encoded is_unreserved bytes)
    (λ t. is_coded t ≡ true)
    (λ kept. rw (ne_eqb b 37 (λ e. true≢false (sym kept ∙ ap is_unreserved e))) rest)
    (λ other. and_from _ _ (and_from _ _ (hex_hex (b / 16) high) (hex_hex (b % 16) less))
    (rw (hex_no_percent (b / 16) high, hex_no_percent (b % 16) less) rest))

-- ---- elements

-- what a link needs of an element
pub record IsPlain (e : Entry) : Type 0 where
  pub ai_digits : list_all is_ascii_digit e.ai ≡ true
  pub ai_some : 0 < length e.ai
  pub value_some : 0 < length e.value
  pub value_low : AllByRecursion (λ b. b < 256) e.value
  pub gtin : bytes_eq e.ai (codes "01") ≡ true → length e.value ≡ 14

abbrev pub ArePlain : List Entry → Type 0
ArePlain es = AllByRecursion IsPlain es

ai_code : (e : Entry) → IsPlain e → list_all is_code_byte e.ai ≡ true
ai_code e h = all_weaker is_ascii_digit is_code_byte digit_code e.ai h.ai_digits

value_code : (e : Entry) → IsPlain e → list_all is_code_byte (coded e.value) ≡ true
value_code e h = coded_bytes e.value h.value_low

-- an element with its value in codes
abbrev pub coded_entry : Entry → Entry
coded_entry e = record { ai = e.ai; value = coded e.value }

-- ---- the path

-- a path behind its first sign
pub path_rest : Entry → List Entry → List ℕ
path_rest e es = e.ai ++ (47 ∷ (coded e.value ++ coded_elements 47 47 47 es))

pub path_is : (e : Entry) (es : List Entry) → coded_elements 47 47 47 (e ∷ es) ≡ 47 ∷ path_rest e es
unfolding coded path_rest
path_is e es = refl

no_slash : (e : Entry) → IsPlain e → Lacks (λ b. b == 47) (coded e.value)
no_slash e h = lacks is_code_byte 47 refl (coded e.value) (value_code e h)

ai_segment : (e : Entry) (rest : List ℕ) → IsPlain e → segments (e.ai ++ (47 ∷ rest)) ≡ e.ai ∷ segments rest
ai_segment e rest h = split_at (λ b. b == 47) e.ai 47 rest (lacks is_code_byte 47 refl e.ai (ai_code e h)) refl

pub path_segments : (e : Entry) (es : List Entry) → IsPlain e → ArePlain es → segments (path_rest e es) ≡ spread (map coded_entry (e ∷ es))
unfolding coded path_rest
path_segments e [] h hs =
    ai_segment e (coded e.value ++ []) h
    ∙ ap (λ (l : List (List ℕ)). e.ai ∷ l) (ap segments (append-nil (coded e.value)) ∙ split_none (λ b. b == 47) (coded e.value) (no_slash e h))
path_segments e (f ∷ fs) h hs =
    ai_segment e (coded e.value ++ (47 ∷ path_rest f fs)) h
    ∙ ap (λ (l : List (List ℕ)). e.ai ∷ l) (split_at (λ b. b == 47) (coded e.value) 47 (path_rest f fs) (no_slash e h) refl
    ∙ ap (λ (l : List (List ℕ)). coded e.value ∷ l) (path_segments f fs hs.0 hs.1))

-- a path ends with a value
pub record EndsCoded (text : List ℕ) : Type 0 where
  pub front : List ℕ
  pub last : List ℕ
  pub text_is : text ≡ front ++ last
  pub some : 0 < length last
  pub code : list_all is_code_byte last ≡ true

pub path_ends : (e : Entry) (es : List Entry) → IsPlain e → ArePlain es → EndsCoded (path_rest e es)
unfolding coded path_rest
path_ends e [] h hs = record {
  front = e.ai ++ 47 ∷ [];
  last = coded e.value;
  text_is = ap (λ t. e.ai ++ (47 ∷ t)) (append-nil (coded e.value)) ∙ sym (append_assoc e.ai (47 ∷ []) (coded e.value));
  some = coded_some e.value h.value_some;
  code = value_code e h;
}
path_ends e (f ∷ fs) h hs =
    let more = path_ends f fs hs.0 hs.1 in
    record {
      front = e.ai ++ (47 ∷ (coded e.value ++ (47 ∷ more.front)));
      last = more.last;
      text_is =
          ap (λ t. e.ai ++ (47 ∷ (coded e.value ++ (47 ∷ t)))) more.text_is
          ∙ ap (λ t. e.ai ++ (47 ∷ t)) (sym (append_assoc (coded e.value) (47 ∷ more.front) more.last))
          ∙ sym (append_assoc e.ai (47 ∷ (coded e.value ++ (47 ∷ more.front))) more.last);
      some = more.some;
      code = more.code;
    }

-- ---- the query

-- a query behind its first sign
pub query_rest : Entry → List Entry → List ℕ
query_rest e es = e.ai ++ (61 ∷ (coded e.value ++ coded_elements 38 38 61 es))

pub query_is : (first : ℕ) (e : Entry) (es : List Entry) → coded_elements first 38 61 (e ∷ es) ≡ first ∷ query_rest e es
unfolding coded query_rest
query_is first e es = refl

pub parameter : Entry → List ℕ
parameter e = e.ai ++ (61 ∷ coded e.value)

no_ampersand : (e : Entry) → IsPlain e → Lacks (λ b. b == 38) (parameter e)
unfolding parameter
no_ampersand e h =
    lacks_both (λ b. b == 38) e.ai (61 ∷ coded e.value) (lacks is_code_byte 38 refl e.ai (ai_code e h))
    (refl, lacks is_code_byte 38 refl (coded e.value) (value_code e h))

pub query_parameters : (e : Entry) (es : List Entry) → IsPlain e → ArePlain es → parameters (query_rest e es) ≡ map parameter (e ∷ es)
unfolding coded query_rest parameter
query_parameters e [] h hs =
    ap (λ t. parameters (e.ai ++ (61 ∷ t))) (append-nil (coded e.value)) ∙ whole (no_ampersand e h) where
      whole : Lacks (λ b. b == 38) (parameter e) → parameters (e.ai ++ (61 ∷ coded e.value)) ≡ parameter e ∷ []
      whole none = split_none (λ b. b == 38) (e.ai ++ (61 ∷ coded e.value)) none
query_parameters e (f ∷ fs) h hs =
    ap parameters (sym (append_assoc e.ai (61 ∷ coded e.value) (38 ∷ query_rest f fs)))
    ∙ first (no_ampersand e h)
    ∙ ap (λ (l : List (List ℕ)). parameter e ∷ l) (query_parameters f fs hs.0 hs.1) where
      first : Lacks (λ b. b == 38) (parameter e)
          → parameters ((e.ai ++ (61 ∷ coded e.value)) ++ (38 ∷ query_rest f fs)) ≡ parameter e ∷ parameters (query_rest f fs)
      first none = split_at (λ b. b == 38) (e.ai ++ (61 ∷ coded e.value)) 38 (query_rest f fs) none refl

module _ (read : CodesAreRead) where
  pub value_read : (plus : ℕ) (e : Entry) → IsPlain e → decoded plus (coded e.value) ≡ e.value
  unfolding coded
  value_read plus e h = read plus is_unreserved e.value refl refl h.value_low

  pub name_is : (e : Entry) → IsPlain e → name_of (parameter e) ≡ e.ai
  unfolding parameter
  name_is e h = before_at (λ b. b == 61) e.ai 61 (coded e.value) (lacks is_code_byte 61 refl e.ai (ai_code e h)) refl

  entry_is : (e : Entry) → IsPlain e → query_entry (parameter e) ≡ e
  unfolding parameter
  entry_is e h =
      ap₂ (λ (a v : List ℕ). record { ai = a; value = v }) (name_is e h)
      (ap (decoded 32) (behind_at (λ b. b == 61) e.ai 61 (coded e.value) (lacks is_code_byte 61 refl e.ai (ai_code e h)) refl) ∙ value_read 32 e h)

  named : (e : Entry) → IsPlain e → is_ai (name_of (parameter e)) ≡ true
  named e h = ap is_ai (name_is e h) ∙ and_from (not (length e.ai == 0)) (list_all is_ascii_digit e.ai) (some (length e.ai) h.ai_some) h.ai_digits where
    some : (n : ℕ) → 0 < n → not (n == 0) ≡ true
    some n low = rw (ne_eqb n 0 (λ e. omega (arith, e, low))) refl

  pub query_read : (es : List Entry) → ArePlain es → query_entries (map parameter es) ≡ es
  query_read [] hs = refl
  query_read (e ∷ es) hs = rw (named e hs.0) (ap₂ (λ (f : Entry) (fs : List Entry). f ∷ fs) (entry_is e hs.0) (query_read es hs.1))

  path_entry_is : (e : Entry) → IsPlain e → path_entry e.ai (coded e.value) ≡ e
  path_entry_is e h = elim (cases_Bool (bytes_eq e.ai (codes "01"))) [
    | inl gtin ↦ rw (gtin, value_read 43 e h) (ap (λ v. record { ai = e.ai; value = v }) (fourteen_is e.value (h.gtin gtin)))
    | inr other ↦ rw (other, value_read 43 e h) refl
  ] where
    fourteen_is : (v : List ℕ) → length v ≡ 14 → fourteen v ≡ v
    fourteen_is v long = rw long refl

  pub path_read : (es : List Entry) → ArePlain es → path_entries (spread (map coded_entry es)) ≡ es
  path_read [] hs = refl
  path_read (e ∷ es) hs = ap₂ (λ (f : Entry) (fs : List Entry). f ∷ fs) (path_entry_is e hs.0) (path_read es hs.1)

-- ---- all bytes

-- bytes of a URI, none of which is in a list of signs, and two digits behind each `%`
pub record IsWritten (text : List ℕ) : Type 0 where
  pub graphic : list_all is_ascii_graphic text ≡ true
  pub coded_is : is_coded text ≡ true

pub both_written : (xs ys : List ℕ) → IsWritten xs → IsWritten ys → IsWritten (xs ++ ys)
both_written xs ys a b = record { graphic = all_both is_ascii_graphic xs ys a.graphic b.graphic; coded_is = coded_both xs ys a.coded_is b.coded_is }

ai_written : (e : Entry) → IsPlain e → IsWritten e.ai
ai_written e h = record {
  graphic = all_weaker is_code_byte is_ascii_graphic code_graphic e.ai (ai_code e h);
  coded_is = plain_coded e.ai (lacks is_ascii_digit 37 refl e.ai h.ai_digits);
}

value_written : (e : Entry) → IsPlain e → IsWritten (coded e.value)
value_written e h = record {
  graphic = all_weaker is_code_byte is_ascii_graphic code_graphic (coded e.value) (value_code e h);
  coded_is = coded_coded e.value h.value_low;
}

-- a sign of a link
abbrev pub IsSign : ℕ → Type 0
IsSign b = (is_ascii_graphic b ≡ true) × ((b == 37) ≡ false)

sign_written : (b : ℕ) (text : List ℕ) → IsSign b → IsWritten text → IsWritten (b ∷ text)
sign_written b text is h = record {
  graphic = and_from (is_ascii_graphic b) (list_all is_ascii_graphic text) is.0 h.graphic;
  coded_is = rw is.1 h.coded_is;
}

pub elements_written : (first next between : ℕ) (es : List Entry) → IsSign first → IsSign next → IsSign between → ArePlain es
    → IsWritten (coded_elements first next between es)
unfolding coded
elements_written first next between [] a b c hs = record { graphic = refl; coded_is = refl }
elements_written first next between (e ∷ es) a b c hs =
    sign_written first _ a
    (both_written e.ai _ (ai_written e hs.0)
    (sign_written between _ c (both_written (coded e.value) _ (value_written e hs.0) (elements_written next next between es b b c hs.1))))

pub elements_lack : (c first next between : ℕ) (es : List Entry) → is_code_byte c ≡ false → (first == c) ≡ false → (next == c) ≡ false → (between == c) ≡ false
    → ArePlain es → Lacks (λ b. b == c) (coded_elements first next between es)
unfolding coded
elements_lack c first next between [] out f n b hs = tt
elements_lack c first next between (e ∷ es) out f n b hs = (
  f,
  lacks_both (λ x. x == c) e.ai _ (lacks is_code_byte c out e.ai (ai_code e hs.0))
      (b, lacks_both (λ x. x == c) (coded e.value) _ (lacks is_code_byte c out (coded e.value) (value_code e hs.0)) (elements_lack c next next between es out n n b hs.1)),
)
