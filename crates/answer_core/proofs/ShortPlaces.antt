-- The places of errors are below 65535, which is no place in an answer.
use Rattle.std.proofs.Common.{◌≡◌, ◌==◌, ◌<◌, ◌≤◌, ◌+◌, ◌%◌, ◌∙◌, ℕ, Bool, true, false, if◌then◌else◌, List, [], ◌∷◌, ◌++◌, Option, None, Some, Ok, Err, MatchOption, ap, arith, decimal, drop, inl, inr, is_ok, length, nat_le, nat_lt, not, refl, rules, slice_index, subst, sym, true≢false}
use Rattle.std.specs.Char.{is_ascii_digit}
use Rattle.std.specs.List.{list_all}
use Rattle.std.specs.Str.Parse.{digits_value}
use Rattle.std.proofs.lemmas.Bool.{and_parts, both_ways, eqb-true, leb-true, ltb-false, ltb-true, ne_eqb, or_cases}
use Rattle.std.proofs.lemmas.Option.{cond_some, none-some, same_Some}
use Rattle.std.proofs.lemmas.Fmt.{decimal_injective, digits_decimal}
use Rattle.std.proofs.lemmas.Str.Parse.{IsNumeralModel, numerals_by_value}
use Rattle.digits_core.specs.Digits.{digits_of, weighted}
use Rattle.digits_core.specs.Faults.{digit_fault_text}
use Rattle.digits_core.specs.Gtins.{digits_fault, first_other, gtin_fault, is_gtin_length}
use Rattle.digits_core.specs.Payloads.{not_digits}
use Rattle.digits_core.specs.Refusals.{refusal_text, refusal_words}
use Rattle.digits_core.specs.declared.fault.DigitFault.{DigitFault}
use Rattle.digits_core.specs.declared.fault.DigitFault.TheVariants as digits
use Rattle.digits_core.specs.declared.refusal.RefusalKind.{RefusalKind}
use Rattle.digits_core.specs.declared.refusal.RefusalKind.TheVariants as refusal
use Rattle.element_core.specs.Elements.{Entry, FirstFault, StopsWith, fault_by, row_fault, each_part, has_whole_steps, has_characters, has_check_digit, canonical}
use Rattle.element_core.specs.Faults.{element_fault_text}
use Rattle.element_core.specs.Pairs.{entries_fault, entry_fault, entry_fault_by, list_fault, or_else}
use Rattle.element_core.specs.Table.{Row, greatest_of, least_of}
use Rattle.element_core.specs.Terms.{Terms, row_by_terms}
use Rattle.element_core.specs.Times.{is_named}
use Rattle.element_core.specs.declared.part.Part.{Part}
use Rattle.element_core.specs.declared.fault.ElementFault.{ElementFault}
use Rattle.element_core.specs.declared.fault.ElementFault.TheVariants as element
use Rattle.code128_code.specs.Faults.{code128_fault_text}
use Rattle.code128_code.specs.declared.fault.Code128Fault.{Code128Fault}
use Rattle.code128_code.specs.declared.fault.Code128Fault.TheVariants as code128
use Rattle.scan_core.specs.Answers.{IsRefused}
use Rattle.scan_core.specs.Faults.{row_fault_text, run_fault_text}
use Rattle.scan_core.specs.declared.fault.RowFault.{RowFault}
use Rattle.scan_core.specs.declared.fault.RowFault.TheVariants as rows
use Rattle.scan_core.specs.declared.fault.RunFault.{RunFault}
use Rattle.scan_core.specs.declared.fault.RunFault.TheVariants as runs
use Rattle.message_core.specs.Faults.{message_fault_text}
use Rattle.message_core.specs.Links.{entries_said_by, fits, fits_all, link_entries, link_said, link_said_by}
use Rattle.message_core.specs.Messages.{IsEanUpcBy, IsHeadSaid, IsMessage, IsStringSaid, IsSymbolSaid, Outcome, gtin_said, gtin_said_by, sized_said}
use Rattle.message_core.specs.Spellings.{spelled, without_separator}
use Rattle.message_core.specs.Upce.{IsUpceFault, IsUpceSaid, system_fault, upce_fault}
use Rattle.message_core.specs.declared.fault.MessageFault.{MessageFault}
use Rattle.message_core.specs.declared.fault.MessageFault.TheVariants as message
use Rattle.message_core.specs.declared.head.Head.{Head}
use Rattle.message_core.specs.declared.head.Head.TheVariants as head
use Rattle.message_core.specs.declared.symbology.Symbology.{Symbology}
use Rattle.message_core.specs.declared.symbology.Symbology.TheVariants as symbology
use Rattle.answer_core.specs.inner.Answers.{IsShort}

-- ---- what stands behind the last space of a line

abbrev first_some : Option (List ℕ) → Option (List ℕ) → Option (List ℕ)
first_some (Some t) other = Some t
first_some None other = other

abbrev behind_last : List ℕ → Option (List ℕ)
behind_last [] = None
behind_last (b ∷ line) = first_some (behind_last line) (if b == 32 then Some line else None)

-- it is a number
abbrev is_number : Option (List ℕ) → Bool
is_number None = false
is_number (Some ds) = list_all is_ascii_digit ds

numerals : IsNumeralModel (λ ds. list_all is_ascii_digit ds ≡ true) (digits_value 10)
numerals = numerals_by_value (λ ds. list_all is_ascii_digit ds ≡ true) (search rules)

no_space : (b : ℕ) → is_ascii_digit b ≡ true → (b == 32) ≡ false
no_space b digit = ne_eqb b 32 (λ same. both_ways (is_ascii_digit 32) refl (ap is_ascii_digit (sym same) ∙ digit))

digits_alone : (ds : List ℕ) → list_all is_ascii_digit ds ≡ true → behind_last ds ≡ None
digits_alone [] all = refl
digits_alone (d ∷ ds) all =
    let parts = and_parts (is_ascii_digit d) (list_all is_ascii_digit ds) all in
    rw (digits_alone ds parts.1, no_space d parts.0) refl

behind_space : (w ds : List ℕ) → behind_last ds ≡ None → behind_last (w ++ (32 ∷ ds)) ≡ Some ds
behind_space [] ds none = rw none refl
behind_space (b ∷ w) ds none = rw (behind_space w ds none) refl

place_behind : (kind : RefusalKind) (place : ℕ) → place < 18446744073709551616 → behind_last (refusal_text kind (Some place)) ≡ Some (decimal place)
place_behind kind place small = behind_space (refusal_words kind) (decimal place) (digits_alone (decimal place) (digits_decimal numerals place small))

-- ---- lines of errors

-- words of which the last is no number
words_short : (line : List ℕ) → is_number (behind_last line) ≡ false → IsShort line
words_short line other kind place small is =
    let last : behind_last line ≡ Some (decimal place) = ap behind_last is ∙ place_behind kind place small in
    absurd (both_ways (is_number (behind_last line)) other (ap is_number last ∙ digits_decimal numerals place small))

placed_short : (kind : RefusalKind) (p : ℕ) → p < 65535 → IsShort (refusal_text kind (Some p))
placed_short kind p below k place small is =
    let last : Some (decimal p) ≡ Some (decimal place) = sym (place_behind kind p (omega (arith, below))) ∙ (ap behind_last is ∙ place_behind k place small) in
    omega (arith, below, decimal_injective p place (omega (arith, below)) small (same_Some (decimal p) (decimal place) last))

-- ---- digits

other_within : (text : List ℕ) (p : ℕ) → first_other text ≡ Some p → p < length text
other_within text p is =
    let parts = cond_some _ _ p is in
    omega (arith, ltb-true _ _ parts.0, parts.1)

not_digits_short : (o : Option ℕ) (f : DigitFault) → ((p : ℕ) → o ≡ Some p → p < 65535) → not_digits o ≡ Some f → IsShort (digit_fault_text f)
not_digits_short None f small is = absurd (none-some f is)
not_digits_short (Some p) f small is =
    subst (λ g. IsShort (digit_fault_text g)) (same_Some (digits.NotDigit p) f is) (placed_short refusal.NotDigit p (small p refl))

check_short : (right : Bool) (f : DigitFault) → (if right then None else Some digits.CheckDigit) ≡ Some f → IsShort (digit_fault_text f)
check_short true f is = absurd (none-some f is)
check_short false f is = subst (λ g. IsShort (digit_fault_text g)) (same_Some digits.CheckDigit f is) (words_short (refusal_words refusal.CheckDigit) refl)

digits_short : (text : List ℕ) (o : Option ℕ) (f : DigitFault) → ((p : ℕ) → o ≡ Some p → p < 65535) → digits_fault text o ≡ Some f
    → IsShort (digit_fault_text f)
digits_short text (Some p) f small is =
    subst (λ g. IsShort (digit_fault_text g)) (same_Some (digits.NotDigit p) f is) (placed_short refusal.NotDigit p (small p refl))
digits_short text None f small is = check_short (weighted (digits_of text) % 10 == 0) f is

few_digits : (n : ℕ) → is_gtin_length n ≡ true → n < 65535
few_digits n is = elim (or_cases (n == 8) _ is) [
  | inl e ↦ omega (arith, eqb-true n 8 e)
  | inr more ↦ elim (or_cases (n == 12) _ more) [
    | inl e ↦ omega (arith, eqb-true n 12 e)
    | inr last ↦ elim (or_cases (n == 13) (n == 14) last) [
      | inl e ↦ omega (arith, eqb-true n 13 e)
      | inr e ↦ omega (arith, eqb-true n 14 e)
    ]
  ]
]

length_short : IsShort (digit_fault_text digits.Length)
length_short = words_short (refusal_words refusal.Length) refl

-- a fault of the digits, or of their length
length_or_short : (fits : Bool) (o : Option DigitFault) (f : DigitFault) → (fits ≡ true → o ≡ Some f → IsShort (digit_fault_text f))
    → (if fits then o else Some digits.Length) ≡ Some f → IsShort (digit_fault_text f)
length_or_short true o f short is = short refl is
length_or_short false o f short is = subst (λ g. IsShort (digit_fault_text g)) (same_Some digits.Length f is) length_short

pub gtin_short : (text : List ℕ) (f : DigitFault) → gtin_fault text ≡ Some f → IsShort (digit_fault_text f)
gtin_short text f is =
    length_or_short (is_gtin_length (length text)) (digits_fault text (first_other text)) f
    (λ few. digits_short text (first_other text) f (λ p e. omega (arith, other_within text p e, few_digits (length text) few))) is

-- ---- elements

abbrev ShortElement : ElementFault → Type 0
ShortElement f = IsShort (element_fault_text f)

-- the first of two tests that fails
either_short : (c : Bool) (g : ElementFault) (rest : Option ElementFault) (f : ElementFault) → ShortElement g → (rest ≡ Some f → ShortElement f)
    → (if c then Some g else rest) ≡ Some f → ShortElement f
either_short true g rest f short more is = subst ShortElement (same_Some g f is) short
either_short false g rest f short more is = more is

part_short : (year place : ℕ) (too_long : ElementFault) (parts : List Part) (value : List ℕ) (f : ElementFault) → place < 65535 → ShortElement too_long
    → row_fault year place too_long parts value ≡ Some f → ShortElement f
part_short year place too_long parts value f below long is =
    either_short (nat_lt (length value) (least_of parts)) (element.ValueLength place) _ f (placed_short refusal.ValueLength place below) (λ a.
    either_short (nat_lt (greatest_of parts) (length value)) too_long _ f long (λ b.
    either_short (not (each_part has_whole_steps parts value)) (element.ValueLength place) _ f (placed_short refusal.ValueLength place below) (λ d.
    either_short (not (each_part has_characters parts value)) (element.ValueCharacter place) _ f (placed_short refusal.ValueCharacter place below) (λ e.
    either_short (not (each_part has_check_digit parts value)) (element.ValueCheckDigit place) _ f (placed_short refusal.ValueCheckDigit place below) (λ g.
    either_short (not (each_part (λ p. is_named year p.rule) parts value)) (element.ValueDate place) None f (placed_short refusal.ValueDate place below)
    (λ none. absurd (none-some f none)) g) e) d) b) a) is

by_row_short : (terms : Terms) (place : ℕ) (text : List ℕ) (row : Option Row) (f : ElementFault) → place < 65535 → fault_by terms place text row ≡ Some f → ShortElement f
by_row_short terms place text None f below is = subst ShortElement (same_Some (element.UnknownAi place) f is) (placed_short refusal.UnknownAi place below)
by_row_short terms place text (Some row) f below is =
    part_short terms.year place (element.MissingSeparator place) row.parts _ f below (placed_short refusal.MissingSeparator place below) is

long_short : ShortElement element.TooLong
long_short = words_short (refusal_words refusal.TooLong) refl

empty_short : ShortElement element.Empty
empty_short = words_short (refusal_words refusal.Empty) refl

by_size_short : (terms : Terms) (text : List ℕ) (f : ElementFault) (long empty : Bool) → nat_lt 192 (length text) ≡ long
    → MatchOption (if long then Some element.TooLong else if empty then Some element.Empty else None) (StopsWith terms text f) (λ g. f ≡ g) → ShortElement f
by_size_short terms text f true empty long first = subst ShortElement (sym first) long_short
by_size_short terms text f false true long first = subst ShortElement (sym first) empty_short
by_size_short terms text f false false long first =
    by_row_short terms first.place first.rest (row_by_terms terms first.rest) f (omega (arith, first.place_is, ltb-false 192 (length text) long)) first.fault

pub element_short : (terms : Terms) (text : List ℕ) (f : ElementFault) → FirstFault terms text f → ShortElement f
element_short terms text f first = by_size_short terms text f (nat_lt 192 (length text)) (length text == 0) refl first

-- ---- lists of elements

by_ai_short : (terms : Terms) (i : ℕ) (e : Entry) (row : Option Row) (f : ElementFault) → i < 65535 → entry_fault_by terms i e row ≡ Some f → ShortElement f
by_ai_short terms i e None f below is = subst ShortElement (same_Some (element.UnknownAi i) f is) (placed_short refusal.UnknownAi i below)
by_ai_short terms i e (Some row) f below is =
    either_short (not (length e.ai == length row.ai)) (element.UnknownAi i) _ f (placed_short refusal.UnknownAi i below)
    (part_short terms.year i (element.ValueLength i) row.parts e.value f below (placed_short refusal.ValueLength i below)) is

else_short : (o p : Option ElementFault) (f : ElementFault) → (o ≡ Some f → ShortElement f) → (p ≡ Some f → ShortElement f) → or_else o p ≡ Some f → ShortElement f
else_short None p f first second is = second is
else_short (Some g) p f first second is = first is

entries_short : (terms : Terms) (i : ℕ) (es : List Entry) (f : ElementFault) → i + length es < 65535 → entries_fault terms i es ≡ Some f → ShortElement f
entries_short terms i [] f few is = absurd (none-some f is)
entries_short terms i (e ∷ es) f few is =
    else_short (entry_fault terms i e) (entries_fault terms (i + 1) es) f (by_ai_short terms i e (row_by_terms terms e.ai) f (omega (arith, few)))
    (entries_short terms (i + 1) es f (omega (arith, few))) is

list_short : (terms : Terms) (es : List Entry) (f : ElementFault) → length es ≤ 48 → list_fault terms es ≡ Some f → ShortElement f
list_short terms es f few is =
    either_short (length es == 0) element.Empty _ f empty_short
    (else_short (entries_fault terms 0 es) _ f (entries_short terms 0 es f (omega (arith, few)))
    (either_short (nat_lt 192 (length (canonical es))) element.TooLong None f long_short (λ none. absurd (none-some f none)))) is

-- ---- messages

abbrev ShortMessage : Outcome → Type 0
ShortMessage told = (f : MessageFault) → told ≡ Err f → IsShort (message_fault_text f)

abbrev message_of : MessageFault → Outcome → MessageFault
message_of f (Ok es) = f
message_of f (Err g) = g

short_error : (g : MessageFault) → IsShort (message_fault_text g) → ShortMessage (Err g)
short_error g short f is = subst (λ h. IsShort (message_fault_text h)) (ap (message_of g) is) short

short_elements : (es : List Entry) → ShortMessage (Ok es)
short_elements es f is = absurd (true≢false (ap is_ok is))

either_told : (c : Bool) (a b : Outcome) → ShortMessage a → ShortMessage b → ShortMessage (if c then a else b)
either_told true a b first second = first
either_told false a b first second = second

-- the same of what is said
same_short : (told other : Outcome) → told ≡ other → ShortMessage other → ShortMessage told
same_short told other same short = subst ShortMessage (sym same) short

gtin_by_short : (text : List ℕ) (o : Option DigitFault) → ((f : DigitFault) → o ≡ Some f → IsShort (digit_fault_text f)) → ShortMessage (gtin_said_by text o)
gtin_by_short text None short = short_elements _
gtin_by_short text (Some f) short = short_error (message.Digits f) (short f refl)

gtin_said_short : (text : List ℕ) → ShortMessage (gtin_said text)
gtin_said_short text = gtin_by_short text (gtin_fault text) (gtin_short text)

length_said_short : ShortMessage (Err (message.Digits digits.Length))
length_said_short = short_error (message.Digits digits.Length) length_short

sized_short : (size : ℕ) (text : List ℕ) → ShortMessage (sized_said size text)
sized_short size text = either_told (length text == size) (gtin_said text) _ (gtin_said_short text) length_said_short

system_digit_short : (zero : Bool) (f : DigitFault) → (if zero then None else Some digits.Length) ≡ Some f → IsShort (digit_fault_text f)
system_digit_short true f is = absurd (none-some f is)
system_digit_short false f is = subst (λ g. IsShort (digit_fault_text g)) (same_Some digits.Length f is) length_short

system_short : (text : List ℕ) (o : Option DigitFault) (f : DigitFault) → ((g : DigitFault) → o ≡ Some g → IsShort (digit_fault_text g))
    → system_fault text o ≡ Some f → IsShort (digit_fault_text f)
system_short text (Some g) f short is = short f is
system_short text None f short is = system_digit_short (slice_index text 0 == 48) f is

upce_short : (text : List ℕ) (f : DigitFault) → upce_fault text ≡ Some f → IsShort (digit_fault_text f)
upce_short text f is =
    length_or_short (length text == 8) (system_fault text (not_digits (first_other text))) f
    (λ eight. system_short text (not_digits (first_other text)) f
    (λ g. not_digits_short (first_other text) g (λ p e. omega (arith, other_within text p e, eqb-true (length text) 8 eight)))) is

upce_fault_short : (text : List ℕ) (f : DigitFault) → IsUpceFault text f → IsShort (digit_fault_text f)
upce_fault_short text digits.CheckDigit is = words_short (refusal_words refusal.CheckDigit) refl
upce_fault_short text digits.Length is = length_short
upce_fault_short text (digits.NotDigit place) is = upce_short text (digits.NotDigit place) is

upce_said_short : (text : List ℕ) (told : Outcome) → IsUpceSaid text told → ShortMessage told
upce_said_short text (Ok es) is = short_elements es
upce_said_short text (Err (message.Digits f)) is = short_error (message.Digits f) (upce_fault_short text f is)
upce_said_short text (Err (message.Elements f)) is = absurd is
upce_said_short text (Err message.Kind) is = absurd is

ean_upc_short : (eight : Bool) (text : List ℕ) (told : Outcome) → IsEanUpcBy eight text told → ShortMessage told
ean_upc_short true text told is = upce_said_short text told is
ean_upc_short false text told is =
    same_short told _ is (either_told (length text == 14) _ (gtin_said text) length_said_short (gtin_said_short text))

string_short : (terms : Terms) (text : List ℕ) (told : Outcome) → IsStringSaid terms text told → ShortMessage told
string_short terms text (Ok es) is = short_elements es
string_short terms text (Err (message.Elements f)) is = short_error (message.Elements f) (element_short terms (spelled (without_separator text)) f is)
string_short terms text (Err (message.Digits f)) is = absurd is
string_short terms text (Err message.Kind) is = absurd is

kind_short : ShortMessage (Err message.Kind)
kind_short = short_error message.Kind (words_short (refusal_words refusal.Kind) refl)

said_by_short : (es : List Entry) (o : Option ElementFault) → ((f : ElementFault) → o ≡ Some f → ShortElement f) → ShortMessage (entries_said_by es o)
said_by_short es None short = short_elements es
said_by_short es (Some f) short = short_error (message.Elements f) (short f refl)

entries_said_short : (terms : Terms) (es : List Entry) (fit : Bool) → fits es ≡ fit
    → ShortMessage (if fit then entries_said_by es (list_fault terms es) else Err (message.Elements element.TooLong))
entries_said_short terms es false other = short_error (message.Elements element.TooLong) long_short
entries_said_short terms es true fit =
    said_by_short es (list_fault terms es) (λ f. list_short terms es f (leb-true (length es) 48 (and_parts (nat_le (length es) 48) (fits_all es) fit).0))

link_by_short : (terms : Terms) (o : Option (List Entry)) → ShortMessage (link_said_by terms o)
link_by_short terms None = kind_short
link_by_short terms (Some es) = entries_said_short terms es (fits es) refl

link_short : (terms : Terms) (text : List ℕ) → ShortMessage (link_said terms text)
link_short terms text = link_by_short terms (link_entries text)

symbol_short : (s : Symbology) (terms : Terms) (text : List ℕ) (told : Outcome) → IsSymbolSaid s terms text told → ShortMessage told
symbol_short symbology.EanUpc terms text told is = ean_upc_short (length text == 8) text told is
symbol_short symbology.Ean8 terms text told is = same_short told _ is (sized_short 8 text)
symbol_short symbology.Itf14 terms text told is = same_short told _ is (sized_short 14 text)
symbol_short symbology.LinkDataMatrix terms text told is = same_short told _ is (link_short terms text)
symbol_short symbology.LinkQrCode terms text told is = same_short told _ is (link_short terms text)
symbol_short symbology.Gs1128 terms text told is = string_short terms text told is
symbol_short symbology.DataBar terms text told is = string_short terms text told is
symbol_short symbology.DataMatrix terms text told is = string_short terms text told is
symbol_short symbology.QrCode terms text told is = string_short terms text told is
symbol_short symbology.DotCode terms text told is = string_short terms text told is

head_short : (terms : Terms) (text : List ℕ) (h : Option Head) (told : Outcome) → IsHeadSaid terms text h told → ShortMessage told
head_short terms text (Some (head.Symbology s)) told is = symbol_short s terms (drop 3 text) told is
head_short terms text (Some head.Separator) told is = string_short terms text told is
head_short terms text (Some head.Digits) told is = same_short told _ is (gtin_said_short text)
head_short terms text (Some head.Link) told is = same_short told _ is (link_short terms text)
head_short terms text None told is = same_short told _ is kind_short

pub message_short : (terms : Terms) (text : List ℕ) (h : Option Head) (f : MessageFault) → IsMessage terms text h (Err f) → IsShort (message_fault_text f)
message_short terms text h f m = head_short terms m.0 h (Err f) m.3 f refl

-- ---- rows

code128_short : (f : Code128Fault) → IsShort (code128_fault_text f)
code128_short code128.CheckCharacter = words_short (refusal_words refusal.CheckCharacter) refl
code128_short code128.NotGs1 = words_short (refusal_words refusal.NotGs1) refl
code128_short code128.FunctionCharacter = words_short (refusal_words refusal.FunctionCharacter) refl
code128_short code128.CodeSet = words_short (refusal_words refusal.CodeSet) refl

pub row_short : (runs : List ℕ) (terms : Terms) (f : RowFault) → IsRefused runs terms f → IsShort (row_fault_text f)
row_short runs terms rows.Blank is = words_short (refusal_words refusal.Blank) refl
row_short runs terms rows.RunCount is = words_short (refusal_words refusal.RunCount) refl
row_short runs terms rows.QuietZone is = words_short (refusal_words refusal.QuietZone) refl
row_short runs terms rows.Modules is = words_short (refusal_words refusal.Modules) refl
row_short runs terms rows.Pattern is = words_short (refusal_words refusal.Pattern) refl
row_short runs terms rows.SymbolCheckDigit is = words_short (refusal_words refusal.SymbolCheckDigit) refl
row_short runs terms (rows.Code128 f) is = code128_short f
row_short runs terms (rows.Elements f) is = element_short terms is.1 f is.3

pub run_short : (f : RunFault) → IsShort (run_fault_text f)
run_short runs.TooWide = words_short (refusal_words refusal.TooWide) refl
run_short runs.BadRuns = words_short (refusal_words refusal.BadRuns) refl
run_short runs.NoMemory = words_short (refusal_words refusal.NoMemory) refl

-- the same line
pub short_as : (line other : List ℕ) → line ≡ other → IsShort other → IsShort line
short_as line other is short = subst IsShort (sym is) short
