-- The lines of answers.
use Rattle.std.proofs.Common.{◌≡◌, ◌⊎◌, ◌∙◌, ◌+◌, ◌<◌, ◌≤◌, ◌++◌, ◌∷◌, [], List, Err, None, Ok, Option, Some, ap, ap₂, arith, drop, false, inl, inr, length, map, refl, sym, take, true, ℕ}
use Rattle.std.specs.Prelude.{◌==◌, IfSome}
use Rattle.std.proofs.lemmas.Bool.{cases_Bool, eqb-true, lt-ltb}
use Rattle.std.proofs.lemmas.List.{append-nil}
use Rattle.std.proofs.lemmas.Option.{none-some}
use Rattle.digits_core.specs.Buffers.{pasted}
use Rattle.digits_core.specs.Refusals.{refusal_text, refusal_words}
use Rattle.digits_core.specs.declared.refusal.RefusalKind.{RefusalKind}
use Rattle.digits_core.specs.declared.refusal.RefusalKind.TheVariants as refusal
use Rattle.element_core.specs.Elements.{Entry, canonical, hri, pair_text, pairs_text}
use Rattle.element_core.specs.Faults.{element_fault_text}
use Rattle.element_core.specs.Lines.{elements_text}
use Rattle.element_core.specs.Terms.{Terms}
use Rattle.element_core.specs.declared.form.Form.{Form}
use Rattle.element_core.specs.declared.form.Form.TheVariants as form
use Rattle.message_core.specs.Faults.{message_fault_text}
use Rattle.message_core.specs.Messages.{Outcome, message_text, word_by}
use Rattle.message_core.specs.declared.head.Head.{Head}
use Rattle.message_core.specs.declared.head.Head.TheVariants as head
use Rattle.message_core.specs.declared.symbology.Symbology.TheVariants as symbology
use Rattle.answer_core.specs.Answers.{TellsElements, TellsRefusal, place_number}
use Rattle.scan_core.specs.Faults.{row_fault_text, run_fault_text}
use Rattle.scan_core.specs.Lines.{identifier, said}
use Rattle.scan_core.specs.Row.{runs_fault}
use Rattle.scan_core.specs.declared.answer.Answer as row
use Rattle.scan_core.specs.declared.answer.Answer.TheVariants.{Read, Refused}
use Rattle.scan_core.specs.declared.carrier.Carrier.{Carrier}
use Rattle.scan_core.specs.declared.carrier.Carrier.TheVariants as carrier
use Rattle.scan_core.specs.declared.fault.RunFault.{RunFault}
use Rattle.answer_core.specs.Formats.{before_zero, entries_in, fault_words, format_text, placed_words, word_of, word_or_dash, worded_text}
use Rattle.answer_core.specs.Laws.{LinesTell, MessageLines, RefusedLines, RowLines, StringLines}
use Rattle.answer_core.specs.Places.{entry_at}
use Rattle.answer_core.specs.Reads.{TellsLine, TellsOutcome}
use Rattle.answer_core.specs.Refusals.{refusal_number, refusal_numbered}
use Rattle.answer_core.specs.Rows.{IsDotsBy, IsPackedLine, IsWidthsBy, IsWidthsLine, TellsRowAnswer, packed_fault}
use Rattle.answer_core.specs.Symbols.{as_four, sent_identifier}
use Rattle.answer_core.specs.declared.answer.Answer.{Answer}
use Rattle.answer_core.specs.inner.Formats.{first_opening, opened}
use Rattle.answer_core.proofs.Standing.{entries_are}

-- ---- elements behind their openings

opened_hri : (es : List Entry) → opened form.HumanReadable (40 ∷ []) es ≡ hri es
opened_hri [] = refl
opened_hri (e ∷ es) = ap (λ (t : List ℕ). (40 ∷ e.ai ++ (41 ∷ e.value)) ++ t) (opened_hri es)

opened_pairs : (e : Entry) (es : List Entry) → opened form.Pairs [] (e ∷ es) ≡ pairs_text (e ∷ es)
opened_pairs e [] = append-nil (pair_text e)
opened_pairs e (f ∷ es) = ap (λ (t : List ℕ). pair_text e ++ (9 ∷ t)) (opened_pairs f es)

pub opened_is : (f : Form) (es : List Entry) → opened f (first_opening f) es ≡ elements_text f es
opened_is form.HumanReadable es = opened_hri es
opened_is form.Pairs [] = refl
opened_is form.Pairs (e ∷ es) = opened_pairs e es

-- ---- the bytes before the first 0

pub before_zero_shorter : (bytes : List ℕ) → length (before_zero bytes) ≤ length bytes
before_zero_shorter [] = omega arith
before_zero_shorter (b ∷ bytes) = elim (cases_Bool (b == 0)) [
  | inl is ↦ rw is (omega arith)
  | inr other ↦ rw other (omega (arith, before_zero_shorter bytes))
]

pub before_zero_is : (bytes : List ℕ) → take (length (before_zero bytes)) bytes ≡ before_zero bytes
before_zero_is [] = refl
before_zero_is (b ∷ bytes) = elim (cases_Bool (b == 0)) [
  | inl is ↦ rw is refl
  | inr other ↦ rw other (ap (λ (t : List ℕ). b ∷ t) (before_zero_is bytes))
]

pub dash_if_none : (word : List ℕ) → length word ≡ 0 → 45 ∷ [] ≡ word_or_dash word
dash_if_none [] none = refl
dash_if_none (b ∷ word) none = absurd (omega (arith, none))

pub word_if_some : (word : List ℕ) → 0 < length word → word ≡ word_or_dash word
word_if_some [] some = absurd (omega (arith, some))
word_if_some (b ∷ word) some = refl

word_cases : (word : List ℕ) → (length word ≡ 0) ⊎ (0 < length word)
word_cases [] = inl refl
word_cases (b ∷ word) = inr (omega arith)

pub word_short : (bytes : List ℕ) → length bytes ≤ 4 → length (word_or_dash (before_zero bytes)) ≤ 4
word_short bytes few = elim (word_cases (before_zero bytes)) [
  | inl none ↦ rw (sym (dash_if_none (before_zero bytes) none)) (omega arith)
  | inr some ↦ rw (sym (word_if_some (before_zero bytes) some)) (omega (arith, few, before_zero_shorter bytes))
]

-- ---- a line at the front of a buffer

pub at_front : (out bytes : List ℕ) → pasted out 0 bytes ≡ bytes ++ drop (length bytes) out
at_front out bytes = let count : 0 + length bytes ≡ length bytes = omega arith in ap (λ (k : ℕ). bytes ++ drop k out) count

-- ---- errors by their numbers

pub numbered_kind : (kind : RefusalKind) → refusal_numbered (refusal_number kind) ≡ Some kind
numbered_kind refusal.Length = refl
numbered_kind refusal.NotDigit = refl
numbered_kind refusal.CheckDigit = refl
numbered_kind refusal.Empty = refl
numbered_kind refusal.UnknownAi = refl
numbered_kind refusal.ValueLength = refl
numbered_kind refusal.ValueCharacter = refl
numbered_kind refusal.ValueCheckDigit = refl
numbered_kind refusal.ValueDate = refl
numbered_kind refusal.MissingSeparator = refl
numbered_kind refusal.TooLong = refl
numbered_kind refusal.TooManyCharacters = refl
numbered_kind refusal.CheckCharacter = refl
numbered_kind refusal.NotGs1 = refl
numbered_kind refusal.FunctionCharacter = refl
numbered_kind refusal.CodeSet = refl
numbered_kind refusal.TooWide = refl
numbered_kind refusal.BadRuns = refl
numbered_kind refusal.Blank = refl
numbered_kind refusal.RunCount = refl
numbered_kind refusal.QuietZone = refl
numbered_kind refusal.Modules = refl
numbered_kind refusal.Pattern = refl
numbered_kind refusal.SymbolCheckDigit = refl
numbered_kind refusal.BadGrid = refl
numbered_kind refusal.LabelKind = refl
numbered_kind refusal.LabelWidth = refl
numbered_kind refusal.NotP4 = refl
numbered_kind refusal.PbmHeader = refl
numbered_kind refusal.Truncated = refl
numbered_kind refusal.PbmSize = refl
numbered_kind refusal.Stranger = refl
numbered_kind refusal.BadCount = refl
numbered_kind refusal.Full = refl
numbered_kind refusal.Spent = refl
numbered_kind refusal.NoThread = refl
numbered_kind refusal.ReadFault = refl
numbered_kind refusal.WriteFault = refl
numbered_kind refusal.Csv = refl
numbered_kind refusal.Kind = refl
numbered_kind refusal.BadLane = refl
numbered_kind refusal.Words = refl
numbered_kind refusal.NoMemory = refl
numbered_kind refusal.InputSize = refl

some_number : (k : RefusalKind) (n : ℕ) → refusal_numbered n ≡ Some k → (n == 0) ≡ false
some_number k n is = elim (cases_Bool (n == 0)) [
  | inl zero ↦ let none : refusal_numbered n ≡ None = rw zero refl in absurd (none-some k (sym none ∙ is))
  | inr other ↦ other
]

below_is_not : (p : ℕ) → p < 65535 → (p == 65535) ≡ false
below_is_not p below = elim (cases_Bool (p == 65535)) [
  | inl is ↦ absurd (omega (arith, below, eqb-true p 65535 is))
  | inr other ↦ other
]

placed : (k : RefusalKind) (place : Option ℕ) → IfSome place (λ p. p < 65535) → placed_words (refusal_words k) (place_number place) ≡ refusal_text k place
placed k None within = refl
placed k (Some p) within = rw (lt-ltb p 65535 within, below_is_not p within) refl

format_error : (word : List ℕ) (f : Form) (a : Answer) → (a.fault == 0) ≡ false → worded_text word f a ≡ placed_words (fault_words (refusal_numbered a.fault)) a.place
format_error word f a other = rw other refl

refused_placed : (word : List ℕ) (f : Form) (k : RefusalKind) (place : Option ℕ) (a : Answer) → TellsRefusal k place a
    → worded_text word f a ≡ placed_words (refusal_words k) (place_number place)
refused_placed word f k place a told =
    let numbered : refusal_numbered a.fault ≡ Some k = ap refusal_numbered told.fault_is ∙ numbered_kind k in
    format_error word f a (some_number k a.fault numbered)
    ∙ ap₂ (λ (w : Option RefusalKind) (p : ℕ). placed_words (fault_words w) p) numbered told.place_is

-- the line of an error, which has no word; without a place
pub refused_words : (word : List ℕ) (f : Form) (k : RefusalKind) (a : Answer) → TellsRefusal k None a → worded_text word f a ≡ refusal_words k
refused_words word f k a told = refused_placed word f k None a told

-- the line of an error
pub refused_lines : RefusedLines
refused_lines f k place a told within = refused_placed (word_of a) f k place a told ∙ placed k place within

-- the line of elements
told_entries : (terms : Terms) (a : Answer) (es : List Entry) → TellsElements terms es a → entries_in a ≡ es
told_entries terms a es told =
    ap (λ (t : List ℕ). map (entry_at t) (take a.count a.elements)) told.text_is ∙ entries_are terms (canonical es) es (take a.count a.elements) told.stand

pub lines_tell : LinesTell
lines_tell form terms a es told =
    let zero : (a.fault == 0) ≡ true = rw told.fault_is refl in
    rw (zero, told_entries terms a es told) refl

sent_word : (head : Option Head) → word_or_dash (before_zero (sent_identifier head)) ≡ word_by head
sent_word (Some (head.Symbology symbology.EanUpc)) = refl
sent_word (Some (head.Symbology symbology.Ean8)) = refl
sent_word (Some (head.Symbology symbology.Itf14)) = refl
sent_word (Some (head.Symbology symbology.Gs1128)) = refl
sent_word (Some (head.Symbology symbology.DataBar)) = refl
sent_word (Some (head.Symbology symbology.DataMatrix)) = refl
sent_word (Some (head.Symbology symbology.LinkDataMatrix)) = refl
sent_word (Some (head.Symbology symbology.QrCode)) = refl
sent_word (Some (head.Symbology symbology.LinkQrCode)) = refl
sent_word (Some (head.Symbology symbology.DotCode)) = refl
sent_word (Some head.Separator) = refl
sent_word (Some head.Digits) = refl
sent_word (Some head.Link) = refl
sent_word None = refl

-- the line of an error that is told
error_line : (word : List ℕ) (form : Form) (line : List ℕ) (a : Answer) → TellsLine line a → worded_text word form a ≡ line
error_line word form line a told = refused_placed word form told.0 told.1 a told.3 ∙ placed told.0 told.1 told.4 ∙ sym told.2

told_line : (form : Form) (terms : Terms) (head : Option Head) (told : Outcome) (a : Answer) → TellsOutcome terms told a
    → word_of a ≡ word_by head → format_text form a ≡ message_text head form told
told_line form terms head (Ok es) a tells word = lines_tell form terms a es tells ∙ ap (λ (w : List ℕ). w ++ (32 ∷ elements_text form es)) word
told_line form terms head (Err fault) a tells word = error_line (word_of a) form (message_fault_text fault) a tells

-- the word of an answer that is named
named_word : (i : List ℕ) (a : Answer) (word : List ℕ) → a.identifier ≡ i → word_or_dash (before_zero i) ≡ word → word_of a ≡ word
named_word i a word is known = ap (λ (j : List ℕ). word_or_dash (before_zero j)) is ∙ known

-- the line of a message
pub message_lines : MessageLines
message_lines form terms text a answered =
    let h = answered.0 in
    let told = answered.1 in
    let named = answered.6 in
    (h, told, answered.3, told_line form terms h told a answered.5 (named_word (sent_identifier h) a (word_by h) named.identifier_is (sent_word h)))

-- the line of an element string
pub string_lines : StringLines
string_lines word form terms text a answered = elim answered.0 [
  | inl said ↦
      let told = said.2 in
      let zero : (a.fault == 0) ≡ true = rw told.fault_is refl in
      inl (said.0, said.1, rw (zero, told_entries terms a said.0 told) refl)
  | inr refused ↦ inr (refused.0, refused.1, error_line word form (element_fault_text refused.0) a refused.2)
]

-- ---- rows

carrier_word : (c : Carrier) → word_or_dash (before_zero (as_four (identifier c))) ≡ identifier c
carrier_word carrier.Ean13 = refl
carrier_word carrier.Ean8 = refl
carrier_word carrier.UpcE = refl
carrier_word carrier.Itf14 = refl
carrier_word carrier.Gs1128 = refl

row_line : (form : Form) (terms : Terms) (told : row.Answer) (a : Answer) → TellsRowAnswer terms told a → format_text form a ≡ said form told
row_line form terms (Read c listing) a tells =
    let named = tells.1 in
    lines_tell form terms a listing.list tells.0
    ∙ ap (λ (w : List ℕ). w ++ (32 ∷ elements_text form listing.list)) (named_word (as_four (identifier c)) a (identifier c) named.identifier_is (carrier_word c))
row_line form terms (Refused fault) a tells = error_line (word_of a) form (row_fault_text fault) a tells.0

widths_line : (form : Form) (terms : Terms) (widths : List ℕ) (o : Option RunFault) (a : Answer) → IsWidthsBy terms widths o a
    → IsWidthsLine form terms widths o (format_text form a)
widths_line form terms widths None a answered = (answered.0, answered.1, row_line form terms answered.0 a answered.2)
widths_line form terms widths (Some fault) a answered = error_line (word_of a) form (run_fault_text fault) a answered.0

packed_line : (form : Form) (terms : Terms) (bits : List ℕ) (count : ℕ) (o : Option RunFault) (a : Answer) → IsDotsBy terms bits count o a
    → IsPackedLine form terms bits count o (format_text form a)
packed_line form terms bits count None a answered =
    let row = answered.3 in
    (row.0, (answered.0, answered.1, answered.2, row.1), row_line form terms row.0 a row.2)
packed_line form terms bits count (Some fault) a answered = error_line (word_of a) form (run_fault_text fault) a answered.0

-- the lines of rows
pub row_lines : RowLines
row_lines = (
  λ form terms widths a. widths_line form terms widths (runs_fault widths) a,
  λ form terms bits count a. packed_line form terms bits count (packed_fault (length bits) count) a,
)
