-- `check` writes one text at most of the same bytes: each record has one line (`one_check`, the law of `commands/check.rt`).
use Rattle.std.proofs.Common.{◌≡◌, ◌+◌, ◌++◌, ◌<◌, ◌%◌, ◌∙◌, ◌∷◌, List, None, Ok, Option, Some, [], ap, ap₂, arith, refl, sym, ℕ}
use Rattle.std.specs.Prelude.{codes}
use Rattle.std.specs.Fmt.{decimal}
use Rattle.digits_core.specs.Digits.{IsChecked, digits_of, weighted}
use Rattle.digits_core.proofs.Weights.{weighted-last}
use Rattle.digits_core.specs.Payloads.{payload_fault}
use Rattle.digits_core.specs.declared.fault.DigitFault.{DigitFault}
use Rattle.element_core.specs.Elements.{OneListOrFault, hri}
use Rattle.element_core.specs.Lines.{IsDigitAnswer, line_text}
use Rattle.element_core.specs.declared.line.Line.{Line}
use Rattle.csv_records.specs.check.Checks.{IsLineAs, IsLineBy, check_kind_named, check_meaning, check_report}
use Rattle.csv_records.specs.input.Records.{AreItems, Fields, records_of}
use Rattle.csv_records.proofs.OneCheckLine.{one_elements_line, one_upce_line}
use Rattle.message_core.specs.Spellings.{spelled}
use Rattle.csv_records.specs.declared.check.answer.CheckKind.{CheckKind}
use Rattle.csv_records.specs.declared.check.answer.CheckKind.TheVariants as kind
use Rattle.element_core.specs.Terms.{Terms}
use Rattle.command_runs.specs.commands.Checks.{OneCheck}

-- digits have one check digit: as `same_check` of digits_core/proofs/payload/is_checked says, a lemma of that function alone, and `one_check` of its `Weights`
-- of sums
digit_once : (ds : List ℕ) (d e : ℕ) → d < 10 → e < 10 → IsChecked (ds ++ d ∷ []) → IsChecked (ds ++ e ∷ []) → d ≡ e
digit_once ds d e low small h k =
    let one = weighted-last ds d in
    let other = weighted-last ds e in
    let first : (weighted (ds ++ 0 ∷ []) + d) % 10 ≡ 0 = rw one at h in
    let second : (weighted (ds ++ 0 ∷ []) + e) % 10 ≡ 0 = rw other at k in
    omega (arith, first, second, low, small)

-- so a payload has one answer: its check digit, or its fault
digit_by : (text : List ℕ) (o : Option DigitFault) (a b : List ℕ) → IsDigitAnswer text o a → IsDigitAnswer text o b → a ≡ b
digit_by text None a b h k =
    h.3 ∙ (ap (λ n. codes "digit " ++ decimal n) (digit_once (digits_of text) h.0 k.0 h.1 k.1 h.2 k.2) ∙ sym k.3)
digit_by text (Some f) a b h k = h ∙ sym k

module _ (one : OneListOrFault) (year : Terms) where
  -- a text of a kind has one line, whatever the kind
  one_line_by_kind : (k : CheckKind) (text a b : List ℕ) → IsLineAs year k text a → IsLineAs year k text b → a ≡ b
  one_line_by_kind kind.Digit text a b h k = digit_by text (payload_fault text) a b h k
  one_line_by_kind kind.Gtin text a b h k = h ∙ sym k
  one_line_by_kind kind.Upce text a b h k = one_upce_line text a b h k
  one_line_by_kind kind.Text text a b h k = one_elements_line one (codes "hri") hri year (spelled text) a b h k

  one_line_by_name : (o : Option CheckKind) (text : List ℕ) (a b : Line) → IsLineBy year o text (Ok a) → IsLineBy year o text (Ok b) → line_text a ≡ line_text b
  one_line_by_name (Some k) text a b h p = one_line_by_kind k text (line_text a) (line_text b) h p
  one_line_by_name None text a b h p = cc h

  -- a record has one line: its fields are a kind and a text, or it means no line
  line_once : (fields : Fields) (a b : Line) → check_meaning year fields (Ok a) → check_meaning year fields (Ok b) → line_text a ≡ line_text b
  line_once [] a b h k = cc h
  line_once (name ∷ []) a b h k = cc h
  line_once (name ∷ text ∷ []) a b h k = one_line_by_name (check_kind_named name) text a b h k
  line_once (name ∷ text ∷ other ∷ more) a b h k = cc h

  -- records have one report: each line and its line feed, 10
  lines_once : (rows : List Fields) (x y : List Line) → AreItems (check_meaning year) rows x → AreItems (check_meaning year) rows y
      → check_report x ≡ check_report y
  lines_once [] [] [] h k = refl
  lines_once [] [] (b ∷ y) h k = absurd k
  lines_once [] (a ∷ x) y h k = absurd h
  lines_once (r ∷ rows) [] y h k = absurd h
  lines_once (r ∷ rows) (a ∷ x) [] h k = absurd k
  lines_once (r ∷ rows) (a ∷ x) (b ∷ y) h k = ap₂ (λ t rest. t ++ (10 ∷ []) ++ rest) (line_once r a b h.0 k.0) (lines_once rows x y h.1 k.1)

pub one_check : OneListOrFault → OneCheck
one_check one year bytes text other h k = h.2 ∙ lines_once one year (records_of bytes) h.0 k.0 h.1.1 k.1.1 ∙ sym k.2
