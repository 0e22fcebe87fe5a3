-- A UPC-E has one answer as a message and as a record of `check`: the law `upce_as_checked`.
use Rattle.std.proofs.Common.{◌≡◌, ◌⊎◌, ◌==◌, ◌++◌, ◌∙◌, ◌∷◌, List, Some, Ok, Err, [], ap, arith, inl, inr, length, subst, sym, ℕ}
use Rattle.std.specs.Prelude.{codes}
use Rattle.std.proofs.lemmas.Str.Ascii.{trim_ascii_end_is}
use Rattle.digits_core.specs.Faults.{digit_fault_text}
use Rattle.digits_core.specs.declared.fault.DigitFault.{DigitFault}
use Rattle.element_core.specs.Elements.{gtin_entry}
use Rattle.element_core.specs.Lines.{elements_text, line_of_gtin}
use Rattle.element_core.specs.declared.form.Form.{Form}
use Rattle.message_core.specs.Heads.{head_of}
use Rattle.message_core.specs.Messages.{IsEanUpcBy, IsHeadSaid, Outcome, message_text}
use Rattle.message_core.specs.Upce.{IsUpceSaid}
use Rattle.message_core.specs.declared.fault.MessageFault.TheVariants.{Digits, Elements, Kind}
use Rattle.message_core.specs.declared.head.Head.TheVariants as head
use Rattle.message_core.specs.declared.symbology.Symbology.TheVariants as symbology
use Rattle.message_core.proofs.SpelledUpce.{no_end}
use Rattle.message_core.proofs.UpceDigits.{one_fault, said_not_refused}
use Rattle.csv_records.specs.Laws.{UpceAsChecked}
use Rattle.csv_records.specs.check.Checks.{IsUpceLine}

-- one of the two cases of the law holds, for a line of `check` and a message that have the same digits
upce_cases : (f : Form) (digits line said : List ℕ) (told : Outcome) → IsUpceLine digits line → IsUpceSaid digits told
    → said ≡ message_text (Some (head.Symbology symbology.EanUpc)) f told
    → ((gtin : List ℕ) × (line ≡ line_of_gtin gtin) × (said ≡ codes "]E0 " ++ elements_text f (gtin_entry gtin ∷ [])))
    ⊎ ((fault : DigitFault) × (line ≡ digit_fault_text fault) × (said ≡ digit_fault_text fault))
upce_cases f digits line said (Ok list) (inl (g, none, is, here)) (o, also, it, list_is) there =
    inl (g, here, there ∙ ap (λ l. codes "]E0 " ++ elements_text f l) (list_is ∙ ap (λ n. gtin_entry n ∷ []) (it.number ∙ sym is.number)))
upce_cases f digits line said (Ok list) (inr (q, because, here)) (o, also, it, list_is) there = absurd (said_not_refused digits o q also it because)
upce_cases f digits line said (Err (Digits p)) (inl (g, none, is, here)) other there = absurd (said_not_refused digits g p none is other)
upce_cases f digits line said (Err (Digits p)) (inr (q, because, here)) other there =
    inr (q, here, there ∙ ap digit_fault_text (one_fault digits p q other because))
upce_cases f digits line said (Err (Elements p)) checked other there = absurd other
upce_cases f digits line said (Err Kind) checked other there = absurd other

pub upce_as_checked : UpceAsChecked
upce_as_checked f year digits line said size are checked (o, told, (text, trimmed, begun, h), is) =
    let whole : List ℕ = codes "]E0" ++ digits in
    let same : text ≡ whole = trim_ascii_end_is whole text trimmed ∙ sym (trim_ascii_end_is whole whole (no_end digits (omega (arith, size)) are)) in
    let heads : o ≡ Some (head.Symbology symbology.EanUpc) = begun ∙ ap head_of same in
    let message : IsEanUpcBy (length digits == 8) digits told =
    subst (λ t. IsHeadSaid year t (Some (head.Symbology symbology.EanUpc)) told) same (subst (λ q. IsHeadSaid year text q told) heads h) in
    upce_cases f digits line said told checked (subst (λ n. IsEanUpcBy (n == 8) digits told) size message) (is ∙ ap (λ q. message_text q f told) heads)
