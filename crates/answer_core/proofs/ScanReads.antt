-- A text of a scanner is read as the elements that it was written of.
use Rattle.std.proofs.Common.{◌≡◌, ◌∙◌, ◌||◌, ◌<◌, ◌∷◌, ◌++◌, [], Bool, Err, List, None, Ok, Option, Some, ap, arith, drop, false, inl, inr, length, length-append, refl, subst, sym, true, ℕ}
use Rattle.std.specs.Prelude.{◌==◌}
use Rattle.std.specs.Char.{is_ascii_whitespace}
use Rattle.std.specs.List.{list_all}
use Rattle.std.proofs.lemmas.Bool.{and_parts, cases_Bool, ne_eqb, or_left, true≢false}
use Rattle.std.proofs.lemmas.Grind.{common_steps}
use Rattle.element_core.specs.Elements.{Entry, IsElements, begins_with_digits, canonical, is_digit, is_text_byte}
use Rattle.element_core.specs.Pairs.{FaultlessPairs, list_fault}
use Rattle.element_core.specs.Terms.{Terms}
use Rattle.element_core.specs.declared.fault.ElementFault.{ElementFault}
use Rattle.element_core.proofs.Letters.{all_weaker, listing_printable}
use Rattle.message_core.specs.Heads.{head_of}
use Rattle.message_core.specs.Messages.{IsMessage, IsStringSaid, IsSymbolSaid}
use Rattle.message_core.specs.Spellings.{spelled, without_separator}
use Rattle.message_core.specs.Symbologies.{identifier_of}
use Rattle.message_core.specs.declared.fault.MessageFault.TheVariants.{Kind}
use Rattle.message_core.specs.declared.head.Head.TheVariants as head
use Rattle.message_core.specs.declared.symbology.Symbology.{Symbology}
use Rattle.message_core.specs.declared.symbology.Symbology.TheVariants as symbology
use Rattle.answer_core.specs.Written.{carries_elements, faultless_by, scan_text, sent}
use Rattle.answer_core.specs.Laws.{ScanReads}
use Rattle.answer_core.proofs.CodedTexts.{all_both}
use Rattle.answer_core.proofs.Ends.{trimmed}

-- ---- an element string is spelled as it is

spelled_is : (text : List ℕ) → list_all is_text_byte text ≡ true → spelled text ≡ text
spelled_is [] h = refl
spelled_is (b ∷ text) h =
    let p = and_parts (is_text_byte b) (list_all is_text_byte text) h in
    rw (ne_eqb b 94 (λ e. true≢false (sym p.0 ∙ ap is_text_byte e))) (ap (λ t. b ∷ t) (spelled_is text p.1))

no_separator : (text : List ℕ) → begins_with_digits text ≡ true → without_separator text ≡ text
no_separator [] h = refl
no_separator (a ∷ []) h = absurd (true≢false (sym h))
no_separator (a ∷ b ∷ text) h =
    let digit = (and_parts (is_digit a) (is_digit b) h).0 in
    rw (ne_eqb a 29 (λ e. true≢false (sym digit ∙ ap is_digit e)), ne_eqb a 94 (λ e. true≢false (sym digit ∙ ap is_digit e))) refl

-- ---- by each symbology

-- a byte of an identifier or of an element string
is_sent : ℕ → Bool
is_sent b = is_text_byte b || (b == 93)

no_blank : (b : ℕ) → is_sent b ≡ true → is_ascii_whitespace b ≡ false
unfolding is_sent
no_blank b h = grind (arith, common_steps)

record IsSent (terms : Terms) (s : Symbology) (es : List Entry) (c : List ℕ) : Type 0 where
  some : 0 < length (identifier_of s)
  bytes : list_all is_sent (identifier_of s) ≡ true
  begins : head_of (identifier_of s ++ c) ≡ Some (head.Symbology s)
  says : IsSymbolSaid s terms (drop 3 (identifier_of s ++ c)) (Ok es)

sent_by : (terms : Terms) (s : Symbology) (es : List Entry) (c : List ℕ) → carries_elements s ≡ true → IsStringSaid terms c (Ok es) → IsSent terms s es c
unfolding is_sent
sent_by terms symbology.Gs1128 es c carries said = record { some = omega arith; bytes = refl; begins = refl; says = said }
sent_by terms symbology.DataBar es c carries said = record { some = omega arith; bytes = refl; begins = refl; says = said }
sent_by terms symbology.DataMatrix es c carries said = record { some = omega arith; bytes = refl; begins = refl; says = said }
sent_by terms symbology.QrCode es c carries said = record { some = omega arith; bytes = refl; begins = refl; says = said }
sent_by terms symbology.DotCode es c carries said = record { some = omega arith; bytes = refl; begins = refl; says = said }
sent_by terms symbology.EanUpc es c carries said = absurd (true≢false (sym carries))
sent_by terms symbology.Ean8 es c carries said = absurd (true≢false (sym carries))
sent_by terms symbology.Itf14 es c carries said = absurd (true≢false (sym carries))
sent_by terms symbology.LinkDataMatrix es c carries said = absurd (true≢false (sym carries))
sent_by terms symbology.LinkQrCode es c carries said = absurd (true≢false (sym carries))

-- ---- the law

text_parts : (terms : Terms) (s : Symbology) (es : List Entry) (text : List ℕ) → scan_text terms (Some s) es ≡ Ok text
    → (carries_elements s ≡ true) × (list_fault terms es ≡ None) × (text ≡ identifier_of s ++ canonical es)
text_parts terms s es text is = elim (cases_Bool (carries_elements s)) [
  | inl carries ↦ let by : sent terms s es ≡ Ok text = rw carries at is in let f = by_fault (list_fault terms es) by in (carries, f.0, f.1)
  | inr other ↦ absurd (let no : Err Kind ≡ Ok text = rw other at is in cc)
] where
  by_fault : (o : Option ElementFault) → faultless_by (identifier_of s ++ canonical es) o ≡ Ok text → (o ≡ None) × (text ≡ identifier_of s ++ canonical es)
  by_fault None ok = (refl, cc)
  by_fault (Some fault) ok = absurd cc

pub scan_reads : FaultlessPairs → ScanReads
unfolding is_sent
scan_reads faultless terms s es text is =
    let t = text_parts terms s es text is in
    let c : List ℕ = canonical es in
    let elements = (faultless terms es).0 t.1 in
    let p = and_parts (list_all is_text_byte c) (begins_with_digits c) (listing_printable terms c es elements refl) in
    let same : spelled (without_separator c) ≡ c = ap spelled (no_separator c p.1) ∙ spelled_is c p.0 in
    let said : IsStringSaid terms c (Ok es) = subst (λ x. IsElements terms x es) (sym same) elements in
    let b = sent_by terms s es c t.0 said in
    let whole : List ℕ = identifier_of s ++ c in
    let bytes = all_both is_sent (identifier_of s) c b.bytes (all_weaker is_text_byte is_sent (λ x h. or_left (is_text_byte x) (x == 93) h) c p.0) in
    let some = b.some in
    subst (λ x. IsMessage terms x (Some (head.Symbology s)) (Ok es)) (sym t.2)
    (whole, trimmed is_sent no_blank whole (omega (arith, length-append (identifier_of s) c, some)) bytes, sym b.begins, b.says)
