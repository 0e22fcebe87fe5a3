-- A text of a kind of `check` has one line where its kind is UPC-E or an element string.
use Rattle.std.proofs.Common.{◌≡◌, ◌++◌, ◌∙◌, ◌∷◌, List, ap, inl, inr, sym, ℕ}
use Rattle.digits_core.specs.Faults.{digit_fault_text}
use Rattle.element_core.specs.Elements.{Entry, OneListOrFault}
use Rattle.element_core.specs.Faults.{element_fault_text}
use Rattle.element_core.specs.Lines.{IsElementsLine, line_of_gtin}
use Rattle.element_core.specs.Terms.{Terms}
use Rattle.message_core.proofs.UpceDigits.{one_fault, said_not_refused}
use Rattle.csv_records.specs.check.Checks.{IsUpceLine}

pub one_upce_line : (text a b : List ℕ) → IsUpceLine text a → IsUpceLine text b → a ≡ b
one_upce_line text a b (inl (g, none, is, line)) (inl (o, also, it, other)) = line ∙ (ap line_of_gtin (is.number ∙ sym it.number) ∙ sym other)
one_upce_line text a b (inl (g, none, is, line)) (inr (f, because, other)) = absurd (said_not_refused text g f none is because)
one_upce_line text a b (inr (f, because, line)) (inl (g, none, is, other)) = absurd (said_not_refused text g f none is because)
one_upce_line text a b (inr (f, because, line)) (inr (g, also, other)) = line ∙ (ap digit_fault_text (one_fault text f g because also) ∙ sym other)

module _ (one : OneListOrFault) where
  pub one_elements_line : (word : List ℕ) (shown : List Entry → List ℕ) (year : Terms) (text a b : List ℕ) → IsElementsLine word shown year text a
      → IsElementsLine word shown year text b → a ≡ b
  one_elements_line word shown year text a b (inl (es, read, line)) (inl (fs, also, other)) =
      line ∙ (ap (λ l. word ++ (32 ∷ shown l)) ((one year text).0 es fs read also) ∙ sym other)
  one_elements_line word shown year text a b (inl (es, read, line)) (inr (f, refused, other)) = absurd ((one year text).2 es f read refused)
  one_elements_line word shown year text a b (inr (f, refused, line)) (inl (es, read, other)) = absurd ((one year text).2 es f read refused)
  one_elements_line word shown year text a b (inr (f, refused, line)) (inr (g, also, other)) =
      line ∙ (ap element_fault_text ((one year text).1 f g refused also) ∙ sym other)
