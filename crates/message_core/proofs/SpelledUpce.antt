-- A UPC-E behind `]E0` has no blank at its end, and says its GTIN: the law `upce_is_expanded`.
use Rattle.std.proofs.Common.{◌≡◌, ◌-◌, ◌+◌, ◌<◌, ◌≤◌, ◌++◌, ◌∙◌, ◌∷◌, List, None, Some, [], ap, arith, false, get_or, length, length-append, lit<, lit≤, nat_le, refl, sym, ℕ}
use Rattle.std.specs.Prelude.{codes}
use Rattle.std.specs.Char.{is_ascii_whitespace}
use Rattle.std.specs.Int.{is_in_range}
use Rattle.std.specs.Str.{IsTrimAsciiEnd}
use Rattle.std.proofs.lemmas.Bool.{and_right, lt-leb, or_from}
use Rattle.std.proofs.lemmas.List.{get_or-append_right, length-map, take_all}
use Rattle.digits_core.specs.Digits.{AreAsciiDigits, digits_of}
use Rattle.digits_core.specs.Payloads.{not_digits}
use Rattle.digits_core.specs.Upce.{IsUpceOf}
use Rattle.digits_core.proofs.DigitTexts.{digit_at, digits-append, none_if_digits}
use Rattle.element_core.specs.Elements.{gtin_entry}
use Rattle.element_core.specs.Terms.{Terms}
use Rattle.message_core.specs.Laws.{MessageSays, UpceIsExpanded}
use Rattle.message_core.specs.Upce.{system_fault, upce_fault}
use Rattle.message_core.specs.declared.head.Head.TheVariants as head
use Rattle.message_core.specs.declared.symbology.Symbology.TheVariants as symbology
use Rattle.message_core.proofs.UpceDigits.{by_six}

-- a digit is no blank
above : (low high b : ℕ) → high < b → is_in_range low high b ≡ false
above low high b more = and_right (nat_le low b) (nat_le b high) (lt-leb b high more)

no_whitespace : (b : ℕ) → 48 ≤ b → is_ascii_whitespace b ≡ false
no_whitespace b low =
    or_from _ _ (or_from _ _ (above 9 10 b (omega (arith, low))) (above 12 13 b (omega (arith, low)))) (above 32 32 b (omega (arith, low)))

-- so digits behind the identifier have none at their end
pub no_end : (digits : List ℕ) → 0 < length digits → AreAsciiDigits digits → IsTrimAsciiEnd (codes "]E0" ++ digits) (codes "]E0" ++ digits)
no_end digits some are =
    let said = codes "]E0" ++ digits in
    let long : length said ≡ 3 + length digits = length-append (codes "]E0") digits in
    let last = get_or-append_right (codes "]E0") digits 3 (length said - 1) 0 refl (omega (arith, long, some)) in
    let digit = digit_at digits (length said - 1 - 3) are (omega (arith, long, some)) in (
      length said,
      sym (take_all (length said) said (omega arith)),
      refl,
      omega arith,
      λ i past within. absurd (omega (arith, past, within)),
      λ _. ap is_ascii_whitespace last ∙ no_whitespace (get_or digits (length said - 1 - 3) 0) digit.0,
    )

no_fault : (a b c d e f g : ℕ) → AreAsciiDigits (48 ∷ a ∷ b ∷ c ∷ d ∷ e ∷ f ∷ g ∷ []) → upce_fault (48 ∷ a ∷ b ∷ c ∷ d ∷ e ∷ f ∷ g ∷ []) ≡ None
no_fault a b c d e f g are =
    let text : List ℕ = 48 ∷ a ∷ b ∷ c ∷ d ∷ e ∷ f ∷ g ∷ [] in ap (λ o. system_fault text (not_digits o)) (none_if_digits text are)

expanded : (year : Terms) (gtin : List ℕ) (check : ℕ) → (48 ≤ check) × (check < 58) → (a b c d e f : ℕ) → AreAsciiDigits (a ∷ b ∷ c ∷ d ∷ e ∷ f ∷ [])
    → IsUpceOf (digits_of (a ∷ b ∷ c ∷ d ∷ e ∷ f ∷ [])) (check - 48) gtin
    → MessageSays year (codes "]E0" ++ (48 ∷ a ∷ b ∷ c ∷ d ∷ e ∷ f ∷ []) ++ check ∷ []) (codes "]E0") (gtin_entry gtin ∷ [])
expanded year gtin check range a b c d e f digits is =
    let said : List ℕ = 48 ∷ a ∷ b ∷ c ∷ d ∷ e ∷ f ∷ check ∷ [] in
    let are : AreAsciiDigits said = ((lit≤ tt, lit< tt), digits-append (a ∷ b ∷ c ∷ d ∷ e ∷ f ∷ []) (check ∷ []) digits (range, tt)) in
    (Some (head.Symbology symbology.EanUpc), (codes "]E0" ++ said, no_end said (omega arith) are, refl, (gtin, no_fault a b c d e f check are, is, refl)), refl)

pub upce_is_expanded : UpceIsExpanded
upce_is_expanded year six gtin check digits range is =
    by_six (λ ds. AreAsciiDigits ds → IsUpceOf (digits_of ds) (check - 48) gtin
    → MessageSays year (codes "]E0" ++ (48 ∷ ds) ++ check ∷ []) (codes "]E0") (gtin_entry gtin ∷ []))
    (expanded year gtin check range) six (sym (length-map six (λ b. b - 48)) ∙ is.six_digits) digits is
