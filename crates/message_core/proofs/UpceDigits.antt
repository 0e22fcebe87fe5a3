-- The digits of a UPC-E say one thing, and stand for a GTIN of 14 digits.
use Rattle.std.proofs.Common.{◌≡◌, ◌<◌, ◌==◌, ◌+◌, ◌-◌, ◌∙◌, ◌∷◌, Bool, List, None, Some, Result, Ok, Err, [], ap, arith, false, if◌then◌else◌, length, length-append, lit<, nat_le, refl, replicate, subst, sym, true, ℕ}
use Rattle.std.proofs.lemmas.List.{length-replicate}
use Rattle.digits_core.specs.Digits.{AreDigits, padded}
use Rattle.digits_core.specs.Upce.{IsUpceOf, upce_expanded}
use Rattle.digits_core.specs.declared.fault.DigitFault.{DigitFault}
use Rattle.digits_core.specs.declared.fault.DigitFault.TheVariants as digits
use Rattle.digits_core.proofs.Suppression.{expanded_shape}
use Rattle.message_core.specs.Upce.{IsUpceDigits, IsUpceFault, IsUpceSaid, upce_fault}
use Rattle.element_core.specs.Elements.{Entry, gtin_entry}
use Rattle.message_core.specs.declared.fault.MessageFault.{MessageFault}
use Rattle.message_core.specs.declared.fault.MessageFault.TheVariants.{Digits, Elements, Kind}

-- ---- one answer

-- digits that stand for a GTIN are not refused
pub said_not_refused : (text gtin : List ℕ) (f : DigitFault) → upce_fault text ≡ None → IsUpceDigits text gtin → IsUpceFault text f → ⊥
said_not_refused text gtin digits.CheckDigit none is h = h.1 gtin is
said_not_refused text gtin digits.Length none is h = absurd (let no : Some digits.Length ≡ None = sym h ∙ none in cc no)
said_not_refused text gtin (digits.NotDigit place) none is h = absurd (let no : Some (digits.NotDigit place) ≡ None = sym h ∙ none in cc no)

pub one_fault : (text : List ℕ) (f g : DigitFault) → IsUpceFault text f → IsUpceFault text g → f ≡ g
one_fault text digits.CheckDigit digits.CheckDigit h k = refl
one_fault text digits.CheckDigit digits.Length h k = cc (h.0, k)
one_fault text digits.CheckDigit (digits.NotDigit q) h k = cc (h.0, k)
one_fault text digits.Length digits.CheckDigit h k = cc (h, k.0)
one_fault text digits.Length digits.Length h k = refl
one_fault text digits.Length (digits.NotDigit q) h k = cc (h, k)
one_fault text (digits.NotDigit p) digits.CheckDigit h k = cc (h, k.0)
one_fault text (digits.NotDigit p) digits.Length h k = cc (h, k)
one_fault text (digits.NotDigit p) (digits.NotDigit q) h k = cc (h, k)

pub one_upce : (text : List ℕ) (a b : Result (List Entry) MessageFault) → IsUpceSaid text a → IsUpceSaid text b → a ≡ b
one_upce text (Ok a) (Ok b) (g, none, is, list) (o, also, it, other) =
    ap Ok (list ∙ ap (λ n. gtin_entry n ∷ []) (is.number ∙ sym it.number) ∙ sym other)
one_upce text (Ok a) (Err (Digits f)) (g, none, is, list) k = absurd (said_not_refused text g f none is k)
one_upce text (Err (Digits f)) (Ok b) h (g, none, is, list) = absurd (said_not_refused text g f none is h)
one_upce text (Err (Digits f)) (Err (Digits g)) h k = ap (λ d. Err (Digits d)) (one_fault text f g h k)
one_upce text (Err (Elements f)) b h k = absurd h
one_upce text (Err Kind) b h k = absurd h
one_upce text (Ok a) (Err (Elements f)) h k = absurd k
one_upce text (Ok a) (Err Kind) h k = absurd k
one_upce text (Err (Digits d)) (Err (Elements f)) h k = absurd k
one_upce text (Err (Digits d)) (Err Kind) h k = absurd k

-- ---- a GTIN of 14 digits

-- what holds of six elements holds of a list of six
pub by_six : (P : List ℕ → Type 0) → ((a b c d e f : ℕ) → P (a ∷ b ∷ c ∷ d ∷ e ∷ f ∷ [])) → (six : List ℕ) → length six ≡ 6 → P six
by_six P each (a ∷ b ∷ c ∷ d ∷ e ∷ f ∷ []) is = each a b c d e f
by_six P each [] is = absurd (omega (arith, is))
by_six P each (a ∷ []) is = absurd (omega (arith, is))
by_six P each (a ∷ b ∷ []) is = absurd (omega (arith, is))
by_six P each (a ∷ b ∷ c ∷ []) is = absurd (omega (arith, is))
by_six P each (a ∷ b ∷ c ∷ d ∷ []) is = absurd (omega (arith, is))
by_six P each (a ∷ b ∷ c ∷ d ∷ e ∷ []) is = absurd (omega (arith, is))
by_six P each (a ∷ b ∷ c ∷ d ∷ e ∷ f ∷ g ∷ more) is = absurd (omega (arith, is))

-- by each line of the zero-suppression table, as `upce_expanded` has them
by_lines : (p q r : Bool) (a b c d e f check : ℕ) → a < 10 → b < 10 → c < 10 → d < 10 → e < 10 → f < 10 → check < 10
    → AreDigits (padded (if p then 0 ∷ a ∷ b ∷ f ∷ 0 ∷ 0 ∷ 0 ∷ 0 ∷ c ∷ d ∷ e ∷ check ∷ []
    else if q then 0 ∷ a ∷ b ∷ c ∷ 0 ∷ 0 ∷ 0 ∷ 0 ∷ 0 ∷ d ∷ e ∷ check ∷ []
    else if r then 0 ∷ a ∷ b ∷ c ∷ d ∷ 0 ∷ 0 ∷ 0 ∷ 0 ∷ 0 ∷ e ∷ check ∷ []
    else 0 ∷ a ∷ b ∷ c ∷ d ∷ e ∷ 0 ∷ 0 ∷ 0 ∷ 0 ∷ f ∷ check ∷ []))
by_lines true q r a b c d e f check ha hb hc hd he hf last =
    (lit< tt, (lit< tt, (lit< tt, (ha, (hb, (hf, (lit< tt, (lit< tt, (lit< tt, (lit< tt, (hc, (hd, (he, (last, tt))))))))))))))
by_lines false true r a b c d e f check ha hb hc hd he hf last =
    (lit< tt, (lit< tt, (lit< tt, (ha, (hb, (hc, (lit< tt, (lit< tt, (lit< tt, (lit< tt, (lit< tt, (hd, (he, (last, tt))))))))))))))
by_lines false false true a b c d e f check ha hb hc hd he hf last =
    (lit< tt, (lit< tt, (lit< tt, (ha, (hb, (hc, (hd, (lit< tt, (lit< tt, (lit< tt, (lit< tt, (lit< tt, (he, (last, tt))))))))))))))
by_lines false false false a b c d e f check ha hb hc hd he hf last =
    (lit< tt, (lit< tt, (lit< tt, (ha, (hb, (hc, (hd, (he, (lit< tt, (lit< tt, (lit< tt, (lit< tt, (hf, (last, tt))))))))))))))

expanded_digits : (check : ℕ) → check < 10 → (a b c d e f : ℕ) → AreDigits (a ∷ b ∷ c ∷ d ∷ e ∷ f ∷ [])
    → AreDigits (padded (upce_expanded (a ∷ b ∷ c ∷ d ∷ e ∷ f ∷ []) check))
expanded_digits check last a b c d e f h =
    by_lines (nat_le f 2) (f == 3) (f == 4) a b c d e f check h.0 h.1.0 h.1.1.0 h.1.1.1.0 h.1.1.1.1.0 h.1.1.1.1.1.0 last

pub upce_gtin : (six : List ℕ) (check : ℕ) (gtin : List ℕ) → IsUpceOf six check gtin → (length gtin ≡ 14) × AreDigits gtin
upce_gtin six check gtin is =
    let ds = upce_expanded six check in
    let twelve = (expanded_shape six check).count in
    let zeros : length (padded ds) ≡ 14 - length ds + length ds =
    length-append (replicate (14 - length ds) 0) ds ∙ ap (λ n. n + length ds) (length-replicate (14 - length ds) 0) in
    let digits = by_six (λ xs. AreDigits xs → AreDigits (padded (upce_expanded xs check))) (expanded_digits check is.check_valid) six is.six_digits is.valid in
    (ap length is.number ∙ zeros ∙ omega (arith, twelve), subst AreDigits (sym is.number) digits)
