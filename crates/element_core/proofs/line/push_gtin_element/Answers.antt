use Rattle.std.proofs.Common.{◌≡◌, rules, List, ℕ, [], ◌∷◌, ap, arith, length, refl}
use Rattle.digits_core.specs.Digits.{AreDigits, IsChecked, ascii_of}
use Rattle.element_core.specs.Elements.{IsElements, canonical, gtin_entry}
use Rattle.element_core.specs.Terms.{Terms}
use Rattle.element_core.proofs.GtinLemmas.{digits_ascii, gtin_elements}
use Rattle.element_core.proofs.line.push_gtin_element.Goals as goal

reads : (gtin digits : List ℕ) → digits ≡ ascii_of gtin → length digits ≡ 14 → AreDigits gtin → IsChecked gtin
    → (year : Terms) → IsElements year (canonical (gtin_entry gtin ∷ [])) (gtin_entry gtin ∷ [])
reads gtin digits is long are checked year =
    let fourteen : length (ascii_of gtin) ≡ 14 = omega (arith, ap length is, long) in
    gtin_elements year gtin (canonical (gtin_entry gtin ∷ [])) (gtin_entry gtin ∷ []) are checked fourteen refl refl

pub ascii_str-requires : goal.ascii_str-requires
ascii_str-requires c = let digits = c.digits14-digits.ensures in rw digits.value (digits_ascii c.args.gtin.now digits.digits)

pub returns-in_err-push_str-clause-reads : goal.returns-in_err-push_str-clause-reads
returns-in_err-push_str-clause-reads c =
    let e = c.digits14-digits.ensures in reads c.args.gtin.now c.digits14-digits.result e.value (search rules) e.digits e.checked

pub returns-in_err-push_str-2-clause-reads : goal.returns-in_err-push_str-2-clause-reads
returns-in_err-push_str-2-clause-reads c =
    let e = c.digits14-digits.ensures in reads c.args.gtin.now c.digits14-digits.result e.value (search rules) e.digits e.checked

pub returns-clause-reads : goal.returns-clause-reads
returns-clause-reads c =
    let e = c.digits14-digits.ensures in reads c.args.gtin.now c.digits14-digits.result e.value (search rules) e.digits e.checked
