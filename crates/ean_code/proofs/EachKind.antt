-- The symbologies, by kind.
use Rattle.std.proofs.Common.{◌≡◌, ℕ, ◌%◌, ◌≤◌, true, List, length, drop, refl, sym, ap, subst, ◌∙◌, arith, ◌==◌, nat_le, eqb-true}
use Rattle.std.proofs.lemmas.Bool.Decides.{nat_tests}
use Rattle.std.proofs.lemmas.List.{length-map}
use Rattle.digits_core.specs.Digits.{AreAsciiDigits, AreDigits, ascii_of, digits_of, padded}
use Rattle.ean_code.specs.declared.kind.Kind.{Kind}
use Rattle.ean_code.specs.Symbols.{IsNumberSymbol, digit_count, widths_of, width_count}
use Rattle.ean_code.specs.Widths.{AreModules}
use Rattle.ean_code.specs.declared.kind.Kind.TheVariants.{Ean13, Ean8, UpcE, Itf14}
use Rattle.ean_code.proofs.AllKinds.{each_kind}
use Rattle.ean_code.proofs.Owed.{Owes}
use Rattle.ean_code.proofs.Texts.{AreDigits-shown, shown_back}
use Rattle.ean_code.proofs.symbologies.Ean13Facts.{owed as ean13}
use Rattle.ean_code.proofs.symbologies.Ean8Facts.{owed as ean8}
use Rattle.ean_code.proofs.symbologies.Itf14Facts.{owed as itf14}
use Rattle.ean_code.proofs.symbologies.UpceReading.{owed as upce}

-- the table of what they owe
pub owed : (kind : Kind) → Owes kind
owed Ean13 = ean13
owed Ean8 = ean8
owed UpcE = upce
owed Itf14 = itf14

sized : (kind : Kind) → (width_count kind ≤ 595) × (width_count kind % 2 ≡ 1)
sized kind =
    let few : nat_le (width_count kind) 595 ≡ true = each_kind (λ k. nat_le (width_count k) 595) refl kind in
    (grind (arith, nat_tests), eqb-true _ _ (each_kind (λ k. width_count k % 2 == 1) refl kind))

-- ---- what is drawn

-- the widths of a symbol are those of modules
pub symbol_valid : (kind : Kind) (ds : List ℕ) → length ds ≡ digit_count kind → AreDigits ds → AreModules (widths_of kind ds)
symbol_valid kind ds e v =
    let m = (owed kind).measures (widths_of kind ds) ds (record { count = e; valid = v; widths = refl }) in
    let size = sized kind in
    (subst (λ n. n ≤ 595) (sym m.count) size.0, ap (λ n. n % 2) m.count ∙ size.1, m.valid)

-- what is drawn of a text of digits is its symbol
pub symbol_drawn : (kind : Kind) (text ms : List ℕ) → length text ≡ digit_count kind → AreAsciiDigits text → ms ≡ widths_of kind (digits_of text)
    → IsNumberSymbol kind ms (digits_of text)
symbol_drawn kind text ms n v e = record { count = length-map text _ ∙ n; valid = AreDigits-shown text v; widths = e }

pub modules_drawn : (kind : Kind) (text ms : List ℕ) → length text ≡ digit_count kind → AreAsciiDigits text → ms ≡ widths_of kind (digits_of text)
    → AreModules ms
modules_drawn kind text ms n v e = subst AreModules (sym e) (symbol_valid kind (digits_of text) (length-map text _ ∙ n) (AreDigits-shown text v))

-- the same where the text shows the last digits of a GTIN and all before them are zeros
pub padded_drawn : (kind : Kind) (n : ℕ) (text gtin ms : List ℕ) → length text ≡ digit_count kind → AreAsciiDigits text → ms ≡ widths_of kind (digits_of text)
    → text ≡ ascii_of (drop n gtin) → gtin ≡ padded (drop n gtin) → (ds : List ℕ) × IsNumberSymbol kind ms ds × (gtin ≡ padded ds)
padded_drawn kind n text gtin ms l v e shown few =
    (digits_of text, symbol_drawn kind text ms l v e, few ∙ ap padded (sym (ap digits_of shown ∙ shown_back (drop n gtin))))
