-- The digits of a UPC-E as a spelling of a GTIN.
use Rattle.std.proofs.Common.{◌≡◌, ℕ, ◌-◌, List, [], ◌∷◌, ◌++◌, length, take, sym, ap, ap₂, subst, ◌∙◌, arith, get_or}
use Rattle.std.proofs.lemmas.List.{length-append, length-map, length-take, take_at}
use Rattle.digits_core.specs.Digits.{IsChecked, digits_of, padded}
use Rattle.digits_core.specs.Upce.{IsUpceOf, upce_expanded}
use Rattle.ean_code.specs.inner.Parts.{IsTextOf}
use Rattle.ean_code.specs.Spelling.{IsGtinOf}
use Rattle.ean_code.specs.Symbols.{IsNumberSymbol, widths_of}
use Rattle.ean_code.specs.declared.kind.Kind.TheVariants.{UpcE}
use Rattle.ean_code.proofs.Cells.{AllByRecursion-append, AllByRecursion-take}
use Rattle.ean_code.proofs.Drawn.{digit_shown, part_shown}
use Rattle.ean_code.proofs.Found.{last_of}
use Rattle.ean_code.proofs.symbologies.UpceReading.{last_small}

-- the digits of a symbol are a spelling of the checked GTIN that they stand for
pub upce_of : (ws ds gtin : List ℕ) → IsNumberSymbol UpcE ws ds → IsGtinOf UpcE ds gtin → IsChecked gtin → IsUpceOf (take 6 ds) (get_or ds 6 0) gtin
upce_of ws ds gtin e g h = record {
  six_digits = (let n = e.count in length-take 6 ds ∙ (omega arith));
  valid = AllByRecursion-take _ 6 ds e.valid;
  check_valid = last_small ws ds e;
  number = g;
  checked = h;
}

pub upce_of_text : (ws text gtin six : List ℕ) → IsTextOf UpcE ws text → six ≡ take 6 text → IsGtinOf UpcE (digits_of text) gtin → IsChecked gtin
    → IsUpceOf (digits_of six) (get_or text 6 0 - 48) gtin
upce_of_text ws text gtin six t e g h =
    let long : length text ≡ 7 = sym (length-map text _) ∙ t.1.count in
    let same : take 6 (digits_of text) ≡ digits_of six = sym (part_shown 6 0 text) ∙ ap digits_of (sym e) in
    let check : get_or (digits_of text) 6 0 ≡ get_or text 6 0 - 48 = digit_shown 6 text (omega arith) in
    subst (λ c. IsUpceOf (digits_of six) c gtin) check (subst (λ ds. IsUpceOf ds (get_or (digits_of text) 6 0) gtin) same
    (upce_of ws (digits_of text) gtin t.1 g h))

-- a spelling is drawn as a symbol of its GTIN
pub upce_drawn : (six : List ℕ) (check : ℕ) (gtin ms : List ℕ) → IsUpceOf six check gtin → ms ≡ widths_of UpcE (six ++ check ∷ [])
    → IsNumberSymbol UpcE ms (six ++ check ∷ [])
upce_drawn six check gtin ms u e = record {
  count = (let n = u.six_digits in length-append six (check ∷ []) ∙ (omega arith));
  valid = AllByRecursion-append _ six (check ∷ []) u.valid (u.check_valid, tt);
  widths = e;
}

pub upce_stands : (six : List ℕ) (check : ℕ) (gtin : List ℕ) → IsUpceOf six check gtin → IsGtinOf UpcE (six ++ check ∷ []) gtin
upce_stands six check gtin u =
    u.number ∙ ap padded (ap₂ upce_expanded (sym (take_at six (check ∷ []) 6 u.six_digits)) (sym (last_of six check 6 u.six_digits)))
