use Rattle.std.proofs.Common.{◌≡◌, ℕ, List, length, ◌∙◌, sym, ap, subst, arith}
use Rattle.std.proofs.lemmas.List.{length-map}
use Rattle.digits_core.specs.Digits.{AreAsciiDigits, digits_of}
use Rattle.ean_code.specs.declared.kind.Kind.TheVariants.{Itf14}
use Rattle.ean_code.proofs.EachKind.{modules_drawn, symbol_drawn}
use Rattle.ean_code.proofs.symbologies.Itf14Facts.{padded_whole}
use Rattle.ean_code.proofs.Texts.{ascii_valid, shown_back}
use Rattle.ean_code.proofs.symbologies.itf14.itf14.Goals as goal

pub itf14_widths-requires : goal.itf14_widths-requires
itf14_widths-requires c = subst AreAsciiDigits (sym c.digits14.ensures.value) (ascii_valid c.args.gtin.now c.digits14.ensures.digits)

pub new-requires : goal.new-requires
new-requires c =
    let text : List ℕ = c.digits14.result in
    let ascii : AreAsciiDigits text = subst AreAsciiDigits (sym c.digits14.ensures.value) (ascii_valid c.args.gtin.now c.digits14.ensures.digits) in
    modules_drawn Itf14 text c.itf14_widths.result.items (omega arith) ascii c.itf14_widths.ensures

pub returns : goal.returns
returns c =
    let text : List ℕ = c.digits14.result in
    let ascii : AreAsciiDigits text = subst AreAsciiDigits (sym c.digits14.ensures.value) (ascii_valid c.args.gtin.now c.digits14.ensures.digits) in
    let shown : digits_of text ≡ c.args.gtin.now = ap digits_of c.digits14.ensures.value ∙ shown_back c.args.gtin.now in
    let long : length (digits_of text) ≡ 14 = length-map text _ ∙ (omega arith) in (
      digits_of text,
      symbol_drawn Itf14 text c.new.result (omega arith) ascii (c.new.ensures ∙ c.itf14_widths.ensures),
      sym shown
          ∙ sym (padded_whole (digits_of text) long),
    )
