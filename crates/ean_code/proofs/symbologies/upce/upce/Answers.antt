use Rattle.std.proofs.Common.{rules, ℕ, List, [], ◌∷◌, ◌++◌, ◌-◌, ◌∙◌, sym, subst, take, get_or}
use Rattle.digits_core.specs.Digits.{IsChecked, digits_of}
use Rattle.ean_code.specs.Symbols.{IsNumberSymbol}
use Rattle.ean_code.specs.declared.kind.Kind.TheVariants.{UpcE}
use Rattle.ean_code.specs.Widths.{AreModules}
use Rattle.ean_code.proofs.EachKind.{symbol_valid}
use Rattle.ean_code.proofs.Expanded.{upce_drawn, upce_of, upce_stands}
use Rattle.ean_code.proofs.symbologies.upce.upce.Goals as goal

pub returns-in_err-spelled-clause-none : goal.returns-in_err-spelled-clause-none
returns-in_err-spelled-clause-none c = rw c.from_residual.ensures (λ modules s.
    let checked : IsChecked c.args.gtin.now = search rules in
    c.in_err-spelled.ensures.none (take 6 s.0) (get_or s.0 6 0) (upce_of modules s.0 c.args.gtin.now s.1 s.2 checked))

pub new-requires : goal.new-requires
new-requires c =
    let six : List ℕ = digits_of c.in_ok-spelled.spelled.0 in
    let check : ℕ = c.in_ok-spelled.spelled.1 - 48 in
    let drawn = c.upce_widths.ensures in
    let symbol : IsNumberSymbol UpcE c.upce_widths.result.items (six ++ check ∷ []) =
    upce_drawn six check c.args.gtin.now c.upce_widths.result.items c.in_ok-spelled.ensures.some.spelling drawn in
    subst AreModules (sym drawn) (symbol_valid UpcE (six ++ check ∷ []) symbol.count symbol.valid)

pub returns-clause-some : goal.returns-clause-some
returns-clause-some c =
    let six : List ℕ = digits_of c.in_ok-spelled.spelled.0 in
    let check : ℕ = c.in_ok-spelled.spelled.1 - 48 in
    let spelling = c.in_ok-spelled.ensures.some.spelling in (
      six ++ check ∷ [],
      upce_drawn six check c.args.gtin.now c.new.result spelling (c.new.ensures ∙ c.upce_widths.ensures),
      upce_stands six check
          c.args.gtin.now spelling,
    )
