use Rattle.std.proofs.Common.{◌∙◌, ap, subst, sym}
use Rattle.scan_core.specs.Windows.{IsNextWindow, IsOver, Search, SymbolsAreTold, search_after}
use Rattle.shop_core.specs.Drawings.{IsOf}
use Rattle.shop_core.proofs.RowFacts.{first_says, no_second, one_alone}
use Rattle.shop_core.proofs.row.says_alone.Goals as goal

pub returns-then-not-is_of : goal.returns-then-not-is_of
returns-then-not-is_of c =
    let s = c.args.symbols in
    let label = c.args.label.now in
    let w = c.in-Some.window in
    let next = subst (λ (s : Search). IsNextWindow s w) c.requires.all c.in-Some.ensures.next in
    ((λ never. cc), (λ alone. sym c.if-not-is_of.true ∙ c.is_of.ensures.1 (first_says s.runs c.args.year label w next alone)))

pub returns-in-None : goal.returns-in-None
returns-in-None c =
    let s = c.args.symbols in
    let label = c.args.label.now in
    let w = c.in-Some.window in
    let law : SymbolsAreTold = c.symbols_are_told.ensures in
    let next = subst (λ (s : Search). IsNextWindow s w) c.requires.all c.in-Some.ensures.next in
    let after = c.in-Some.ensures.after ∙ ap (λ (s : Search). search_after s w) c.requires.all in
    let over = subst IsOver after c.in-None.ensures.over in
    let says : IsOf label c.args.year w = c.is_of.ensures.0 (cc) in
    ((λ yes. one_alone law s.runs c.args.year label w c.requires.row next over says), (λ alone. cc))

pub returns-in-Some-next_symbol : goal.returns-in-Some-next_symbol
returns-in-Some-next_symbol c =
    let s = c.args.symbols in
    let label = c.args.label.now in
    let w = c.in-Some.window in
    let u = c.in-Some-next_symbol.field-0 in
    let next = subst (λ (s : Search). IsNextWindow s w) c.requires.all c.in-Some.ensures.next in
    let after = c.in-Some.ensures.after ∙ ap (λ (s : Search). search_after s w) c.requires.all in
    let second = subst (λ (s : Search). IsNextWindow s u) after c.in-Some-next_symbol.ensures.next in
    ((λ never. cc), (λ alone. absurd (no_second s.runs c.args.year label w u next second alone)))
