use Rattle.std.proofs.Common.{◌≡◌, IfNone, IfSome, Option, Some, subst}
use Rattle.scan_core.specs.Windows.{IsOver}
use Rattle.gs1_c.proofs.ToldFacts.{left_less, told_all, told_more, told_none, told_room}
use Rattle.gs1_c.proofs.found.put_told.Goals as goal

-- what is said of what is there
some : {T : Type 0} (P : T → Type 0) (found : Option T) (x : T) → found ≡ Some x → IfSome found P → P x
some P found x is p = subst (λ o. IfSome o P) is p

pub symbols-init : goal.symbols-init
symbols-init g c = told_none (g.S.SymbolSearch.rest c.args.search.now) c.args.out.now

pub put_symbol-end-requires : goal.put_symbol-end-requires
put_symbol-end-requires g c =
    let rest = g.S.SymbolSearch.rest in
    told_room (rest c.args.search.now) (rest c.symbols.search) c.symbols.end c.args.out.now c.symbols.out c.requires c.symbols.invariant

pub symbols-preserved : goal.symbols-preserved
symbols-preserved g c =
    let rest = g.S.SymbolSearch.rest in
    let w = c.in-Some.window in
    let e = c.next_symbol.ensures in
    let p = c.put_symbol-end.ensures in
    told_more (rest c.args.search.now) (rest c.symbols.search) (rest c.next_symbol.new.self) w c.symbols.end c.put_symbol-end.result
    c.args.out.now c.symbols.out c.put_symbol-end.new.out c.symbols.invariant (some _ c.next_symbol.result w c.in-Some.is e.next)
    (some _ c.next_symbol.result w c.in-Some.is e.after)
    (record { ends = p.end; few = p.few; put = p.put; unchanged = p.unchanged; long = c.put_symbol-end.auto.out })

pub symbols-smaller : goal.symbols-smaller
symbols-smaller g c =
    let rest = g.S.SymbolSearch.rest in
    let w = c.in-Some.window in
    let e = c.next_symbol.ensures in
    left_less (rest c.symbols.search) (rest c.next_symbol.new.self) w (some _ c.next_symbol.result w c.in-Some.is e.next)
    (some _ c.next_symbol.result w c.in-Some.is e.after)

pub returns : goal.returns
returns g c =
    let rest = g.S.SymbolSearch.rest in
    told_all (rest c.args.search.now) (rest c.symbols.search) c.symbols.end c.args.out.now c.symbols.out c.symbols.invariant
    (subst (λ o. IfNone o (IsOver (rest c.symbols.search))) c.in_default.is c.next_symbol.ensures.over)
