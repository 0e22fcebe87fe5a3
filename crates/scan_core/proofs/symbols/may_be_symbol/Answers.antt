use Rattle.std.proofs.Common.{◌≡◌, ℕ, ◌-◌, ◌+◌, ap, arith, get_or, subst}
use Rattle.scan_core.specs.Showing.{HasSize, kind_of}
use Rattle.scan_core.proofs.WindowFacts.{shown, window_candidate, window_ends}
use Rattle.scan_core.proofs.symbols.may_be_symbol.Goals as goal

pub returns-then-may_end : goal.returns-then-may_end
returns-then-may_end c = λ none year v s first count.
    let runs = c.args.widths.now in
    let N = (shown runs year c.requires.row v s).N in
    let candidate = window_candidate runs year c.requires.row v s in
    c.is_symbol_count.ensures none v.carrier N (subst (λ n. HasSize (kind_of v.carrier) (n - 2) N) count candidate)

pub returns-else-may_end : goal.returns-else-may_end
returns-else-may_end c = λ none year v s first count.
    let runs = c.args.widths.now in
    let at : (k : ℕ) → get_or runs (v.first + v.count - k) 0 ≡ get_or runs (c.args.first + c.args.count - k) 0 =
    λ k. let same : v.first + v.count - k ≡ c.args.first + c.args.count - k = omega arith in ap (λ i. get_or runs i 0) same in
    let right = at 1 in
    let next = at 2 in
    let third = at 3 in
    let ends = (window_ends runs year c.requires.row v s).1 in
    let dark = ends.narrow_dark in
    let light = ends.narrow_light in
    let second : c.args.first + c.args.count - 1 - 1 ≡ c.args.first + c.args.count - 2 = omega arith in
    let last : c.args.first + c.args.count - 1 - 2 ≡ c.args.first + c.args.count - 3 = omega arith in
    let a = ap (λ i. get_or runs i 0) second in
    let b = ap (λ i. get_or runs i 0) last in
    let yes = c.may_end.ensures.1 (record { narrow_dark = omega arith; narrow_light = omega arith }) in
    let no = c.if-may_end.false in cc
