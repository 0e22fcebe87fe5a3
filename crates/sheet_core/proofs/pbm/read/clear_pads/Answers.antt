use Rattle.std.proofs.Common.{◌≡◌, ◌+◌, ◌-◌, ◌*◌, ◌<◌, ◌%◌, ◌^◌, ℕ, sym, ap, ap₂, subst, ◌∙◌, arith, get_or, ◌≤◌}
use Rattle.sheet_core.specs.Bitmaps.{pad, stride}
use Rattle.sheet_core.proofs.pbm.PadFacts.{Cleared, cleared_all, cleared_more, none_padded}
use Rattle.sheet_core.proofs.pbm.read.clear_pads.Goals as goal

pub loop-row-preserved : goal.loop-row-preserved
loop-row-preserved c =
    let width = c.args.size.width in
    let w = c.stride-stride.ensures in
    let r = c.requires.count in
    let long = c.loop-row.invariant.long in
    let some : 0 < stride width = let wide = c.requires.wide in omega arith in
    let last : ℕ = c.stride-stride.result * c.loop-row.row + (c.stride-stride.result - 1) in
    let place : last ≡ stride width * c.loop-row.row + (stride width - 1) = ap (λ w. w * c.loop-row.row + (w - 1)) w in
    let pads : 8 * c.stride-stride.result - c.from.result ≡ pad width = ap₂ (λ a b. 8 * a - b) w c.from.ensures in
    let below : stride width * c.loop-row.row + stride width ≤ stride width * c.args.size.height =
    next (stride width) c.loop-row.row c.args.size.height (omega arith) in
    cleared_more width c.args.bytes.now c.loop-row.row c.loop-row.bytes last c.without_low_bits.result some place (omega arith)
    (c.without_low_bits.ensures ∙ ap (λ p. get_or c.loop-row.bytes last 0 - get_or c.loop-row.bytes last 0 % 2 ^ p) pads) c.loop-row.invariant
  where
    next : (w row height : ℕ) → row < height → w * row + w ≤ w * height
    next w row height h = grind arith

pub returns : goal.returns
returns c =
    let end : c.loop-row.row ≡ c.args.size.height = omega arith in
    cleared_all c.args.size.width c.args.size.height c.args.bytes.now c.loop-row.bytes c.requires.count
    (subst (λ r. Cleared c.args.size.width c.args.bytes.now r c.loop-row.bytes) end c.loop-row.invariant)

pub returns-then-pad-eq0 : goal.returns-then-pad-eq0
returns-then-pad-eq0 c =
    let pads : 8 * c.stride-stride.result - c.from.result ≡ pad c.args.size.width = ap₂ (λ a b. 8 * a - b) c.stride-stride.ensures c.from.ensures in
    none_padded c.args.size.width c.args.bytes.now (sym pads ∙ c.if-pad-eq0.true)
