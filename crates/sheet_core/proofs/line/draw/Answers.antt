use Rattle.std.proofs.Common.{◌≡◌, ◌+◌, ◌<◌, true, not, [], ◌∷◌, ◌++◌, length, take, sym, ap, subst, ◌∙◌, get_or, arith}
use Rattle.std.proofs.lemmas.List.{take_more, length-take}
use Rattle.sheet_core.proofs.CellFacts.{colour, colour_more}
use Rattle.sheet_core.proofs.DarkDots.{Has, has_light, has_dark, place_more}
use Rattle.sheet_core.proofs.line.draw.Goals as goal
use Rattle.sheet_core.proofs.line.draw.Goals.{then-dark, else-dark}

pub darken-requires-clause-within : goal.darken-requires-clause-within
darken-requires-clause-within c =
    let p = place_more c.args.from c.loop-module.at c.args.dots c.args.modules.now c.loop-module.module-index c.from.result (omega arith) (omega arith)
    c.loop-module.invariant.at_is in omega arith

pub darken-requires-clause-few : goal.darken-requires-clause-few
darken-requires-clause-few c =
    let p = place_more c.args.from c.loop-module.at c.args.dots c.args.modules.now c.loop-module.module-index c.from.result (omega arith) (omega arith)
    c.loop-module.invariant.at_is in omega arith

pub loop-module-preserved : goal.loop-module-preserved
loop-module-preserved c =
    let ms = c.args.modules.now in
    let i = c.loop-module.module-index in
    let low : i < length ms = omega arith in
    let p = place_more c.args.from c.loop-module.at c.args.dots ms i c.from.result low (omega arith) c.loop-module.invariant.at_is in
    let n : length (take i ms) ≡ i = length-take i ms ∙ (omega arith) in
    let next : take i ms ++ c.from.result ∷ [] ≡ take (i + 1) ms =
    ap (λ m. take i ms ++ m ∷ []) (let e : c.from.result ≡ get_or ms i 0 = omega arith in e) ∙ sym (take_more ms i 0 low) in
    record {
      at_is = p.0;
      dark_is = ap not c.loop-module.invariant.dark_is ∙ sym (colour_more true i);
      has = subst (Has c.if-dark.line c.args.line.now c.args.from c.args.dots) next (elim c.if-dark.branch [
        | then-dark w ↦ rw w.line-is (has_dark c.loop-module.line _ c.args.line.now c.args.from c.args.dots c.loop-module.at (take i ms) c.from.result
            c.loop-module.invariant.has
            (ap (colour true) n ∙ sym c.loop-module.invariant.dark_is ∙ w.if-dark.true) c.loop-module.invariant.at_is w.darken.ensures)
        | else-dark w ↦ rw w.line-is (has_light c.loop-module.line c.args.line.now c.args.from c.args.dots (take i ms) c.from.result c.loop-module.invariant.has
            (ap (colour true) n ∙ sym c.loop-module.invariant.dark_is ∙ w.if-dark.false))
      ]);
    }
