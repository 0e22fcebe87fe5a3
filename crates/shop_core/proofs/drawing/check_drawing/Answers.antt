use Rattle.std.proofs.Common.{◌≡◌, ◌∙◌, ℕ, List, length, arith, refl, sym}
use Rattle.element_core.specs.Terms.{Terms}
use Rattle.shop_core.specs.Drawings.{IsDrawingOf, bar_count, zone_of}
use Rattle.shop_core.specs.declared.article.Article.{Article}
use Rattle.shop_core.specs.declared.drawing.Drawing.{Drawing}
use Rattle.shop_core.specs.declared.part.Part.{Part}
use Rattle.shop_core.specs.declared.part.Zone.{Zone}
use Rattle.shop_core.proofs.CheckFacts.{AreTheOnes, IsRightIn, is_right, right_in}
use Rattle.shop_core.proofs.drawing.check_drawing.Goals as goal

-- what is promised of the drawing, in the values that the code has
here : (d : Drawing) (a : Article) (year : Terms) (ps : List Part) (z : Zone) (n : ℕ) → ps ≡ d.parts.items → z ≡ zone_of d a.symbol
    → n ≡ bar_count a.symbol.modules → IsDrawingOf d a year → IsRightIn d a year ps z n a.symbol.modules (length a.texts.price.now)
here d a year ps z n parts zone bars =
    right_in d a year ps z n a.symbol.modules (length a.texts.price.now)
    (record { parts_are = parts; zone_is = zone; bars_are = bars; modules_are = refl; letters_are = refl })

pub returns-then-not-lie_on : goal.returns-then-not-lie_on
returns-then-not-lie_on c =
    let whole = here c.args.drawing.now c.args.article.now c.args.year c.as_slice-parts.result.now c.zone-zone.result c.bar_count-bars.result
    c.as_slice-parts.ensures.value c.zone-zone.ensures c.bar_count-bars.ensures in
    ((λ never. cc), (λ r. sym c.if-not-lie_on.true ∙ c.lie_on.ensures.1 (whole r).on))

pub returns-then-not-lie_apart : goal.returns-then-not-lie_apart
returns-then-not-lie_apart c =
    let whole = here c.args.drawing.now c.args.article.now c.args.year c.as_slice-parts.result.now c.zone-zone.result c.bar_count-bars.result
    c.as_slice-parts.ensures.value c.zone-zone.ensures c.bar_count-bars.ensures in
    ((λ never. cc), (λ r. sym c.if-not-lie_apart.true ∙ c.lie_apart.ensures.1 (whole r).apart))

pub returns-then-not-are_others : goal.returns-then-not-are_others
returns-then-not-are_others c =
    let whole = here c.args.drawing.now c.args.article.now c.args.year c.as_slice-parts.result.now c.zone-zone.result c.bar_count-bars.result
    c.as_slice-parts.ensures.value c.zone-zone.ensures c.bar_count-bars.ensures in
    ((λ never. cc), (λ r. sym c.if-not-are_others.true ∙ c.are_others.ensures.1 (whole r).others))

pub returns-then-not-keep_bearers : goal.returns-then-not-keep_bearers
returns-then-not-keep_bearers c =
    let whole = here c.args.drawing.now c.args.article.now c.args.year c.as_slice-parts.result.now c.zone-zone.result c.bar_count-bars.result
    c.as_slice-parts.ensures.value c.zone-zone.ensures c.bar_count-bars.ensures in
    ((λ never. cc), (λ r. sym c.if-not-keep_bearers.true ∙ (c.keep_bearers.ensures ∙ (whole r).bearers)))

pub returns-then-not-keep_runs : goal.returns-then-not-keep_runs
returns-then-not-keep_runs c =
    let whole = here c.args.drawing.now c.args.article.now c.args.year c.as_slice-parts.result.now c.zone-zone.result c.bar_count-bars.result
    c.as_slice-parts.ensures.value c.zone-zone.ensures c.bar_count-bars.ensures in
    ((λ never. cc), (λ r. sym c.if-not-keep_runs.true ∙ (c.keep_runs.ensures ∙ (whole r).runs)))

pub returns-then-not-keep_price : goal.returns-then-not-keep_price
returns-then-not-keep_price c =
    let whole = here c.args.drawing.now c.args.article.now c.args.year c.as_slice-parts.result.now c.zone-zone.result c.bar_count-bars.result
    c.as_slice-parts.ensures.value c.zone-zone.ensures c.bar_count-bars.ensures in
    ((λ never. cc), (λ r. sym c.if-not-keep_price.true ∙ (c.keep_price.ensures ∙ (whole r).price)))

pub returns-then-not-tell_all : goal.returns-then-not-tell_all
returns-then-not-tell_all c =
    let whole = here c.args.drawing.now c.args.article.now c.args.year c.as_slice-parts.result.now c.zone-zone.result c.bar_count-bars.result
    c.as_slice-parts.ensures.value c.zone-zone.ensures c.bar_count-bars.ensures in
    ((λ never. cc), (λ r. sym c.if-not-tell_all.true ∙ c.tell_all.ensures.1 (whole r).texts))

pub returns-then-not-are_bars : goal.returns-then-not-are_bars
returns-then-not-are_bars c =
    let d : Drawing = c.args.drawing.now in
    let a : Article = c.args.article.now in
    let whole = right_in d a c.args.year c.as_slice-parts.result.now c.zone-zone.result c.bar_count-bars.result c.widths.result.now (length a.texts.price.now)
    (record { parts_are = c.as_slice-parts.ensures.value; zone_is = c.zone-zone.ensures; bars_are = c.bar_count-bars.ensures; modules_are = c.widths.ensures.value; letters_are = refl }) in
    ((λ never. cc), (λ r. sym c.if-not-are_bars.true ∙ c.are_bars.ensures.1 (whole r).symbol))

pub returns : goal.returns
returns c =
    let d : Drawing = c.args.drawing.now in
    let a : Article = c.args.article.now in
    let same : AreTheOnes d a c.as_slice-parts.result.now c.zone-zone.result c.bar_count-bars.result c.widths.result.now (length a.texts.price.now) = record { parts_are = c.as_slice-parts.ensures.value; zone_is = c.zone-zone.ensures; bars_are = c.bar_count-bars.ensures; modules_are = c.widths.ensures.value; letters_are = refl } in
    let whole = right_in d a c.args.year c.as_slice-parts.result.now c.zone-zone.result c.bar_count-bars.result c.widths.result.now (length a.texts.price.now) same in (
      (λ yes. is_right d a c.args.year c.as_slice-parts.result.now c.zone-zone.result c.bar_count-bars.result c.widths.result.now (length a.texts.price.now) same (record {
        has_bars = omega arith;
        bars_on = omega arith;
        zone_on = omega arith;
        on = c.lie_on.ensures.0 (cc);
        apart = c.lie_apart.ensures.0 (cc);
        enough = omega arith;
        symbol = c.are_bars.ensures.0 (cc);
        others = c.are_others.ensures.0 (cc);
        bearers = sym c.keep_bearers.ensures ∙ (cc);
        runs = sym c.keep_runs.ensures ∙ (cc);
        texts = c.tell_all.ensures.0 (cc);
        price = sym c.keep_price.ensures ∙ (cc);
        rows = c.rows_answer.ensures.0 yes;
      })),
      (λ r. c.rows_answer.ensures.1 (whole r).rows),
    )

pub returns-then-drawing : goal.returns-then-drawing
returns-then-drawing c = ((λ never. cc), (λ r. absurd (omega (arith, r.has_bars))))

pub returns-then-drawing-2 : goal.returns-then-drawing-2
returns-then-drawing-2 c = ((λ never. cc), (λ r. absurd (omega (arith, r.bars_on))))

pub returns-then-zone-from : goal.returns-then-zone-from
returns-then-zone-from c =
    let whole = here c.args.drawing.now c.args.article.now c.args.year c.as_slice-parts.result.now c.zone-zone.result c.bar_count-bars.result
    c.as_slice-parts.ensures.value c.zone-zone.ensures c.bar_count-bars.ensures in
    ((λ never. cc), (λ r. absurd (omega (arith, (whole r).zone_on))))

pub returns-then-parts-bars : goal.returns-then-parts-bars
returns-then-parts-bars c =
    let whole = here c.args.drawing.now c.args.article.now c.args.year c.as_slice-parts.result.now c.zone-zone.result c.bar_count-bars.result
    c.as_slice-parts.ensures.value c.zone-zone.ensures c.bar_count-bars.ensures in
    ((λ never. cc), (λ r. absurd (omega (arith, (whole r).enough))))
