use Rattle.std.proofs.Common.{◌≡◌, ◌∙◌, ◌+◌, ◌<◌, ◌≤◌, ℕ, List, Option, ap, inr, length, map, refl, subst}
use Rattle.digits_core.specs.Buffers.{pasted}
use Rattle.picture_core.specs.declared.symbol.SeenSymbol.{SeenSymbol}
use Rattle.gs1_c.specs.Found.{ArePut}
use Rattle.gs1_c.specs.Pictures.{dropped_line, placed_line_in}
use Rattle.gs1_c.proofs.PictureFacts.{line_behind}
use Rattle.gs1_c.proofs.picture.put_shown.Goals as goal

pub returns : goal.returns
returns c =
    let shown = c.args.shown.now in
    let old = c.args.out.now in
    let now = c.put_all-end.new.out in
    let end = c.put_all-end.result in
    let next = c.put_fitting.new.out in
    let same = c.as_slice-2.ensures.value ∙ c.line_of_dropped.ensures.line in
    inr (
      c.if-shows_nothing.ensures.some refl,
      line_behind old now next (map placed_line_in shown.symbols.items) (dropped_line shown.dropped) end c.put_fitting.result
          (subst (λ (ss : List (Option SeenSymbol)). ArePut (map placed_line_in ss) old now end) c.as_slice.ensures.value c.put_all-end.ensures.put)
          c.put_all-end.auto.out
          (c.put_fitting.ensures.end ∙ ap (λ (l : List ℕ). end + length l) same)
          (subst (λ (l : List ℕ). end + length l ≤ length now → next ≡ pasted now end l) same c.put_fitting.ensures.put)
          (subst (λ (l : List ℕ). length now < end + length l → next ≡ now) same c.put_fitting.ensures.unchanged),
    )
