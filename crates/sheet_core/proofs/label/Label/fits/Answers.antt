use Rattle.std.proofs.Common.{◌≡◌, ℕ, ◌+◌, ◌*◌, ◌∙◌, sum, ap, ap₂, arith}
use Rattle.std.proofs.lemmas.Bool.{le-leb, leb-true}
use Rattle.sheet_core.specs.Grids.{Cells}
use Rattle.sheet_core.specs.Kinds.{symbology_of}
use Rattle.sheet_core.specs.Labels.{Drawn}
use Rattle.sheet_core.proofs.label.Label.fits.Goals as goal

pub returns-clause-some : goal.returns-clause-some
returns-clause-some c =
    let k : Cells = c.args.grid.now in
    let quiet = c.symbology-symbology.ensures in
    let s : Drawn = record {
      modules = c.in_ok-modules.modules;
      quiet_left = c.symbology-symbology.result.quiet_left;
      quiet_right = c.symbology-symbology.result.quiet_right;
    } in
    let all : ℕ = c.from.result + c.total.result + c.from-2.result in
    let long : all ≡ s.quiet_left + sum s.modules + s.quiet_right =
    ap₂ (λ a b. a + b) (ap₂ (λ a b. a + b) c.from.ensures c.total.ensures.sum) c.from-2.ensures in
    let dots : c.from-3.result ≡ k.dots = c.from-3.ensures ∙ ap (λ (g : Cells). g.dots) c.grid.view_is in
    let wide : c.from-4.result ≡ k.width = c.from-4.ensures ∙ ap (λ (g : Cells). g.width) c.grid.view_is in
    let same : all * c.from-3.result ≡ (s.quiet_left + sum s.modules + s.quiet_right) * k.dots = ap₂ (λ a b. a * b) long dots in (
      s,
      record {
        symbol = c.in_ok-modules.ensures.some;
        left = quiet.left ∙ ap (λ kind. (symbology_of kind).quiet_left) c.kind.ensures;
        right = quiet.right ∙ ap (λ kind. (symbology_of kind).quiet_right) c.kind.ensures;
      },
      (
        λ test. let fits = leb-true (all * c.from-3.result) c.from-4.result test in omega arith,
        λ fits. le-leb (all * c.from-3.result) c.from-4.result (omega arith),
      ),
    )
