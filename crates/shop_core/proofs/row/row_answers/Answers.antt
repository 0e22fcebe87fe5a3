use Rattle.std.proofs.Common.{◌≡◌, ◌∙◌}
use Rattle.std.specs.List.{list_any, range_with_len}
use Rattle.scan_core.specs.Bits.{dot_at}
use Rattle.scan_core.specs.Row.{dots_of}
use Rattle.scan_core.specs.Laws.{DotsDetermine}
use Rattle.shop_core.specs.Drawings.{has_dot, row_dots}
use Rattle.shop_core.proofs.RowFacts.{runs_say, same_dots}
use Rattle.shop_core.proofs.row.row_answers.Goals as goal

pub returns : goal.returns
returns c =
    let s = c.of_dots in
    let law : DotsDetermine = c.dots_determine.ensures in
    let parts = c.args.parts.now in
    let dots : dots_of s.result.runs ≡ row_dots parts c.args.width c.args.y =
    s.ensures.dots ∙ same_dots (dot_at c.put_row.new.row) (λ x. list_any (has_dot x c.args.y) parts) c.put_row.ensures (range_with_len 0 c.args.width) in (
      (λ yes. record { runs = s.result.runs; row = s.ensures.row; dots = dots; alone = c.says_alone.ensures.0 yes }),
      (λ answers. c.says_alone.ensures.1 (runs_say law parts c.args.width c.args.y c.args.label.now c.args.year s.result.runs s.ensures.row dots answers)),
    )
