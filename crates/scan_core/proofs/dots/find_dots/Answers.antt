use Rattle.std.proofs.Common.{◌∙◌, ap, arith, subst, sym}
use Rattle.scan_core.specs.Bits.{dots_at}
use Rattle.scan_core.specs.Reading.{IsFound}
use Rattle.scan_core.specs.Row.{IsRow}
use Rattle.scan_core.proofs.CandidateFacts.{none_long}
use Rattle.scan_core.proofs.FirstFacts.{whole_items}
use Rattle.scan_core.proofs.RowFacts.{has_dark}
use Rattle.scan_core.proofs.dots.find_dots.Goals as goal

pub returns-then-first : goal.returns-then-first
returns-then-first c =
    let f = c.first_runs-first.ensures in
    let more = f.3.behind c.if-first.true in (
      f.0,
      f.1,
      f.2 ∙ ap (dots_at c.args.bits.now 0) c.from.ensures,
      (tt, λ year. (has_dark f.0 f.1 (omega arith), λ h. none_long f.0 h.0 h.1 h.2 (omega arith))),
    )

pub found_in-requires : goal.found_in-requires
found_in-requires c =
    let f = c.first_runs-first.ensures in
    let same = whole_items f.0 c.first_runs-first.result.widths.items f.3.front (f.3.whole c.if-first.false) in
    subst IsRow (sym (c.as_slice.ensures.value ∙ same)) f.1

pub returns : goal.returns
returns c =
    let f = c.first_runs-first.ensures in
    let same = whole_items f.0 c.first_runs-first.result.widths.items f.3.front (f.3.whole c.if-first.false) in (
      f.0,
      f.1,
      f.2 ∙ ap (dots_at c.args.bits.now 0) c.from.ensures,
      subst (λ ws. IsFound ws c.found_in.result) (c.as_slice.ensures.value ∙ same) c.found_in.ensures,
    )
