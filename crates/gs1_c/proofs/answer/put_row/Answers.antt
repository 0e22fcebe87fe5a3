use Rattle.std.proofs.Common.{List, ℕ}
use Rattle.element_core.specs.Terms.{Terms}
use Rattle.scan_core.specs.Row.{runs_fault}
use Rattle.answer_core.specs.Rows.{IsWidthsLine}
use Rattle.gs1_c.proofs.LinesByTerms.{under, widths_line}
use Rattle.gs1_c.proofs.answer.put_row.Goals as goal

pub returns : goal.returns
returns c =
    let widths = c.args.widths.now in
    let found = c.find_widths in
    let put = c.put_found.ensures in
    let IsLine : Terms → List ℕ → Type 0 = λ terms. IsWidthsLine c.args.form terms widths (runs_fault widths) in
    let said = widths_line c.args.form c.in-Some.terms widths found.result put.0 found.ensures.ok found.ensures.taken found.ensures.refused put.1 in
    (put.0, under _ c.in-Some.terms _ (λ t. IsLine t put.0) c.in-Some.ensures said, put.2)
