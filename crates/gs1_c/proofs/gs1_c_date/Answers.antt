use Rattle.std.proofs.Common.{◌≡◌, List, refl, ℕ}
use Rattle.element_core.specs.Terms.{Terms}
use Rattle.gs1_c.specs.Dates.{date_line_by, shown_fault, shown_pair}
use Rattle.gs1_c.proofs.LinesByTerms.{under}
use Rattle.gs1_c.proofs.gs1_c_date.Goals as goal

pub returns : goal.returns
returns c =
    let text = c.args.text.now in
    let line : Terms → List ℕ = λ terms. date_line_by terms (shown_pair text) (shown_fault terms text) in
    (line c.in-Some.terms, under _ c.in-Some.terms _ (λ t. line c.in-Some.terms ≡ line t) c.in-Some.ensures refl, c.put_date.ensures)
