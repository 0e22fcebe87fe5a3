use Rattle.std.proofs.Common.{◌∙◌, ◌-◌, List, ap, ap₂, arith, drop, length, sym, take, ℕ}
use Rattle.element_core.specs.Shown.{shown_value}
use Rattle.element_core.specs.inner.Families.{row_with}
use Rattle.element_core.proofs.Listed.{shown_shorter}
use Rattle.element_core.proofs.Pieces.{rest_from_end}
use Rattle.element_core.proofs.Shown.{take-shown}
use Rattle.element_core.proofs.walk.first_element.Goals as goal

pub returns-clause-value : goal.returns-clause-value
returns-clause-value c =
    let text = c.args.text.now in
    let is = c.in_ok-front.ensures.front in
    let row = row_with c.in_ok-front.front.family text in
    is.value ∙ sym (take-shown row (drop (length row.ai) text))
    ∙ ap₂ (λ (v a : List ℕ). take (length v) (drop (length a) text)) (sym is.value) (sym is.ai)

pub returns-clause-rest : goal.returns-clause-rest
returns-clause-rest c =
    let text = c.args.text.now in
    let is = c.in_ok-front.ensures.front in
    let row = row_with c.in_ok-front.front.family text in
    let shorter = shown_shorter row text is.row in
    let within = shorter.0 in
    is.rest ∙ rest_from_end text (length row.ai) (length (shown_value row text)) (omega (arith, within))
    ∙ ap (λ (r : List ℕ). drop (length text - length r) text) (sym is.rest)
