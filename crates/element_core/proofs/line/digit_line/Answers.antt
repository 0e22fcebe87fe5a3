use Rattle.std.proofs.Common.{◌∷◌, ◌++◌, ◌+◌, ◌∙◌, [], ap, codes, sym}
use Rattle.std.proofs.lemmas.Fmt.{decimal_digit}
use Rattle.element_core.proofs.line.digit_line.Goals as goal

pub returns-in-Ok : goal.returns-in-Ok
returns-in-Ok c =
    let d = c.in-Ok.digit in
    let e = c.in-Ok.ensures in
    let said = c.push_bytes.ensures ∙ (ap (λ t. t ++ (48 + d) ∷ []) c.new-text.ensures ∙ sym (decimal_digit d e.digit)) in
    rw e.taken (d, e.digit, e.checked, ap (λ t. codes "digit " ++ t) said)
