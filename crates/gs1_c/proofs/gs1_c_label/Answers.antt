use Rattle.std.proofs.Common.{◌≡◌, ◌⊎◌, inr, refl, subst}
use Rattle.digits_core.specs.Refusals.{refusal_words}
use Rattle.digits_core.specs.declared.refusal.RefusalKind.TheVariants as refusal
use Rattle.element_core.specs.Terms.{Terms}
use Rattle.sheet_core.specs.Grids.{Cells, IsGrid}
use Rattle.gs1_c.specs.Labels.{IsImageSaid, IsKindSaid, IsLabelAnswer, one_cell}
use Rattle.gs1_c.specs.Lines.{terms_of, words_text}
use Rattle.gs1_c.proofs.LinesByTerms.{under}
use Rattle.gs1_c.proofs.gs1_c_label.Goals as goal

pub returns-in-Ok : goal.returns-in-Ok
returns-in-Ok c =
    let put = c.put_image.ensures in
    let text = c.args.text.now in
    let g : Cells = one_cell c.args.module_dots c.args.width c.args.height in
    let kind = c.in-Some.kind in
    let by : Terms → Type 0 = λ t.
    ((IsGrid g → ⊥) × (put.0 ≡ refusal_words refusal.BadGrid)) ⊎ (IsGrid g × IsKindSaid (λ l. IsLabelAnswer l g) t kind text put.0) in
    let said = subst (λ (grid : Cells). IsKindSaid (λ l. IsLabelAnswer l grid) c.in-Some-terms_of.terms kind text put.0) c.in-Ok.ensures.ok put.1 in
    let here = under (put.0 ≡ words_text) c.in-Some-terms_of.terms (terms_of c.args.year) by c.in-Some-terms_of.ensures
    (inr (c.in-Ok.ensures.exact.0 refl, said)) in
    (put.0, subst (λ o. IsImageSaid o c.args.year text g put.0) c.in-Some.ensures here, put.2)
