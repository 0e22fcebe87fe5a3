use Rattle.std.proofs.Common.{◌≡◌, None, Some, subst, sym, ap, ◌∙◌, List, ℕ, arith}
use Rattle.element_core.specs.declared.fault.ElementFault.TheVariants.{MissingSeparator}
use Rattle.element_core.specs.Elements.{fault_by, row_fault}
use Rattle.std.specs.Prelude.{is_some}
use Rattle.element_core.specs.inner.Families.{row_with}
use Rattle.element_core.specs.Table.{predefined_length}
use Rattle.element_core.proofs.Look.{no_read_row, read_row, row_is, predefined_is, unread_row}
use Rattle.element_core.proofs.Shown.{stands_as}
use Rattle.element_core.proofs.front.element_at.Goals as goal

pub returns-in-None-clause-found : goal.returns-in-None-clause-found
returns-in-None-clause-found c =
    let f = c.in-Some.front in
    let is = c.in-Some.ensures.front in
    stands_as c.args.year c.args.place (row_with f.family c.args.text.now) c.args.text.now f.ai.now f.value.now f.rest.now
    (read_row c.args.year (row_with f.family c.args.text.now) c.args.text.now is.row (sym c.if-not-is_read_by.ensures))
    (record { ai_is = is.ai; value_is = is.value; rest_is = is.rest })
    (subst (λ y. row_fault y c.args.place (MissingSeparator c.args.place) f.family.parts.now f.value.now ≡ None) c.reference.ensures (sym c.row_fault.ensures ∙ c.in-None.is))

pub returns-in-None-clause-predefined : goal.returns-in-None-clause-predefined
returns-in-None-clause-predefined c =
    let is = c.in-Some.ensures.front in
    let row = row_with c.in-Some.front.family c.args.text.now in
    predefined_is row (row_is row c.args.text.now is.row).0 ∙ ap (λ (a : List ℕ). is_some (predefined_length a)) (sym is.ai)

pub returns-in-None-clause-shorter : goal.returns-in-None-clause-shorter
returns-in-None-clause-shorter c = let within = c.in-Some.ensures.within in let some = c.in-Some.ensures.some in omega arith

pub returns-in_default-clause-fault : goal.returns-in_default-clause-fault
returns-in_default-clause-fault c = ap (fault_by c.args.year c.args.place c.args.text.now) (no_read_row c.args.year c.args.text.now c.in_default.ensures.front)

pub returns-then-not-is_read_by-clause-fault : goal.returns-then-not-is_read_by-clause-fault
returns-then-not-is_read_by-clause-fault c =
    ap (fault_by c.args.year c.args.place c.args.text.now)
    (unread_row c.args.year (row_with c.in-Some.front.family c.args.text.now) c.args.text.now c.in-Some.ensures.front.row (sym c.if-not-is_read_by.ensures))

pub returns-in-Some-row_fault-clause-fault : goal.returns-in-Some-row_fault-clause-fault
returns-in-Some-row_fault-clause-fault c =
    let f = c.in-Some.front in
    let is = c.in-Some.ensures.front in
    let row = row_with f.family c.args.text.now in
    ap (fault_by c.args.year c.args.place c.args.text.now) (read_row c.args.year row c.args.text.now is.row (sym c.if-not-is_read_by.ensures))
    ∙ ap (row_fault c.args.year.year c.args.place (MissingSeparator c.args.place) row.parts) (sym is.value)
    ∙ subst (λ y. row_fault y c.args.place (MissingSeparator c.args.place) f.family.parts.now f.value.now ≡ Some c.in-Some-row_fault.fault) c.reference.ensures
    (sym c.row_fault.ensures ∙ c.in-Some-row_fault.is)
