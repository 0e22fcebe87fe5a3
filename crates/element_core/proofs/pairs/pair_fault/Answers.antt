use Rattle.std.proofs.Common.{◌≡◌, ◌∙◌, ap, length, length-take-le, sym, subst}
use Rattle.std.proofs.Common.{Some}
use Rattle.element_core.specs.declared.fault.ElementFault.TheVariants.{UnknownAi, ValueLength}
use Rattle.element_core.specs.Elements.{Entry, row_fault}
use Rattle.element_core.specs.Pairs.{entry_of, entry_fault}
use Rattle.element_core.specs.inner.Families.{row_with}
use Rattle.element_core.proofs.PairFaults.{known_entry, longer_entry, unknown_entry, unread_entry}
use Rattle.element_core.proofs.Unique.{same_element}
use Rattle.element_core.proofs.pairs.pair_fault.Goals as goal
use Rattle.element_core.proofs.pairs.pair_fault.Goals.{then-ai-family-via-then-ai-family, then-ai-family-via-else-ai-family+then-not-is_read_by}

pub returns-in_default : goal.returns-in_default
returns-in_default c =
    let e : Entry = record { ai = c.as_slice-ai.result.now; value = c.as_slice-value.result.now } in
    let same = same_element e (entry_of c.args.pair.now) c.as_slice-ai.ensures.value c.as_slice-value.ensures.value in
    sym (subst (λ x. entry_fault c.args.year c.args.i x ≡ Some (UnknownAi c.args.i)) same
    (unknown_entry c.args.year c.args.i e (sym c.in_default.ensures.row)))

pub returns-then-ai-family : goal.returns-then-ai-family
returns-then-ai-family c =
    let e : Entry = record { ai = c.as_slice-ai.result.now; value = c.as_slice-value.result.now } in
    let same = same_element e (entry_of c.args.pair.now) c.as_slice-ai.ensures.value c.as_slice-value.ensures.value in
    let row = row_with c.in-Some.family e.ai in
    let within = c.in-Some.ensures.within in
    let long : length row.ai ≡ length c.in-Some.family.least.now = length-take-le (length c.in-Some.family.least.now) e.ai within in
    sym (subst (λ x. entry_fault c.args.year c.args.i x ≡ Some (UnknownAi c.args.i)) same
    (elim c.then-ai-family.branch [
      | then-ai-family-via-then-ai-family w ↦ let ne = w.if-ai-family.true in
          longer_entry c.args.year c.args.i e row (sym c.in-Some.ensures.row) (λ k. ne (k ∙ long))
      | then-ai-family-via-else-ai-family+then-not-is_read_by w ↦
          unread_entry c.args.year c.args.i e row (sym c.in-Some.ensures.row) (sym w.if-not-is_read_by.ensures)
    ]))

pub returns : goal.returns
returns c =
    let e : Entry = record { ai = c.as_slice-ai.result.now; value = c.as_slice-value.result.now } in
    let same = same_element e (entry_of c.args.pair.now) c.as_slice-ai.ensures.value c.as_slice-value.ensures.value in
    let row = row_with c.in-Some.family e.ai in
    let within = c.in-Some.ensures.within in
    let long : length row.ai ≡ length c.in-Some.family.least.now = length-take-le (length c.in-Some.family.least.now) e.ai within in
    let known = known_entry c.args.year c.args.i e row (sym c.in-Some.ensures.row) (sym c.if-not-is_read_by.ensures) (c.if-ai-family.false ∙ sym long) in
    subst (λ x. c.row_fault.result ≡ entry_fault c.args.year c.args.i x) same
    (c.row_fault.ensures ∙ ap (λ y. row_fault y c.args.i (ValueLength c.args.i) row.parts e.value) c.reference.ensures ∙ sym known)
