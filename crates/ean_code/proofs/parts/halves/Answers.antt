use Rattle.std.proofs.Common.{◌≡◌, true, sym, ap, ◌∙◌}
use Rattle.std.specs.List.{list_all}
use Rattle.ean_code.specs.declared.number_sets.Character.{Character}
use Rattle.ean_code.specs.inner.NumberSets.{is_a}
use Rattle.ean_code.proofs.Halves.{framed_of, framed_valid, found_halves, same_framed}
use Rattle.ean_code.proofs.Joined.{AreCharacters-as_a, all_of_a, as_a, rights-as_a, same_characters}
use Rattle.ean_code.proofs.parts.halves.Goals as goal

pub returns-in_err-left-clause-none : goal.returns-in_err-left-clause-none
returns-in_err-left-clause-none c = rw c.from_residual.ensures (λ ls rs h. c.in_err-left.ensures.none _ _ (framed_of c.args.count c.args.widths.now ls rs h))

pub characters-requires-clause-valid : goal.characters-requires-clause-valid
characters-requires-clause-valid c = (framed_valid _ c.args.widths.now _ _ c.in_ok-left.ensures.found c.requires.valid).0

pub characters-requires-2-clause-valid : goal.characters-requires-2-clause-valid
characters-requires-2-clause-valid c = (framed_valid _ c.args.widths.now _ _ c.in_ok-left.ensures.found c.requires.valid).1

pub returns-in_err-left-2-clause-none : goal.returns-in_err-left-2-clause-none
returns-in_err-left-2-clause-none c = rw c.from_residual-in_err-left-2.ensures (λ ls rs h.
    let same = same_framed _ c.args.widths.now _ _ _ _ (framed_of c.args.count c.args.widths.now ls rs h) c.in_ok-left.ensures.found in
    c.in_err-left-2.ensures.none ls h.left_valid same.0)

pub returns-in_err-right-clause-none : goal.returns-in_err-right-clause-none
returns-in_err-right-clause-none c = rw c.from_residual-in_err-right.ensures (λ ls rs h.
    let same = same_framed _ c.args.widths.now _ _ _ _ (framed_of c.args.count c.args.widths.now ls rs h) c.in_ok-left.ensures.found in
    c.in_err-right.ensures.none _ (AreCharacters-as_a rs h.right_valid) (sym (rights-as_a rs) ∙ same.1))

pub returns-then-not-are_of_a-clause-none : goal.returns-then-not-are_of_a-clause-none
returns-then-not-are_of_a-clause-none c = λ ls rs h.
    let same = same_framed _ c.args.widths.now _ _ _ _ (framed_of c.args.count c.args.widths.now ls rs h) c.in_ok-left.ensures.found in
    let found = c.in_ok-right.ensures.found in
    let right : c.in_ok-right.right.items ≡ as_a rs = same_characters _ _ found.0 (AreCharacters-as_a rs h.right_valid) (found.1 ∙ sym same.1 ∙ rights-as_a rs)
    in
    let all : list_all (λ (c : Character). is_a c.set) c.as_slice.result.now ≡ true =
    ap (list_all (λ (c : Character). is_a c.set)) (c.as_slice.ensures.value ∙ right) ∙ all_of_a rs in
    let said = c.are_of_a.ensures in let failed = c.if-not-are_of_a.true in cc

pub returns-clause-found : goal.returns-clause-found
returns-clause-found c =
    let left = c.in_ok-left-2.ensures.found in
    let right = c.in_ok-right.ensures.found in
    found_halves c.args.count c.args.widths.now _ _ _ _ c.in_ok-left.ensures.found left.0 left.1 right.0 right.1
    (sym (ap (list_all (λ (c : Character). is_a c.set)) c.as_slice.ensures.value) ∙ sym c.are_of_a.ensures ∙ c.if-not-are_of_a.false)
