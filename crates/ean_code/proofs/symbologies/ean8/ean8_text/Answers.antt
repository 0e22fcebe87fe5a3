use Rattle.std.proofs.Common.{◌≡◌, ℕ, true, List, [], ◌++◌, ◌∙◌, sym, ap, ap₂, subst, take}
use Rattle.std.specs.List.{list_all}
use Rattle.digits_core.specs.Digits.{ascii_of}
use Rattle.ean_code.specs.declared.number_sets.Character.{Character}
use Rattle.ean_code.specs.inner.NumberSets.{AreCharacters, character_digits, is_a}
use Rattle.ean_code.specs.declared.kind.Kind.TheVariants.{Ean8}
use Rattle.ean_code.proofs.symbologies.Ean8Facts.{found8, halves8}
use Rattle.ean_code.proofs.Halves.{same_left}
use Rattle.ean_code.proofs.Joined.{AreCharacters-from, of_a-row}
use Rattle.ean_code.proofs.Texts.{text_of, two_parts}
use Rattle.ean_code.proofs.symbologies.ean8.ean8_text.Goals as goal

pub returns-then-not-are_of_a-clause-none : goal.returns-then-not-are_of_a-clause-none
returns-then-not-are_of_a-clause-none c = λ ds e.
    let ws : List ℕ = c.args.widths.now in
    let same = same_left 4 ws _ _ _ _ c.in_ok-left.ensures.found (halves8 ws ds e) in
    let all : list_all (λ (c : Character). is_a c.set) c.as_slice.result.now ≡ true =
    ap (list_all (λ (c : Character). is_a c.set)) (c.as_slice.ensures.value ∙ same) ∙ of_a-row 4 (take 4 ds) in
    let said = c.are_of_a.ensures in let failed = c.if-not-are_of_a.true in cc

pub push_digits-requires-2-clause-valid : goal.push_digits-requires-2-clause-valid
push_digits-requires-2-clause-valid c =
    let found = c.in_ok-left.ensures.found in subst AreCharacters (sym c.as_slice-3.ensures.value) (AreCharacters-from _ found.right_valid)

pub returns-clause-found : goal.returns-clause-found
returns-clause-found c =
    let found = c.in_ok-left.ensures.found in
    let of_a : list_all (λ (c : Character). is_a c.set) c.in_ok-left.left.items ≡ true =
    sym (ap (list_all (λ (c : Character). is_a c.set)) c.as_slice.ensures.value) ∙ sym c.are_of_a.ensures ∙ c.if-not-are_of_a.false in
    text_of Ean8 c.args.widths.now (character_digits c.in_ok-left.left.items ++ character_digits c.in_ok-left.right.items) c.push_digits-2.new.text.items
    (two_parts [] _ _ (character_digits c.in_ok-left.left.items) (character_digits c.in_ok-left.right.items)
    (c.push_digits.ensures ∙ ap₂ (λ t cs. t ++ ascii_of (character_digits cs)) c.new-text.ensures c.as_slice-2.ensures.value)
    (c.push_digits-2.ensures ∙ ap (λ cs. c.push_digits.new.text.items ++ ascii_of (character_digits cs)) c.as_slice-3.ensures.value))
    (found8 c.args.widths.now c.in_ok-left.left.items (character_digits c.in_ok-left.right.items) found of_a)
