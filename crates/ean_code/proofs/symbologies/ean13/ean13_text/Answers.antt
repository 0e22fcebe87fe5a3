use Rattle.std.proofs.Common.{◌≡◌, ℕ, ◌+◌, List, [], ◌∷◌, ◌++◌, ◌∙◌, sym, ap, ap₂, subst, get_or, arith}
use Rattle.digits_core.specs.Digits.{ascii_of}
use Rattle.ean_code.specs.inner.NumberSets.{AreCharacters, character_digits, character_sets}
use Rattle.ean_code.specs.declared.kind.Kind.TheVariants.{Ean13}
use Rattle.ean_code.proofs.symbologies.Ean13Facts.{first_small, found13, halves13, row13}
use Rattle.ean_code.proofs.Halves.{same_left}
use Rattle.ean_code.proofs.Joined.{AreCharacters-from}
use Rattle.ean_code.proofs.Texts.{text_of, two_parts}
use Rattle.ean_code.proofs.symbologies.ean13.ean13_text.Goals as goal

pub returns-in_err-first-clause-none : goal.returns-in_err-first-clause-none
returns-in_err-first-clause-none c = rw c.from_residual-in_err-first.ensures (λ ds e.
    let ws : List ℕ = c.args.widths.now in
    let same = same_left 6 ws _ _ _ _ c.in_ok-left.ensures.found (halves13 ws ds e) in
    c.in_err-first.ensures.none (get_or ds 0 0) (first_small ws ds e) (ap character_sets (c.as_slice.ensures.value ∙ same) ∙ row13 ws ds e))

pub push_digits-requires-2-clause-valid : goal.push_digits-requires-2-clause-valid
push_digits-requires-2-clause-valid c =
    let found = c.in_ok-left.ensures.found in subst AreCharacters (sym c.as_slice-3.ensures.value) (AreCharacters-from _ found.right_valid)

pub returns-clause-found : goal.returns-clause-found
returns-clause-found c =
    let found = c.in_ok-left.ensures.found in
    let first = c.in_ok-first.ensures.found in
    let d : ℕ = c.in_ok-first.first in
    let row = ap character_sets (sym c.as_slice.ensures.value) ∙ first.1 in
    let order : 48 + d ≡ d + 48 = omega arith in
    let begun : c.push.new.self.items ≡ (d + 48) ∷ [] = c.push.ensures.items ∙ ap₂ (λ t b. t ++ b ∷ []) c.new-text.ensures order in
    text_of Ean13 c.args.widths.now (d ∷ (character_digits c.in_ok-left.left.items ++ character_digits c.in_ok-left.right.items)) c.push_digits-2.new.text.items
    (two_parts ((d + 48) ∷ []) _ _ (character_digits c.in_ok-left.left.items) (character_digits c.in_ok-left.right.items)
    (c.push_digits.ensures ∙ ap₂ (λ t cs. t ++ ascii_of (character_digits cs)) begun c.as_slice-2.ensures.value)
    (c.push_digits-2.ensures ∙ ap (λ cs. c.push_digits.new.text.items ++ ascii_of (character_digits cs)) c.as_slice-3.ensures.value))
    (found13 c.args.widths.now d c.in_ok-left.left.items (character_digits c.in_ok-left.right.items) found first.0 row)
