use Rattle.std.proofs.Common.{◌≡◌, ◌-◌, ◌≤◌, length, take, drop, sym, ap, ◌∙◌, arith, rules, inl, inr}
use Rattle.std.specs.Prelude.{filter}
use Rattle.std.proofs.lemmas.List.{length-map, take-map, drop-map}
use Rattle.element_core.specs.Table.{families}
use Rattle.element_core.specs.inner.Families.{families_from, family_of, has_first_two}
use Rattle.element_core.proofs.FirstDigits.{AreThere, in_part_as, places_as, no_digits}
use Rattle.element_core.proofs.first_digits.families_with.Goals as goal
use Rattle.element_core.proofs.first_digits.families_with.Goals.{then-not-is_ascii_digit-via-then-not-is_ascii_digit, then-not-is_ascii_digit-via-else-not-is_ascii_digit+then-not-is_ascii_digit-2, After-from-2}

pub returns-then-not-is_ascii_digit : goal.returns-then-not-is_ascii_digit
returns-then-not-is_ascii_digit c =
    sym (no_digits c.args.first c.args.second (λ d. elim c.then-not-is_ascii_digit.branch [
      | then-not-is_ascii_digit-via-then-not-is_ascii_digit w ↦ elim w.if-not-is_ascii_digit.ensures.cases [ inl h ↦ omega arith | inr h ↦ omega arith ]
      | then-not-is_ascii_digit-via-else-not-is_ascii_digit+then-not-is_ascii_digit-2 w ↦ elim w.if-not-is_ascii_digit-2.ensures.cases
          [ inl h ↦ omega arith | inr h ↦ omega arith ]
    ]))

there : (c : After-from-2) → AreThere (has_first_two c.args.first c.args.second) c.from.result c.from-2.result (families_from c.args.first)
there c =
    let first_is = c.if-not-is_ascii_digit.ensures.cases in
    let second_is = c.if-not-is_ascii_digit-2.ensures.cases in
    places_as c.args.first c.args.second c.from-number.result c.from.result c.from-2.result (c.args.first - 48) (c.args.second - 48) (omega arith) (omega arith)
    (omega arith) (omega arith)
    (sym c.from-number.ensures) (sym c.from.ensures) (sym c.from-2.ensures)

in_part_of : (c : After-from-2) → filter (has_first_two c.args.first c.args.second) (families_from c.args.first)
    ≡ filter (has_first_two c.args.first c.args.second) families
in_part_of c =
    let first_is = c.if-not-is_ascii_digit.ensures.cases in
    let second_is = c.if-not-is_ascii_digit-2.ensures.cases in
    in_part_as c.args.first c.args.second (c.args.first - 48) (c.args.second - 48) (omega arith) (omega arith) (omega arith) (omega arith)

pub returns : goal.returns
returns c =
    let t = there (goal.at.returns c).After-from-2 in
    let rising = t.rising in
    let n = c.from-2.result - c.from.result in
    sym (take-map family_of n (drop c.from.result c.families_from.result.now))
    ∙ ap (take n) (sym (drop-map family_of c.from.result c.families_from.result.now) ∙ ap (drop c.from.result) c.families_from.ensures)
    ∙ t.these n (omega arith) ∙ in_part_of (goal.at.returns c).After-from-2

pub slice_bounds-result-count : goal.slice_bounds-result-count
slice_bounds-result-count c = (there c).rising

within : (c : After-from-2) → c.from-2.result ≤ length c.families_from.result.now
within c =
    let w = (there c).within in
    omega (arith, ap length c.families_from.ensures, length-map c.families_from.result.now family_of)

pub slice_bounds-result-start : goal.slice_bounds-result-start
slice_bounds-result-start c = let t = (there (goal.at.slice_bounds-result-start c).After-from-2).rising in let w =
    within (goal.at.slice_bounds-result-start c).After-from-2 in search rules

pub slice_bounds-result-end-2 : goal.slice_bounds-result-end-2
slice_bounds-result-end-2 c = let t = (there (goal.at.slice_bounds-result-end-2 c).After-from-2).rising in let w =
    within (goal.at.slice_bounds-result-end-2 c).After-from-2 in search rules
