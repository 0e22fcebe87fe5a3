use Rattle.std.proofs.Common.{rules, ◌≡◌, ◌∙◌, ◌≤◌, length, get_or, sym, arith}
use Rattle.digits_core.proofs.Suppression.{HasZeros, first_line_is, last_line_is, six_first, six_second, six_third, six_fourth, by_second, by_third, by_fourth, by_none}
use Rattle.digits_core.proofs.upce.suppressed.Goals as goal

pub returns-then-is_by_first_line-clause-some : goal.returns-then-is_by_first_line-clause-some
returns-then-is_by_first_line-clause-some c =
    let text = c.args.digits in
    let long : length text ≡ 12 = search rules in
    let test = c.is_by_first_line.ensures.0 c.if-is_by_first_line.true in
    let line = first_line_is text long c.requires test.0 in
    record { spelling = six_first text long c.requires c.if-system-ne48.false test.0 test.1; first = λ others s. omega (arith, line) }

pub returns-then-are_zeros-clause-some : goal.returns-then-are_zeros-clause-some
returns-then-are_zeros-clause-some c =
    let text = c.args.digits in
    let long : length text ≡ 12 = search rules in
    let first : get_or text 3 0 ≤ 50 → HasZeros 4 4 text → ⊥ = λ low zeros. let is = c.is_by_first_line.ensures.1 (low, zeros) in let failed =
    c.if-is_by_first_line.false in cc in
    let zeros : HasZeros 4 5 text = sym c.are_zeros.ensures ∙ c.if-are_zeros.true in
    record { spelling = six_second text long c.requires c.if-system-ne48.false zeros; first = λ others s. by_second text long c.requires others s first }

pub returns-then-are_zeros-2-clause-some : goal.returns-then-are_zeros-2-clause-some
returns-then-are_zeros-2-clause-some c =
    let text = c.args.digits in
    let long : length text ≡ 12 = search rules in
    let first : get_or text 3 0 ≤ 50 → HasZeros 4 4 text → ⊥ = λ low zeros. let is = c.is_by_first_line.ensures.1 (low, zeros) in let failed =
    c.if-is_by_first_line.false in cc in
    let second : HasZeros 4 5 text → ⊥ = λ zeros. let is = c.are_zeros.ensures in let failed = c.if-are_zeros.false in cc in
    let zeros : HasZeros 5 5 text = sym c.are_zeros-2.ensures ∙ c.if-are_zeros-2.true in
    record { spelling = six_third text long c.requires c.if-system-ne48.false zeros; first = λ others s. by_third text long c.requires others s first second }

pub returns-then-is_by_last_line-clause-some : goal.returns-then-is_by_last_line-clause-some
returns-then-is_by_last_line-clause-some c =
    let text = c.args.digits in
    let long : length text ≡ 12 = search rules in
    let first : get_or text 3 0 ≤ 50 → HasZeros 4 4 text → ⊥ = λ low zeros. let is = c.is_by_first_line.ensures.1 (low, zeros) in let failed =
    c.if-is_by_first_line.false in cc in
    let second : HasZeros 4 5 text → ⊥ = λ zeros. let is = c.are_zeros.ensures in let failed = c.if-are_zeros.false in cc in
    let third : HasZeros 5 5 text → ⊥ = λ zeros. let is = c.are_zeros-2.ensures in let failed = c.if-are_zeros-2.false in cc in
    let test = c.is_by_last_line.ensures.0 c.if-is_by_last_line.true in
    let line = last_line_is text long c.requires test.0 in
    record {
      spelling = six_fourth text long c.requires c.if-system-ne48.false test.0 test.1;
      first =
          λ others s. rw line (by_fourth text long c.requires others s first second third);
    }

pub returns-clause-none : goal.returns-clause-none
returns-clause-none c = λ six s.
    let text = c.args.digits in
    let long : length text ≡ 12 = search rules in
    let first : get_or text 3 0 ≤ 50 → HasZeros 4 4 text → ⊥ = λ low zeros. let is = c.is_by_first_line.ensures.1 (low, zeros) in let failed =
    c.if-is_by_first_line.false in cc in
    let second : HasZeros 4 5 text → ⊥ = λ zeros. let is = c.are_zeros.ensures in let failed = c.if-are_zeros.false in cc in
    let third : HasZeros 5 5 text → ⊥ = λ zeros. let is = c.are_zeros-2.ensures in let failed = c.if-are_zeros-2.false in cc in
    let fourth : 53 ≤ get_or text 10 0 → HasZeros 6 4 text → ⊥ = λ high zeros. let is = c.is_by_last_line.ensures.1 (high, zeros) in let failed =
    c.if-is_by_last_line.false in cc in
    by_none text long c.requires six s first second third fourth
