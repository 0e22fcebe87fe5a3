use Rattle.std.proofs.Common.{◌∙◌, ◌+◌, ◌%◌, ℕ, List, drop, ap, sym, arith}
use Rattle.std.proofs.lemmas.List.{drop_more}
use Rattle.element_core.specs.Checks.{account_number}
use Rattle.element_core.proofs.Accounts.{account_mod}
use Rattle.element_core.proofs.checks.account_remainder.Goals as goal

pub loop-byte-preserved : goal.loop-byte-preserved
loop-byte-preserved c =
    let text = c.args.text.now in
    let i = c.loop-byte.byte-index in
    let rest : List ℕ = drop (i + 1) text in
    record {
      told = account_mod c.written-number.result rest ∙ ap (λ (n : ℕ). account_number n rest % 97) c.written-number.ensures.value
          ∙ sym (ap (λ (t : List ℕ). account_number c.loop-byte.number t % 97) (drop_more text i 0 c.loop-byte-test.true)) ∙ c.loop-byte.invariant.told;
      small = omega arith;
    }
