-- The number of an account, modulo 97.
use Rattle.std.proofs.Common.{◌≡◌, ◌∙◌, ◌+◌, ◌-◌, ◌*◌, ◌%◌, ℕ, true, false, cond, leb, List, [], ◌∷◌, ap, sym, arith}
use Rattle.element_core.specs.Checks.{account_number, written}

ten : (x c : ℕ) → (10 * (x % 97) + c) % 97 ≡ (10 * x + c) % 97
ten x c = omega arith

hundred : (x c : ℕ) → (100 * (x % 97) + c) % 97 ≡ (100 * x + c) % 97
hundred x c = omega arith

written_mod : (x b : ℕ) → written (x % 97) b % 97 ≡ written x b % 97
written_mod x b =
    elim (leb b 57) as (λ p. cond p (10 * (x % 97) + (b - 48)) (100 * (x % 97) + (b - 55)) % 97 ≡ cond p (10 * x + (b - 48)) (100 * x + (b - 55)) % 97) [
      | true ↦ ten x (b - 48)
      | false ↦ hundred x (b - 55)
    ]

-- what is written behind a number sees only its remainder
pub account_mod : (x : ℕ) (text : List ℕ) → account_number (x % 97) text % 97 ≡ account_number x text % 97
account_mod x [] = omega arith
account_mod x (b ∷ text) =
    sym (account_mod (written (x % 97) b) text) ∙ ap (λ (n : ℕ). account_number n text % 97) (written_mod x b) ∙ account_mod (written x b) text
