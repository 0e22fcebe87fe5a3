use Rattle.std.proofs.Common.{rules, ◌≡◌, ◌∙◌, ◌-◌, ℕ, List, length, ap, sym, subst, arith, true}
use Rattle.std.specs.Option.{IfNone, IfSome}
use Rattle.std.specs.Prelude.{Result, Ok, Err}
use Rattle.std.specs.Result.{IfOk, IsOk, result_ok}
use Rattle.std.proofs.lemmas.List.{length-map}
use Rattle.digits_core.specs.Digits.{IsChecked, digits_of, padded}
use Rattle.digits_core.specs.Gtins.{is_gtin_length}
use Rattle.digits_core.specs.Upce.{IsUpceOf, upce_expanded}
use Rattle.digits_core.proofs.DigitTexts.{digits_of-valid}
use Rattle.digits_core.proofs.Weights.{checked_unpadded}
use Rattle.digits_core.proofs.upce.upce_expand.Goals as goal

length-six : (six : List ℕ) → length six ≡ 6 → length (digits_of six) ≡ 6
length-six six e = length-map six (λ b. b - 48) ∙ e

-- what holds of a result's value holds of the option that keeps it alone
kept : {T E : Type 0} (P Q R : T → Type 0) (r : Result T E) → IfOk r P → IfOk r Q → ((x : T) → P x → Q x → R x) → IfSome (result_ok r) R
kept P Q R (Ok x) p q f = f x p q
kept P Q R (Err e) p q f = record {}

-- a result that is some value keeps it
lost : {T E X : Type 0} (P : X → Type 0) (r : Result T E) → ((x : X) → P x → IsOk r) → IfNone (result_ok r) ((x : X) → P x → ⊥)
lost P (Ok x) f = record {}
lost P (Err e) f = λ x p. let taken = f x p in cc

pub returns-clause-some : goal.returns-clause-some
returns-clause-some c =
    rw c.ok.ensures.value (kept _ _ _ c.read.result c.read.ensures.ok c.read.ensures.checked (λ g number checked. record {
      six_digits = length-six c.args.six (search rules);
      valid = digits_of-valid c.args.six c.requires.six;
      check_valid = let low = c.requires.low in let high = c.requires.high in omega arith;
      number = number ∙ ap padded c.expanded.ensures.value;
      checked = checked;
    }))

pub returns-clause-none : goal.returns-clause-none
returns-clause-none c =
    let taken = λ (gtin : List ℕ) (h : IsUpceOf (digits_of c.args.six) (c.args.check - 48) gtin).
    let digits : IsChecked (digits_of c.expanded.result) = subst IsChecked (sym c.expanded.ensures.value)
    (checked_unpadded (upce_expanded (digits_of c.args.six) (c.args.check - 48)) (subst IsChecked h.number h.checked)) in
    let twelve : length c.expanded.result ≡ 12 = search rules in
    let long : is_gtin_length (length c.expanded.result) ≡ true = ap is_gtin_length twelve in
    (c.read.ensures.decided long c.expanded.ensures.digits).1 digits in
    rw c.ok.ensures.value (lost _ c.read.result taken)
