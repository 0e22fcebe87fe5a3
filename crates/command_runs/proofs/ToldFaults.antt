-- Results that are known to have a fault, or to have none.
use Rattle.std.proofs.Common.{◌≡◌, ◌∙◌, Err, IsErrAnd, Ok, Result, ap, subst, sym}
use Rattle.std.specs.Prelude.{IfErr}
use Rattle.std.proofs.lemmas.Result.{err_from_is_err_and}
use Rattle.command_runs.specs.declared.fault.CommandFault.{CommandFault}
use Rattle.command_runs.specs.declared.fault.CommandFault.TheVariants as command

-- a result without a fault has none
pub never_refused : {A E : Type 0} (x : A) (e : E) → (let r : Result A E = Ok x in r ≡ Err e) → ⊥
never_refused x e same = cc

-- a result that is known to have this fault is this fault
pub told_fault : {A E : Type 0} (r : Result A E) (fault : E) → IsErrAnd r (λ e. e ≡ fault) → r ≡ Err fault
told_fault r fault told = let (e, is, same) = err_from_is_err_and r told in is ∙ ap Err same

-- and has no other
pub one_fault_told : {A E : Type 0} (r : Result A E) (fault other : E) → IsErrAnd r (λ e. e ≡ fault) → r ≡ Err other → fault ≡ other
one_fault_told (Ok x) fault other told same = absurd told
one_fault_told (Err e) fault other told same = let here : e ≡ other = cc in sym told ∙ here

-- what is true of this fault is true of the fault that the result has
pub refused_as : {X : Type 0} (r : Result X CommandFault) (fault : CommandFault) (P : CommandFault → Type 0) → IsErrAnd r (λ f. f ≡ fault) → P fault → IfErr r P
refused_as (Ok x) fault P is p = tt
refused_as (Err f) fault P is p = subst P (sym is) p

-- a result that has another fault is no failed write
pub not_cut : {A : Type 0} (r : Result A CommandFault) (fault : CommandFault) → (fault ≡ command.WriteFault → ⊥) → IsErrAnd r (λ e. e ≡ fault)
    → r ≡ Err command.WriteFault → ⊥
not_cut r fault other told same = other (one_fault_told r fault command.WriteFault told same)
