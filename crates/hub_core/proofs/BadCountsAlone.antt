-- `BadCount` comes for bad counts alone: not once the counts were found right, and not as another fault. For `Hub::new` and `serve`.
use Rattle.std.proofs.Common.{◌≡◌, ◌∙◌, Bool, Err, Ok, Result, false, sym, true}
use Rattle.std.specs.Prelude.{IfOk, IsErr}
use Rattle.std.specs.Result.{IsErrAnd, IsErrOf}
use Rattle.std.proofs.lemmas.Result.{IfOk-from_err}
use Rattle.hub_core.specs.declared.fault.HubFault.TheVariants as hub_fault
use Rattle.hub_core.specs.declared.fault.ServeFault.TheVariants as serve_fault
use Rattle.std.proofs.lemmas.Bool.{true≢false}

-- the clause `A ↔ (b ≡ false)` where the test b is true and A is not so
pub never : {A : Type 0} {b : Bool} → b ≡ true → (A → ⊥) → (A → b ≡ false) × (b ≡ false → A)
never is not = (λ a. absurd (not a), λ f. absurd (true≢false (sym is ∙ f)))

pub ok_is_no_err : {T E : Type 0} (x : T) (e : E) → IsErrOf {T = T} {E = E} (Ok x) e → ⊥
ok_is_no_err x e is = cc

-- a refusal of memory is none of a bad count
no_hub : {T : Type 0} (r : Result T hub_fault.the_data) → IsErrAnd r (λ e. e ≡ hub_fault.NoMemory) → r ≡ Err hub_fault.BadCount → ⊥
no_hub (Ok x) of is = of
no_hub (Err e) of is = cc

-- both clauses of `Hub::new` where memory is refused
pub no_hub_made : {T : Type 0} {b : Bool} (r : Result T hub_fault.the_data) (P : T → Type 0) → b ≡ true → IsErr r → IsErrAnd r (λ e. e ≡ hub_fault.NoMemory)
    → ((IsErrOf r hub_fault.BadCount → b ≡ false) × (b ≡ false → IsErrOf r hub_fault.BadCount)) × IfOk r P
no_hub_made r P allowed is of = (never allowed (no_hub r of), IfOk-from_err r P is)

-- `no_hub`, of a fault of `serve`
pub none_served : {T : Type 0} (r : Result T serve_fault.the_data) → IsErrAnd r (λ e. e ≡ serve_fault.NoMemory) → r ≡ Err serve_fault.BadCount → ⊥
none_served (Ok x) of is = of
none_served (Err e) of is = cc

-- any fault that is not `BadCount` is none of a bad count either
pub other_fault : {T : Type 0} (e : serve_fault.the_data) → (e ≡ serve_fault.BadCount → ⊥) → IsErrOf {T = T} (Err e) serve_fault.BadCount → ⊥
other_fault e other is = other (let same : e ≡ serve_fault.BadCount = cc in same)
