-- What an option tells.
use Rattle.std.proofs.Common.{◌≡◌, true}
use Rattle.std.specs.Prelude.{Option, None, Some, is_some}
use Rattle.std.specs.Option.{IfNone, IfSome}

pub IfNone_then : {X : Type 0} (o : Option X) {P Q : Type 0} → IfNone o P → (P → Q) → IfNone o Q
IfNone_then None h f = f h
IfNone_then (Some x) h f = tt

-- what holds of some value, where there is one
pub some_of : {X : Type 0} (P : Type 0) (o : Option X) → is_some o ≡ true → IfSome o (λ _. P) → P
some_of P None n h = cc
some_of P (Some x) n h = h
