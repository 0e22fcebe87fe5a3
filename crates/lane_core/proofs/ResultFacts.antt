-- What a result or an option says, of any type: for what calls answer.
use Rattle.std.proofs.Common.{◌≡◌, ◌||◌, Bool, true, false, true≢false, cond, Option, Some, None, refl}
use Rattle.std.specs.Prelude.{Err, Ok, OnErr, Result}
use Rattle.std.specs.Option.{is_some, IfSome}

-- what holds anyway holds if the result is an error
pub of_refusal : {T E : Type 0} (r : Result T E) (P : Type 0) → P → OnErr r P
of_refusal (Ok x) P p = record {}
of_refusal (Err e) P p = p

-- no test answers both true and false: from that any P follows
pub not_done : {P : Type 0} → ◌≡◌ true false → P
not_done e = absurd (true≢false e)

-- an option that is none, and one that is some
pub none_by_test : {X : Type 0} (o : Option X) → is_some o ≡ false → o ≡ None
none_by_test None e = refl
none_by_test (Some x) e = absurd (cc)

pub some_from : {X : Type 0} (o : Option X) → is_some o ≡ true → (x : X) × (o ≡ Some x)
some_from None e = absurd (cc)
some_from (Some x) e = (x, refl)

-- an option that is there, and what `IfSome` says of it
pub if_some : {X : Type 0} (o : Option X) (P : X → Type 0) → is_some o ≡ true → IfSome o P → (x : X) × P x
if_some None P e h = absurd (cc)
if_some (Some x) P e h = (x, h)

-- x if b, and else o: whether there is one
pub some_or : {X : Type 0} (b : Bool) (x : X) (o : Option X) → is_some (cond b (Some x) o) ≡ (b || is_some o)
some_or true x o = refl
some_or false x o = refl
