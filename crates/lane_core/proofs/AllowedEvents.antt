-- An event that asks a test: what holds before it, and after it if it is allowed, holds after it.
use Rattle.std.proofs.Common.{◌≡◌, Bool, true, false, cond, Some, None, refl}
use Rattle.lane_core.specs.Machine.{State, or_same}

pub by_test : (P : State → Type 0) (s t : State) (b : Bool) → P s → (b ≡ true → P t) → P (or_same s (cond b (Some t) None))
by_test P s t true before after = after refl
by_test P s t false before after = before
