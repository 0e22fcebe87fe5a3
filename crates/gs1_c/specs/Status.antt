-- The numbers of refusals, as callers read them of a line.
use Rattle.std.specs.Prelude.{◌≡◌, ◌≢◌, ◌++◌, ℕ, List, Option, codes}
use Rattle.digits_core.specs.Refusals.{refusal_text}
use Rattle.digits_core.specs.declared.refusal.RefusalKind.{RefusalKind}
pub use Rattle.answer_core.specs.Refusals.{refusal_number}

-- the number is that of the refusal that the line says, and 0 of a line that does not begin with `refused` and a space
pub record IsStatus (line : List ℕ) (number : ℕ) : Type 0 where
  pub refused : (kind : RefusalKind) (place : Option ℕ) → line ≡ refusal_text kind place → number ≡ refusal_number kind
  pub other : ((rest : List ℕ) → line ≢ codes "refused " ++ rest) → number ≡ 0
