-- What stays of an answer, and the places of refusals.
use Rattle.std.specs.Prelude.{◌≡◌, ◌<◌, List, Some, ℕ}
use Rattle.digits_core.specs.Refusals.{refusal_text}
use Rattle.digits_core.specs.declared.refusal.RefusalKind.{RefusalKind}
use Rattle.answer_core.specs.declared.answer.Answer.{Answer}

-- the same symbol and identifier as another answer
abbrev pub IsNamedAs : Answer → Answer → Type 0
IsNamedAs old new = (new.symbol ≡ old.symbol) × (new.identifier ≡ old.identifier)

-- a refusal that is written as this line has a place below 65535, if it has one
abbrev pub IsShort : List ℕ → Type 0
IsShort line = (kind : RefusalKind) (place : ℕ) → place < 18446744073709551616 → line ≡ refusal_text kind (Some place) → place < 65535
