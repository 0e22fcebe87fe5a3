-- The stages at which the candidates of a row fail, as the code finds them.
use Rattle.std.specs.Prelude.{ℕ, ◌≤◌, List, length}
use Rattle.scan_core.specs.declared.carrier.Carrier.{Carrier}
use Rattle.scan_core.specs.declared.stage.Stage.{Stage}
use Rattle.scan_core.specs.declared.stage.Stage.TheVariants as stages
use Rattle.scan_core.specs.Row.{inner}
use Rattle.scan_core.specs.Showing.{HasSize, IsQuiet, IsSymbol, Rounds, Way, along, kind_of}

-- the row, as a symbol of the carrier, N modules wide, fails at this stage and at none before it, whichever way it is read
abbrev pub Fails : List ℕ → Carrier → ℕ → Stage → Type 0
Fails runs carrier N stages.QuietZone = IsQuiet runs N → ⊥
Fails runs carrier N stages.Modules =
    IsQuiet runs N × ((way : Way) (modules : List ℕ) → Rounds (along way (inner runs)) N modules → ⊥)
Fails runs carrier N stages.Pattern =
    IsQuiet runs N
    × ((way : Way) × (modules : List ℕ) × Rounds (along way (inner runs)) N modules)
    × ((way : Way) (modules : List ℕ) → Rounds (along way (inner runs)) N modules → IsSymbol (kind_of carrier) modules → ⊥)

-- which stage it is, from 0
abbrev pub number_of : Stage → ℕ
number_of stages.QuietZone = 0
number_of stages.Modules = 1
number_of stages.Pattern = 2

-- some carrier with as many runs fails at this stage, and none comes to a later one
pub record FailsAt (runs : List ℕ) (stage : Stage) : Type 0 where
  pub carrier : Carrier
  pub N : ℕ
  pub candidate : HasSize (kind_of carrier) (length (inner runs)) N
  pub fails : Fails runs carrier N stage
  pub none_later : (other : Carrier) (M : ℕ) → HasSize (kind_of other) (length (inner runs)) M
      → (at : Stage) × Fails runs other M at × (number_of at ≤ number_of stage)
