-- How a queue's passes are cut and joined, and what the pass with all shares learns: for `rule.rt`, `parts.rt` and `drain.rt`.
use Rattle.std.specs.Prelude.{◌≡◌, ◌+◌, ◌-◌, ◌<◌, ◌++◌, ℕ, List, Option, length}
use Rattle.std.specs.List.{flat_map}
use Rattle.crossbeam_queue.specs.Passes.{IsPassOf, Pass, view}
use Rattle.crossbeam_queue.specs.declared.array_queue.Doing.{Doing}
use Rattle.crossbeam_queue.specs.declared.array_queue.Slotted.{Slotted}
use Rattle.lane_core.specs.Weights.{OneForOne}
use Rattle.lane_core.specs.declared.job.Plain.{Plain}
use Rattle.hub_core.specs.Passes.{shares_of}
use Rattle.hub_core.specs.Rule.{trace}
use Rattle.hub_core.specs.declared.rule.Trace.{Trace}

-- what the pass with all shares learns of its queue: `NoneLost` by its own pushes and pops, since it has joined all other passes
abbrev pub KnowsQueue : Trace → List Plain → Type 0
KnowsQueue v items = OneForOne v.pushed v.popped items

-- a pass of this queue that has more than n shares
abbrev pub HasShares : {T Q A : Type 0} → Slotted (Option T) (Doing T Trace) Q A → ℕ → Pass T Trace → Type 0
HasShares q n p = IsPassOf q p × (n < shares_of p)

-- this many shares were split off the pass
abbrev pub IsCut : ℕ → Trace → Trace → Type 0
IsCut n v w = w ≡ trace (v.shares - n) v.pushed v.popped

-- `IsCut`, and it is a pass of this queue still
abbrev pub CutsOff : {T Q A : Type 0} → Slotted (Option T) (Doing T Trace) Q A → ℕ → Pass T Trace → Pass T Trace → Type 0
CutsOff q n old new = IsPassOf q new × IsCut n (view old) (view new)

-- the pass was joined with a pass of each of these, which had one share and had pushed so much
abbrev pub JoinsPushes : {X : Type 0} → (X → List Plain) → List X → Trace → Trace → Type 0
JoinsPushes pushed xs v w = w ≡ trace (v.shares + length xs) (v.pushed ++ flat_map pushed xs) v.popped

-- `JoinsPushes`, and it is a pass of this queue still
abbrev pub TakesPushes : {T X Q A : Type 0} → Slotted (Option T) (Doing T Trace) Q A → (X → List Plain) → List X → Pass T Trace → Pass T Trace → Type 0
TakesPushes q pushed xs old new = IsPassOf q new × JoinsPushes pushed xs (view old) (view new)

-- as `JoinsPushes`, of what each had popped
abbrev pub JoinsPops : {X : Type 0} → (X → List Plain) → List X → Trace → Trace → Type 0
JoinsPops popped xs v w = w ≡ trace (v.shares + length xs) v.pushed (v.popped ++ flat_map popped xs)

-- `JoinsPops`, and it is a pass of this queue still
abbrev pub TakesPops : {T X Q A : Type 0} → Slotted (Option T) (Doing T Trace) Q A → (X → List Plain) → List X → Pass T Trace → Pass T Trace → Type 0
TakesPops q popped xs old new = IsPassOf q new × JoinsPops popped xs (view old) (view new)
