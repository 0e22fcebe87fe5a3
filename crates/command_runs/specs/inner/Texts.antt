-- What is added to a text (`live/pending.rt`).
use Rattle.std.specs.Prelude.{◌≡◌, ◌++◌, ℕ, List, OnOk, Result, String, string_bytes}
use Rattle.std.specs.Global.{Global}

-- unless this fails the new text is the old one and such a line
abbrev pub Adds : {E : Type 0} → Result (Unit {0}) E → String Global → String Global → (List ℕ → Type 0) → Type 0
Adds result old new L = OnOk result ((line : List ℕ) × (string_bytes new ≡ string_bytes old ++ line) × L line)
