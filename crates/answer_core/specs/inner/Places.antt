-- Places by their index.
use Rattle.std.specs.Prelude.{◌≡◌, ◌<◌, ℕ, List, Some, slice_get}
use Rattle.element_core.specs.Elements.{Entry}
use Rattle.element_core.specs.Terms.{Terms}
use Rattle.answer_core.specs.Places.{IsPlaced}
use Rattle.answer_core.specs.declared.place.Place.{Place}

-- the first elements of a list, this many, stand at the places of the same index
abbrev pub StandTo : ℕ → Terms → List ℕ → List Entry → List Place → Type 0
StandTo count terms text es places =
    (i : ℕ) → i < count → (e : Entry) → slice_get es i ≡ Some e → (p : Place) × (slice_get places i ≡ Some p) × IsPlaced terms text e p
