-- Lanes without rows that are left: for `Feeds::next_from`.
use Rattle.std.specs.Prelude.{◌≡◌, ◌<◌, ◌≤◌, ℕ, List, [], length, slice_index_or}

-- of the lanes from `first` on, before `last`, no row is left
abbrev pub NoneIsLeft : ℕ → ℕ → List (List (List ℕ)) → Type 0
NoneIsLeft first last rests = (l : ℕ) → first ≤ l → l < last → l < length rests → slice_index_or rests l [] ≡ []
