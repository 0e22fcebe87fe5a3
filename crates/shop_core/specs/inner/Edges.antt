-- Rows in which a drawing changes.
use Rattle.std.specs.Prelude.{ℕ, Bool, ◌+◌, ◌==◌, ◌||◌}
use Rattle.shop_core.specs.declared.part.Part.{Part}

-- whether the part begins with row y, or ends above it
abbrev pub begins_or_ends : ℕ → Part → Bool
begins_or_ends y p = (p.top == y) || (p.top + p.height == y)
