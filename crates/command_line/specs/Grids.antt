-- The numbers of a grid in the options of a command.
use Rattle.std.specs.Prelude.{◌≡◌, ℕ}
use Rattle.command_line.specs.declared.grid_options.GridOptions.{GridOptions}

-- options that have these numbers
abbrev pub HasNumbers : ℕ → ℕ → ℕ → ℕ → ℕ → GridOptions → Type 0
HasNumbers dots width height columns rows o = (o.module_dots ≡ dots) × (o.width ≡ width) × (o.height ≡ height)
    × (o.columns ≡ columns) × (o.rows ≡ rows)
