-- Grids of cells of one size, in dots.
use Rattle.std.specs.Prelude.{ℕ, ◌*◌, ◌<◌, ◌≤◌}

-- cells of one size in rows and columns, and the width of a module in dots
pub record Cells : Type 0 where
  pub dots : ℕ
  pub width : ℕ
  pub height : ℕ
  pub columns : ℕ
  pub rows : ℕ

-- the limits of a grid: its numbers, a light module above and below the bars, and at most 16,384 by 16,384 dots
pub record IsGrid (g : Cells) : Type 0 where
  pub dots_least : 1 ≤ g.dots
  pub dots_most : g.dots ≤ 8
  pub width_least : 1 ≤ g.width
  pub width_most : g.width ≤ 4096
  pub height_least : 2 * g.dots < g.height
  pub height_most : g.height ≤ 1024
  pub columns_least : 1 ≤ g.columns
  pub columns_most : g.columns ≤ 16
  pub rows_least : 1 ≤ g.rows
  pub rows_most : g.rows ≤ 64
  pub wide_most : g.columns * g.width ≤ 16384
  pub high_most : g.rows * g.height ≤ 16384
