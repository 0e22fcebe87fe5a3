-- The row of the next cell is given to the hub.
use Rattle.std.proofs.Common.{refl}
use Rattle.command_runs.proofs.answers.CellsServed.{gives_if, none_given}
use Rattle.command_runs.proofs.answers.cells.SheetRowsTraffic.next.Goals as goal

pub next_cell-requires : goal.next_cell-requires
next_cell-requires g c = let (start, given, brought, was) = c.requires in (start.cells.images.source, given, was.gave)

pub returns-clause-some : goal.returns-clause-some
returns-clause-some g c = gives_if _ _ c.args.self.now _ c.next_cell.result refl c.next_cell.ensures.grid c.next_cell.ensures.gives

pub returns-clause-none : goal.returns-clause-none
returns-clause-none g c = λ none. none_given _ _ c.args.self.now _ c.next_cell.result none refl c.next_cell.ensures.grid c.next_cell.ensures.gives
