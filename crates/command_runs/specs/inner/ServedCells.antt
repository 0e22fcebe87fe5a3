-- Cells of images that are read while workers answer their rows (`answers/cells.rt`): rows given and answered, and the result at the end.
use Rattle.std.specs.Prelude.{◌≡◌, ◌≢◌, ℕ, Bool, false, true, List, [], IfErr, IfOk, Option, Result, Ok, Err, String, map, replicate, string_bytes}
use Rattle.std.specs.Borrow.{MutBor}
use Rattle.std.specs.Global.{Vec}
use Rattle.std.proofs.Common.{Global}
use Rattle.std.specs.List.{concat}
use Rattle.lane_core.specs.declared.job.Plain.{Plain}
use Rattle.element_core.specs.Terms.{Terms}
use Rattle.sheet_core.specs.Grids.{Cells}
use Rattle.command_line.specs.declared.commands.scan.options.ScanOptions.{ScanOptions}
use Rattle.command_runs.specs.Grids.{cells_of}
use Rattle.command_runs.specs.Runs.{TellsFault}
use Rattle.command_runs.specs.answers.Reports.{IsReport}
use Rattle.command_runs.specs.commands.Scans.{RefusesImages, WritesImages}
use Rattle.command_runs.specs.inner.AnswerLines.{AreLinesOf}
use Rattle.command_runs.specs.inner.CellRows.{GaveCells}
use Rattle.command_runs.specs.declared.answers.cells.SheetRows.{SheetRows}
use Rattle.command_runs.specs.declared.answers.serving.AnswerFault.{AnswerFault}
use Rattle.command_runs.specs.declared.columns.CellRows.{CellRows}
use Rattle.command_runs.specs.declared.columns.Course.{Course}
use Rattle.command_runs.specs.declared.columns.Course.TheVariants as course
use Rattle.command_runs.specs.declared.fault.CommandFault.{CommandFault}
use Rattle.command_runs.specs.declared.fault.CommandFault.TheVariants as command

-- whether all images were read, each of the grid's size
abbrev pub have_ended : Course → Bool
have_ended course.Ended = true
have_ended _ = false

-- the rows of the first cells of a source, and the lines of what was brought
pub record HasGivenCells {S : Type 0} (left : S → Option (List ℕ)) (failed : S → Bool) (start s : SheetRows S) (given : List (List (List ℕ)))
    (brought : List (List Plain)) : Type 0 where
  pub grid : s.cells.grid ≡ start.cells.grid
  pub gave : GaveCells left failed start.cells.images.source s.cells given
  pub lines : AreLinesOf brought (map string_bytes s.texts.items)

-- no cell of the source was given yet, and no lane has a line
abbrev pub BeginsCellsUnanswered : {S : Type 0} → (S → Option (List ℕ)) → (S → Bool) → ℕ → CellRows S → List (String Global) → Type 0
BeginsCellsUnanswered left failed lanes r texts = GaveCells left failed r.images.source r (replicate lanes []) × (map string_bytes texts ≡ replicate lanes [])

-- how the cells of a source were answered: all, and these are the lines of each lane; or not all
abbrev pub AreCellsAnswered : {S : Type 0} → (S → Option (List ℕ)) → (S → Bool) → Terms → MutBor S → Cells → CellRows S → Result (Vec (String Global)) AnswerFault → Type 0
AreCellsAnswered left failed year lent grid r (Ok texts) = (r.grid ≡ grid) × (given : List (List (List ℕ))) × GaveCells left failed lent r given × (have_ended r.course ≡ true)
    × IsReport year given (concat (map string_bytes texts.items))
AreCellsAnswered left failed year lent grid r (Err fault) = (r.grid ≡ grid) × (given : List (List (List ℕ))) × GaveCells left failed lent r given

-- the result for a source, as `answer_cells` promises it
pub record IsToldOfCells {S : Type 0} (o : ScanOptions) (left : S → Option (List ℕ)) (failed : S → Bool) (was now : S) (told : Result (String Global) CommandFault)
    : Type 0 where
  pub report : IfOk told (λ lines. WritesImages o (left was) (left now) (string_bytes lines))
  pub why : IfErr told (RefusesImages o (left was) (left now))
  pub other : IfErr told (λ f. f ≢ command.WriteFault)
  pub fault : TellsFault failed was now told command.ReadFault

-- the result for it, whatever the source and whatever cells were given
abbrev pub TellsOfCells : {S : Type 0} → (S → Option (List ℕ)) → (S → Bool) → CellRows S → Result (String Global) CommandFault → CellRows S → Type 0
TellsOfCells {S} left failed old told new = (o : ScanOptions) (lent : MutBor S) (given : List (List (List ℕ))) → cells_of o.grid ≡ old.grid
    → GaveCells left failed lent old given
    → (new.images.source.ghost_name ≡ lent.ghost_name) × IsToldOfCells o left failed lent.now new.images.source.now told

-- the result for a source whose cells were answered so
abbrev pub TellsOfLines : {S : Type 0} → (S → Option (List ℕ)) → (S → Bool) → CellRows S → Result (Vec (String Global)) AnswerFault → Result (String Global) CommandFault
    → CellRows S → Type 0
TellsOfLines {S} left failed old lines told new = (o : ScanOptions) (lent : MutBor S) (g : Cells) → cells_of o.grid ≡ g
    → AreCellsAnswered left failed o.year lent g old lines
    → (new.images.source.ghost_name ≡ lent.ghost_name) × IsToldOfCells o left failed lent.now new.images.source.now told
