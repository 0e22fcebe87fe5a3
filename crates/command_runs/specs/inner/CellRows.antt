-- The rows of cells that images give, one after another (`columns.rt`): which were given of what was read, and how the reading goes on.
use Rattle.std.specs.Prelude.{◌≡◌, ◌≤◌, ◌<◌, ◌+◌, ◌*◌, ◌/◌, ◌++◌, ◌∷◌, ℕ, Bool, false, true, List, [], Option, Some, None, Result, Ok, Err, length, map, nat_lt, slice_index_or, if◌then◌else◌}
use Rattle.std.specs.Borrow.{MutBor}
use Rattle.std.specs.Io.KnownBytes.{IsAtEnd}
use Rattle.std.specs.List.{flat_map, range_with_len}
use Rattle.hub_core.specs.Traffics.{HasRoom, with_more}
use Rattle.sheet_core.specs.Bitmaps.{Bitmap, cell_dots, stride}
use Rattle.sheet_core.specs.Grids.{Cells}
use Rattle.sheet_core.specs.declared.fault.PbmFault.{PbmFault}
use Rattle.sheet_core.specs.declared.pbm.rows.ImageRows.{ImageRows}
use Rattle.sheet_core.specs.declared.pbm.state.Size.{Size}
use Rattle.sheet_core.specs.pbm.Images.{bitmap_of}
use Rattle.sheet_core.specs.pbm.Rows.{AreRefused, HasRows, HasSheets}
use Rattle.command_runs.specs.Columns.{HaveDots, column_dots, have_size}
use Rattle.command_runs.specs.declared.columns.CellRows.{CellRows}
use Rattle.command_runs.specs.declared.columns.Course.{Course}
use Rattle.command_runs.specs.declared.columns.Course.TheVariants as course

-- ---- the rows of columns

-- the dots that a column is read by in its first rows of cells, this many
abbrev pub front_dots : Cells → ℕ → Bitmap → ℕ → List (List Bool)
front_dots g column s count = map (λ cell. cell_dots g s cell (g.height / 2)) (map (λ row. row * g.columns + column) (range_with_len 0 count))

-- the rows of each column of whole sheets
pub record HaveColumns (g : Cells) (sheets : List Bitmap) (given : List (List (List ℕ))) : Type 0 where
  pub long : length given ≡ g.columns
  pub each : (i : ℕ) → i < g.columns → HaveDots (slice_index_or given i []) (flat_map (column_dots g i) sheets)

-- and those of the first cells of one more, up to this cell, of whose bytes these were read, whatever the others are
pub record HaveCells (g : Cells) (sheets : List Bitmap) (size : Size) (part : List ℕ) (row column : ℕ) (given : List (List (List ℕ))) : Type 0 where
  pub long : length given ≡ g.columns
  pub each : (rest : List ℕ) (i : ℕ) → i < g.columns → HaveDots (slice_index_or given i [])
      (flat_map (column_dots g i) sheets ++ front_dots g i (bitmap_of size (part ++ rest)) (if nat_lt i column then row + 1 else row))

-- ---- where the reading stands

-- a reader holds the middle row of a row of cells
pub record IsAtRow {S : Type 0} (g : Cells) (r : ImageRows S) (row : ℕ) (passed : List ℕ) : Type 0 where
  pub low : row < g.rows
  pub wide : r.size.width ≡ g.columns * g.width
  pub high : r.size.height ≡ g.rows * g.height
  pub above : length passed ≡ stride r.size.width * (row * g.height + g.height / 2)
  pub held : stride r.size.width ≤ length r.held

-- whole images were read
pub record AtLast {S : Type 0} (left : S → Option (List ℕ)) (failed : S → Bool) (lent : MutBor S) (r : ImageRows S) (sheets : List Bitmap) : Type 0 where
  pub has : HasSheets left failed lent r sheets
  pub end : IsAtEnd (left r.source.now)

-- of a source that was lent the rows of these cells were given
pub record AtSheet {S : Type 0} (left : S → Option (List ℕ)) (failed : S → Bool) (lent : MutBor S) (r : CellRows S) (given : List (List (List ℕ))) : Type 0 where
  pub sheets : List Bitmap
  pub has : HasSheets left failed lent r.images sheets
  pub fit : have_size r.grid sheets ≡ true
  pub columns : HaveColumns r.grid sheets given

pub record AtCell {S : Type 0} (left : S → Option (List ℕ)) (failed : S → Bool) (lent : MutBor S) (r : CellRows S) (given : List (List (List ℕ))) : Type 0 where
  pub sheets : List Bitmap
  pub passed : List ℕ
  pub has : HasRows left failed lent r.images sheets passed
  pub fit : have_size r.grid sheets ≡ true
  pub at : IsAtRow r.grid r.images r.row passed
  pub column : r.column ≤ r.grid.columns
  pub cells : HaveCells r.grid sheets r.images.size (passed ++ r.images.held) r.row r.column given

abbrev pub GaveCellsAt : {S : Type 0} → (S → Option (List ℕ)) → (S → Bool) → MutBor S → CellRows S → List (List (List ℕ)) → Course → Type 0
GaveCellsAt left failed lent r given course.Sheets = AtSheet left failed lent r given
GaveCellsAt left failed lent r given course.Cells = AtCell left failed lent r given
GaveCellsAt left failed lent r given course.Ended = AtSheet left failed lent r given × IsAtEnd (left r.images.source.now)
GaveCellsAt left failed lent r given course.Unfit = (sheets : List Bitmap) × AtLast left failed lent r.images sheets × (have_size r.grid sheets ≡ false)
GaveCellsAt left failed lent r given (course.Refused fault) = AreRefused left failed lent r.images fault

abbrev pub GaveCells : {S : Type 0} → (S → Option (List ℕ)) → (S → Bool) → MutBor S → CellRows S → List (List (List ℕ)) → Type 0
GaveCells left failed lent r given = GaveCellsAt left failed lent r given r.course

-- of some source the rows of some cells were given
abbrev pub GaveSome : {S : Type 0} → (S → Option (List ℕ)) → (S → Bool) → CellRows S → Type 0
GaveSome {S} left failed r = (lent : MutBor S) × (given : List (List (List ℕ))) × GaveCells left failed lent r given

-- of some source some whole images were read
abbrev pub AtSheets : {S : Type 0} → (S → Option (List ℕ)) → (S → Bool) → ImageRows S → Type 0
AtSheets {S} left failed r = (lent : MutBor S) × (sheets : List Bitmap) × HasSheets left failed lent r sheets

-- ---- how the reading goes on

-- these sheets were read behind others, whatever they are
abbrev pub PassesSheets : {S : Type 0} → (S → Option (List ℕ)) → (S → Bool) → ImageRows S → List Bitmap → ImageRows S → Type 0
PassesSheets {S} left failed old more new = (lent : MutBor S) (sheets : List Bitmap) → HasSheets left failed lent old sheets
    → HasSheets left failed lent new (sheets ++ more)

-- all images that were left are passed
abbrev pub PassesImages : {S : Type 0} → (S → Option (List ℕ)) → (S → Bool) → Cells → ImageRows S → Result Bool PbmFault → ImageRows S → Type 0
PassesImages {S} left failed g old (Ok fit) new = (more : List Bitmap) × (fit ≡ have_size g more)
    × ((lent : MutBor S) (sheets : List Bitmap) → HasSheets left failed lent old sheets → AtLast left failed lent new (sheets ++ more))
PassesImages {S} left failed g old (Err fault) new = (lent : MutBor S) (sheets : List Bitmap) → HasSheets left failed lent old sheets → AreRefused left failed lent new fault

-- how far the reading of a next image comes
abbrev pub IsBegun : {S : Type 0} → (S → Option (List ℕ)) → (S → Bool) → Cells → MutBor S → List Bitmap → Result Course PbmFault → ImageRows S → Type 0
IsBegun left failed g lent sheets (Ok course.Sheets) new = ⊥
IsBegun left failed g lent sheets (Ok course.Cells) new = (passed : List ℕ) × HasRows left failed lent new sheets passed × IsAtRow g new 0 passed
IsBegun left failed g lent sheets (Ok course.Ended) new = AtLast left failed lent new sheets
IsBegun left failed g lent sheets (Ok course.Unfit) new = (more : List Bitmap) × AtLast left failed lent new (sheets ++ more) × (have_size g more ≡ false)
IsBegun left failed g lent sheets (Ok (course.Refused fault)) new = ⊥
IsBegun left failed g lent sheets (Err fault) new = AreRefused left failed lent new fault

abbrev pub BeginsSheet : {S : Type 0} → (S → Option (List ℕ)) → (S → Bool) → Cells → ImageRows S → Result Course PbmFault → ImageRows S → Type 0
BeginsSheet {S} left failed g old result new = (lent : MutBor S) (sheets : List Bitmap) → HasSheets left failed lent old sheets
    → IsBegun left failed g lent sheets result new

-- a reader that has read whole images, all of the grid's size, is at the next one
abbrev pub BeginsCells : {S : Type 0} → (S → Option (List ℕ)) → (S → Bool) → CellRows S → CellRows S → Type 0
BeginsCells {S} left failed old new = (lent : MutBor S) (given : List (List (List ℕ))) → AtSheet left failed lent old given → GaveCells left failed lent new given

-- whatever cells a reader has given, it has given these and no others
abbrev pub GivesOn : {S : Type 0} → (S → Option (List ℕ)) → (S → Bool) → CellRows S → CellRows S → Type 0
GivesOn {S} left failed old new = (lent : MutBor S) (given : List (List (List ℕ))) → GaveCells left failed lent old given → GaveCells left failed lent new given

-- and behind them this row, if there is one, as the next of its lane
abbrev pub GaveNextCell : {S : Type 0} → (S → Option (List ℕ)) → (S → Bool) → MutBor S → Option (ℕ × List ℕ) → CellRows S → List (List (List ℕ)) → Type 0
GaveNextCell left failed lent None r given = GaveCells left failed lent r given
GaveNextCell left failed lent (Some row) r given = HasRoom row.0 given × GaveCells left failed lent r (with_more row.0 row.1 given)

-- what becomes of a reader that gives the next row, or none
abbrev pub GivesNextCell : {S : Type 0} → (S → Option (List ℕ)) → (S → Bool) → CellRows S → Option (ℕ × List ℕ) → CellRows S → Type 0
GivesNextCell {S} left failed old next new = (lent : MutBor S) (given : List (List (List ℕ))) → GaveCells left failed lent old given
    → GaveNextCell left failed lent next new given
