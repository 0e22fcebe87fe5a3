-- What the command `scan` writes and refuses.
use Rattle.std.specs.Prelude.{◌≡◌, ◌≢◌, ◌⊎◌, ⊤, ℕ, true, false, List, [], Option, Ok, Err}
use Rattle.digits_core.specs.Bytes.{GaveAll}
use Rattle.sheet_core.specs.Bitmaps.{Bitmap}
use Rattle.sheet_core.specs.Grids.{IsGrid}
use Rattle.sheet_core.specs.pbm.Images.{ReadsBytes, images_of}
use Rattle.sheet_core.specs.declared.fault.PbmFault.TheVariants as pbm
use Rattle.command_runs.specs.Grids.{cells_of}
use Rattle.command_runs.specs.answers.Reports.{IsReport}
use Rattle.command_runs.specs.Columns.{AreColumns, have_size}
use Rattle.command_runs.specs.Runs.{Command, WritesOnce}
use Rattle.command_runs.specs.declared.fault.CommandFault.{CommandFault}
use Rattle.command_runs.specs.declared.fault.CommandFault.TheVariants as command
use Rattle.command_line.specs.declared.commands.scan.options.ScanOptions.{ScanOptions}

-- the bytes are images of the grid's size
abbrev pub AreImages : ScanOptions → List ℕ → List Bitmap → Type 0
AreImages o bytes sheets = IsGrid (cells_of o.grid) × (images_of bytes ≡ (Ok sheets, [])) × (have_size (cells_of o.grid) sheets ≡ true)

-- and the text is the report of the answers to the rows of their columns, column c being lane c
abbrev pub IsScan : ScanOptions → List ℕ → List ℕ → Type 0
IsScan o bytes text = (sheets : List Bitmap) × AreImages o bytes sheets
    × (feeds : List (List (List ℕ))) × AreColumns (cells_of o.grid) sheets feeds × IsReport o.year feeds text

-- a source gave all its bytes, and of them this text is written
abbrev pub WritesImages : ScanOptions → Option (List ℕ) → Option (List ℕ) → List ℕ → Type 0
WritesImages o left rest text = (bytes : List ℕ) × GaveAll left rest bytes × IsScan o bytes text

-- a source gave all its bytes, and they are images; one of them does not have the size of the grid
abbrev pub GaveOtherSize : ScanOptions → Option (List ℕ) → Option (List ℕ) → Type 0
GaveOtherSize o left rest = (bytes : List ℕ) × GaveAll left rest bytes × (sheets : List Bitmap) × (images_of bytes ≡ (Ok sheets, []))
    × (have_size (cells_of o.grid) sheets ≡ false)

-- why `scan` refuses the input in a grid: the first byte that cannot stand in an image, then an image of another size, then a thread that could not be started,
-- and only if there is an image; of a failed write nothing is said
abbrev pub RefusesImages : ScanOptions → Option (List ℕ) → Option (List ℕ) → CommandFault → Type 0
RefusesImages o left rest command.NotP4 = ReadsBytes images_of left rest (Err pbm.NotP4)
RefusesImages o left rest command.PbmHeader = ReadsBytes images_of left rest (Err pbm.PbmHeader)
RefusesImages o left rest command.Truncated = ReadsBytes images_of left rest (Err pbm.Truncated)
RefusesImages o left rest command.PbmSize = ReadsBytes images_of left rest (Err pbm.PbmSize) ⊎ GaveOtherSize o left rest
RefusesImages o left rest command.ReadFault = ReadsBytes images_of left rest (Err pbm.ReadFault)
RefusesImages o left rest command.NoThread = (bytes : List ℕ) × GaveAll left rest bytes × (sheets : List Bitmap) × AreImages o bytes sheets × (sheets ≢ [])
RefusesImages o left rest command.WriteFault = ⊤
RefusesImages o left rest command.NoMemory = ReadsBytes images_of left rest (Err pbm.NoMemory)
RefusesImages o left rest _ = ⊥

-- why `scan` refuses the input: the grid, before a byte is read (as in `RefusesPrint`), then the images
abbrev pub RefusesScan : ScanOptions → Option (List ℕ) → Option (List ℕ) → CommandFault → Type 0
RefusesScan o left rest command.BadGrid = (IsGrid (cells_of o.grid) → ⊥) × (rest ≡ left)
RefusesScan o left rest f = IsGrid (cells_of o.grid) × RefusesImages o left rest f

-- the report of the answers to the rows of the columns of images
abbrev pub scan_command : ScanOptions → Command
scan_command o = record { writes = IsScan o; refuses = RefusesScan o }

-- the law `one_scan`
abbrev pub OneScan : Type 0
OneScan = (o : ScanOptions) → WritesOnce (scan_command o)
