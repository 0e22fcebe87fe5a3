-- What the command `print` writes and refuses.
use Rattle.std.specs.Prelude.{◌≡◌, ⊤, ℕ, List, Option}
use Rattle.std.specs.List.{AllByRecursion}
use Rattle.sheet_core.specs.Bitmaps.{Bitmap}
use Rattle.sheet_core.specs.Drawing.{ArePrinted, IsSheetFault, cell_count}
use Rattle.sheet_core.specs.Grids.{Cells, IsGrid}
use Rattle.sheet_core.specs.Labels.{IsPrintable}
use Rattle.sheet_core.specs.PrintLaws.{AreBytes}
use Rattle.sheet_core.specs.pbm.Images.{pbm_of}
use Rattle.sheet_core.specs.declared.fault.SheetFault.TheVariants as sheet
use Rattle.sheet_core.specs.declared.label.Label.{Label}
use Rattle.command_runs.specs.Grids.{cells_of}
use Rattle.csv_records.specs.input.Records.{Takes}
use Rattle.csv_records.specs.print.Labels.{label_lines, print_meaning}
use Rattle.command_runs.specs.Runs.{Command, RefusesRecords, WritesRecords}
use Rattle.command_runs.specs.declared.fault.CommandFault.{CommandFault}
use Rattle.command_runs.specs.declared.fault.CommandFault.TheVariants as command
use Rattle.command_line.specs.declared.commands.print.options.Output.{Output}
use Rattle.command_line.specs.declared.commands.print.options.Output.TheVariants as output
use Rattle.command_line.specs.declared.commands.print.options.PrintOptions.{PrintOptions}

-- what is written of labels that are printed: their lines, or the images of their sheets
abbrev pub IsPrinted : Cells → Output → List Label → List ℕ → Type 0
IsPrinted g output.Lines labels text = AllByRecursion (IsPrintable g) labels × (text ≡ label_lines (cell_count g) labels)
IsPrinted g output.Images labels text = (sheets : List Bitmap) × ArePrinted labels g sheets × (text ≡ pbm_of sheets)

-- the options have a grid (`IsGrid`), and in it this is written of labels
abbrev pub IsPrint : PrintOptions → List Label → List ℕ → Type 0
IsPrint o labels text = IsGrid (cells_of o.grid) × IsPrinted (cells_of o.grid) o.output labels text

-- why labels are not written: for the first that cannot be printed what `IsSheetFault` says; of a failed write and a refused growth nothing is said
abbrev pub IsUnprinted : Cells → List Label → CommandFault → Type 0
IsUnprinted g labels (command.LabelKind i) = IsSheetFault g labels (sheet.LabelKind i)
IsUnprinted g labels (command.LabelWidth i) = IsSheetFault g labels (sheet.LabelWidth i)
IsUnprinted g labels command.WriteFault = ⊤
IsUnprinted g labels command.NoMemory = ⊤
IsUnprinted g labels _ = ⊥

-- records were taken, and their labels are not printed for this
abbrev pub RefusesLabels : PrintOptions → Option (List ℕ) → Option (List ℕ) → CommandFault → Type 0
RefusesLabels o left rest f = Takes (print_meaning o.year) (λ labels. IsUnprinted (cells_of o.grid) labels f) left rest

-- why `print` refuses the input: the grid, before a byte is read (as in `RefusesScan`), then the records, then the labels
abbrev pub RefusesPrint : PrintOptions → Option (List ℕ) → Option (List ℕ) → CommandFault → Type 0
RefusesPrint o left rest command.BadGrid = (IsGrid (cells_of o.grid) → ⊥) × (rest ≡ left)
RefusesPrint o left rest (command.LabelKind i) = IsGrid (cells_of o.grid) × RefusesLabels o left rest (command.LabelKind i)
RefusesPrint o left rest (command.LabelWidth i) = IsGrid (cells_of o.grid) × RefusesLabels o left rest (command.LabelWidth i)
RefusesPrint o left rest f = IsGrid (cells_of o.grid) × RefusesRecords (print_meaning o.year) left rest f

-- the labels of the records, as images of sheets or as lines
abbrev pub print_command : PrintOptions → Command
print_command o = record { writes = WritesRecords (print_meaning o.year) (IsPrint o); refuses = RefusesPrint o }

-- the law `one_print`: of the same bytes it writes one text at most, if texts are bytes: images are fixed by their dots alone if these are packed in bytes
abbrev pub OnePrint : Type 0
OnePrint = (o : PrintOptions) (bytes text other : List ℕ) → AreBytes text → AreBytes other
    → (print_command o).writes bytes text → (print_command o).writes bytes other → text ≡ other
