-- The texts of the faults of commands, and the fault of a command that each fault of a lower layer becomes (`fault.rt`).
use Rattle.std.specs.Prelude.{◌++◌, ℕ, List, Some, codes}
use Rattle.std.specs.Fmt.{decimal}
use Rattle.digits_core.specs.Refusals.{refusal_text, refusal_words}
use Rattle.digits_core.specs.declared.refusal.RefusalKind.TheVariants as refusal
use Rattle.sheet_core.specs.declared.fault.PbmFault.{PbmFault}
use Rattle.sheet_core.specs.declared.fault.PbmFault.TheVariants as pbm
use Rattle.sheet_core.specs.declared.fault.PrintFault.{PrintFault}
use Rattle.sheet_core.specs.declared.fault.PrintFault.TheVariants as print
use Rattle.sheet_core.specs.declared.fault.SheetFault.{SheetFault}
use Rattle.sheet_core.specs.declared.fault.SheetFault.TheVariants as sheet
use Rattle.csv_records.specs.input.Faults.{record_fault_text}
use Rattle.command_runs.specs.declared.answers.serving.AnswerFault.{AnswerFault}
use Rattle.command_runs.specs.declared.answers.serving.AnswerFault.TheVariants as answers
use Rattle.command_runs.specs.declared.answers.rows.RowsFault.{RowsFault}
use Rattle.command_runs.specs.declared.answers.rows.RowsFault.TheVariants as rows
use Rattle.csv_records.specs.declared.input.fault.RecordsFault.{RecordsFault}
use Rattle.csv_records.specs.declared.input.fault.RecordsFault.TheVariants as records
use Rattle.command_runs.specs.declared.live.fault.LiveFault.{LiveFault}
use Rattle.command_runs.specs.declared.live.fault.LiveFault.TheVariants as live
use Rattle.command_runs.specs.declared.fault.CommandFault.{CommandFault}
use Rattle.command_runs.specs.declared.fault.CommandFault.TheVariants as command

-- the refusal of a command: `refused`, its number, its name and, if it has one, the label's index; for a record that of the record's fault
abbrev pub command_refusal_text : CommandFault → List ℕ
command_refusal_text command.ReadFault = refusal_words refusal.ReadFault
command_refusal_text command.InputSize = refusal_words refusal.InputSize
command_refusal_text command.NoMemory = refusal_words refusal.NoMemory
command_refusal_text command.WriteFault = refusal_words refusal.WriteFault
command_refusal_text (command.Record i f) = record_fault_text f
command_refusal_text command.BadGrid = refusal_words refusal.BadGrid
command_refusal_text (command.LabelKind i) = refusal_text refusal.LabelKind (Some i)
command_refusal_text (command.LabelWidth i) = refusal_text refusal.LabelWidth (Some i)
command_refusal_text command.NotP4 = refusal_words refusal.NotP4
command_refusal_text command.PbmHeader = refusal_words refusal.PbmHeader
command_refusal_text command.Truncated = refusal_words refusal.Truncated
command_refusal_text command.PbmSize = refusal_words refusal.PbmSize
command_refusal_text command.NoThread = refusal_words refusal.NoThread

-- what a fault is written as: its refusal, behind the index of the record if it is of one
abbrev pub command_fault_text : CommandFault → List ℕ
command_fault_text (command.Record i f) = codes "record " ++ decimal i ++ codes ": " ++ record_fault_text f
command_fault_text fault = command_refusal_text fault

-- a fault of the records, as the command's
abbrev pub of_records : RecordsFault → CommandFault
of_records records.ReadFault = command.ReadFault
of_records records.InputSize = command.InputSize
of_records (records.Record i f) = command.Record i f
of_records records.NoMemory = command.NoMemory

-- a fault of the rows of records, as the command's
abbrev pub of_rows : RowsFault → CommandFault
of_rows (rows.Records fault) = of_records fault
of_rows rows.NoThread = command.NoThread

-- a fault of the answers, as the command's
abbrev pub of_answers : AnswerFault → CommandFault
of_answers answers.NoThread = command.NoThread
of_answers answers.NoMemory = command.NoMemory

-- a fault of a live input, as the command's
abbrev pub of_live : LiveFault → CommandFault
of_live live.ReadFault = command.ReadFault
of_live live.WriteFault = command.WriteFault
of_live live.NoMemory = command.NoMemory
of_live live.NoThread = command.NoThread

-- names by which contracts and proofs write four variants: a failed write, a refused growth, a thread that could not be started, and below a
-- grid outside the limits
abbrev pub failed_write : CommandFault
failed_write = command.WriteFault

abbrev pub no_memory : CommandFault
no_memory = command.NoMemory

abbrev pub no_thread : CommandFault
no_thread = command.NoThread

-- a grid outside the limits, as the command's
abbrev pub bad_grid : CommandFault
bad_grid = command.BadGrid

-- a fault of labels, as the command's
abbrev pub of_sheets : SheetFault → CommandFault
of_sheets (sheet.LabelKind i) = command.LabelKind i
of_sheets (sheet.LabelWidth i) = command.LabelWidth i
of_sheets sheet.NoMemory = command.NoMemory

-- a fault of labels that are printed as images, as the command's
abbrev pub of_prints : PrintFault → CommandFault
of_prints (print.Sheet fault) = of_sheets fault
of_prints print.WriteFault = failed_write

-- a fault of images, as the command's
abbrev pub of_images : PbmFault → CommandFault
of_images pbm.NotP4 = command.NotP4
of_images pbm.PbmHeader = command.PbmHeader
of_images pbm.Truncated = command.Truncated
of_images pbm.PbmSize = command.PbmSize
of_images pbm.ReadFault = command.ReadFault
of_images pbm.NoMemory = command.NoMemory
