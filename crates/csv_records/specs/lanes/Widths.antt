-- Rows as they are spelled in a field: widths in dots, with one space between them.
use Rattle.std.specs.Prelude.{◌==◌, ◌&&◌, nat_le, ℕ, Bool, List, Option, Some, None, length, map, if◌then◌else◌}
use Rattle.std.specs.Char.{is_ascii_digit}
use Rattle.std.specs.List.{list_all, slice_split}
use Rattle.std.specs.Str.Parse.{digits_value}
use Rattle.scan_core.specs.Row.{runs_fault}
use Rattle.scan_core.specs.declared.fault.RunFault.{RunFault}
use Rattle.scan_core.specs.declared.fault.RunFault.TheVariants as run
use Rattle.csv_records.specs.declared.input.fault.RecordFault.{RecordFault}
use Rattle.csv_records.specs.declared.input.fault.RecordFault.TheVariants as fault

-- the text is one to `most` decimal digits, and nothing else
abbrev pub is_number : ℕ → List ℕ → Bool
is_number most text = nat_le 1 (length text) && (nat_le (length text) most && list_all is_ascii_digit text)

-- the number that a text of one to `most` digits shows
abbrev pub number_in : ℕ → List ℕ → Option ℕ
number_in most text = if is_number most text then Some (digits_value 10 text) else None

-- the texts between the spaces of a field
abbrev pub words_of : List ℕ → List (List ℕ)
words_of field = slice_split (λ b. b == 32) field

-- each of these words is one to five digits: 65,535, the largest sum of a row, has five
abbrev pub are_widths : List (List ℕ) → Bool
are_widths words = list_all (is_number 5) words

-- the widths that a field shows
abbrev pub widths_in : List ℕ → List ℕ
widths_in field = map (digits_value 10) (words_of field)

-- a fault of the widths, as the record's; `runs_fault` never gives `NoMemory`
abbrev pub of_runs : Option RunFault → Option RecordFault
of_runs (Some run.BadRuns) = Some fault.BadRuns
of_runs (Some run.TooWide) = Some fault.TooWide
of_runs (Some run.NoMemory) = None
of_runs None = None

-- why a field shows no row, if it shows none: its words, then the number of its widths and the inner ones, then the sum of all
abbrev pub field_fault : List ℕ → Option RecordFault
field_fault field = if are_widths (words_of field) then of_runs (runs_fault (widths_in field)) else Some fault.BadRuns
