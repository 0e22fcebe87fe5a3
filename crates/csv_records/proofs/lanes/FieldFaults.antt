-- What the capped widths of a field say of the field.
use Rattle.std.proofs.Common.{◌≡◌, ◌≢◌, ◌∙◌, Bool, List, None, Some, ap, false, refl, sym, true, ℕ}
use Rattle.scan_core.specs.Row.{runs_fault}
use Rattle.scan_core.specs.declared.fault.RunFault.{RunFault}
use Rattle.scan_core.specs.declared.fault.RunFault.TheVariants as run
use Rattle.csv_records.specs.inner.FrontWidths.{capped, has_wide}
use Rattle.csv_records.specs.lanes.Widths.{are_widths, field_fault, of_runs, widths_in, words_of}
use Rattle.csv_records.specs.declared.input.fault.RecordFault.TheVariants as fault
use Rattle.csv_records.proofs.lanes.Capped.{bad_capped, capped_narrow, one_wide, wide_capped}

-- a field whose words are widths has the fault of its widths, or none if they have none
fault_of_widths : (field : List ℕ) → are_widths (words_of field) ≡ true → field_fault field ≡ of_runs (runs_fault (widths_in field))
fault_of_widths field words = rw words refl

-- if the capped widths are a row and no width is above 65,535, the field shows this row and has no fault
pub capped_taken : (field ws : List ℕ) (wide : Bool) → are_widths (words_of field) ≡ true → ws ≡ capped (widths_in field)
    → wide ≡ has_wide (widths_in field) → wide ≡ false → runs_fault ws ≡ None → (ws ≡ widths_in field) × (field_fault field ≡ None)
capped_taken field ws wide words is flag narrow row =
    let same : ws ≡ widths_in field = is ∙ capped_narrow (widths_in field) (sym flag ∙ narrow) in
    (same, fault_of_widths field words ∙ ap of_runs (ap runs_fault (sym same) ∙ row))

-- if the capped widths are a row and a width is above 65,535, the field has the fault `TooWide`
pub capped_too_wide : (field ws : List ℕ) (wide : Bool) → are_widths (words_of field) ≡ true → ws ≡ capped (widths_in field)
    → wide ≡ has_wide (widths_in field) → wide ≡ true → runs_fault ws ≡ None → field_fault field ≡ Some fault.TooWide
capped_too_wide field ws wide words is flag some row =
    fault_of_widths field words ∙ ap of_runs (one_wide (widths_in field) (ap runs_fault (sym is) ∙ row) (sym flag ∙ some))

-- if the number of the capped widths or an inner one is at fault, the field has the fault `BadRuns`
capped_bad : (field ws : List ℕ) → are_widths (words_of field) ≡ true → ws ≡ capped (widths_in field)
    → runs_fault ws ≡ Some run.BadRuns → field_fault field ≡ Some fault.BadRuns
capped_bad field ws words is bad = fault_of_widths field words ∙ ap of_runs (bad_capped (widths_in field) (ap runs_fault (sym is) ∙ bad))

-- if the sum of the capped widths is at fault, the field has the fault `TooWide`
capped_sum_wide : (field ws : List ℕ) → are_widths (words_of field) ≡ true → ws ≡ capped (widths_in field)
    → runs_fault ws ≡ Some run.TooWide → field_fault field ≡ Some fault.TooWide
capped_sum_wide field ws words is bad = fault_of_widths field words ∙ ap of_runs (wide_capped (widths_in field) (ap runs_fault (sym is) ∙ bad))

-- so it is of each fault that widths may have
pub capped_fault : (field ws : List ℕ) (f : RunFault) → are_widths (words_of field) ≡ true → ws ≡ capped (widths_in field)
    → runs_fault ws ≡ Some f → f ≢ run.NoMemory → field_fault field ≡ of_runs (Some f)
capped_fault field ws run.BadRuns words is bad known = capped_bad field ws words is bad
capped_fault field ws run.TooWide words is bad known = capped_sum_wide field ws words is bad
capped_fault field ws run.NoMemory words is bad known = absurd (known refl)
