-- Each way in which labels are printed or refused leaves the sink as promised. Each goal has a context of its own, so each names its parts anew.
use Rattle.std.proofs.Common.{◌*◌, ◌≡◌, ◌∙◌, Bool, Err, List, Option, Result, ap, refl, string_bytes, subst, sym, ℕ}
use Rattle.std.specs.Prelude.{IsErr, IsErrAnd}
use Rattle.std.specs.Io.KnownBytes.{Appends}
use Rattle.std.specs.List.{AllByRecursion}
use Rattle.std.proofs.lemmas.Bool.{false≢true}
use Rattle.std.proofs.lemmas.Result.{IfOk-from_err}
use Rattle.digits_core.specs.Bytes.{TookFront}
use Rattle.sheet_core.specs.declared.fault.PrintFault.{PrintFault}
use Rattle.sheet_core.specs.declared.fault.PrintFault.TheVariants as print
use Rattle.sheet_core.specs.declared.fault.SheetFault.{SheetFault}
use Rattle.sheet_core.specs.declared.fault.SheetFault.TheVariants as sheet
use Rattle.command_line.specs.declared.commands.print.options.Output.{Output}
use Rattle.command_line.specs.declared.commands.print.options.Output.TheVariants as output
use Rattle.command_runs.specs.declared.fault.CommandFault.{CommandFault}
use Rattle.command_runs.specs.declared.fault.CommandFault.TheVariants as command
use Rattle.sheet_core.specs.Bitmaps.{Bitmap}
use Rattle.sheet_core.specs.Drawing.{ArePrinted, IsPrintFault, IsSheetFault, cell_count}
use Rattle.sheet_core.specs.Grids.{Cells}
use Rattle.sheet_core.specs.Labels.{IsPrintable}
use Rattle.sheet_core.specs.pbm.Images.{pbm_of}
use Rattle.sheet_core.specs.declared.label.Label.{Label}
use Rattle.command_runs.specs.Faults.{failed_write, no_memory, of_prints, of_sheets}
use Rattle.command_runs.specs.commands.Prints.{IsPrinted, IsUnprinted}
use Rattle.command_runs.specs.inner.Prints.{LeavesPrinted}
use Rattle.csv_records.specs.print.Labels.{label_lines}
use Rattle.command_runs.proofs.ToldFaults.{never_refused, not_cut, one_fault_told, refused_as, told_fault}
use Rattle.command_runs.proofs.commands.print.write_labels.Goals as goal

-- the lines, where text is asked for, of as many cells as are counted
lines_made : (g : Cells) (o : Output) (labels : List Label) (text : List ℕ) (wide columns high rows : ℕ) → wide ≡ columns → columns ≡ g.columns → high ≡ rows
    → rows ≡ g.rows → o ≡ output.Lines → AllByRecursion (IsPrintable g) labels → text ≡ label_lines (wide * high) labels → IsPrinted g o labels text
lines_made g o labels text wide columns high rows a b c d asked fit is =
    let cells : wide * high ≡ cell_count g = rw (a, b, c, d) refl in
    rw asked (fit, is ∙ ap (λ k. label_lines k labels) cells)

-- the images, where these are asked for
images_printed : (g : Cells) (o : Output) (labels : List Label) (sheets : List Bitmap) → o ≡ output.Images → ArePrinted labels g sheets
    → IsPrinted g o labels (pbm_of sheets)
images_printed g o labels sheets asked printed = rw asked (sheets, printed, refl)

-- faults of labels, as the command's: a case for each `SheetFault`, and for each `PrintFault`
sheets_unprinted : (g : Cells) (labels : List Label) (f : SheetFault) → IsSheetFault g labels f → IsUnprinted g labels (of_sheets f)
sheets_unprinted g labels (sheet.LabelKind i) why = why
sheets_unprinted g labels (sheet.LabelWidth i) why = why
sheets_unprinted g labels sheet.NoMemory why = tt

prints_unprinted : (g : Cells) (labels : List Label) (f : PrintFault) → IsPrintFault g labels f → IsUnprinted g labels (of_prints f)
prints_unprinted g labels (print.Sheet (sheet.LabelKind i)) why = why
prints_unprinted g labels (print.Sheet (sheet.LabelWidth i)) why = why
prints_unprinted g labels (print.Sheet sheet.NoMemory) why = tt
prints_unprinted g labels print.WriteFault why = tt

-- of these faults the writer's alone is a failed write
only_write : (f : PrintFault) → of_prints f ≡ command.WriteFault → f ≡ print.WriteFault
only_write (print.Sheet (sheet.LabelKind i)) e = cc
only_write (print.Sheet (sheet.LabelWidth i)) e = cc
only_write (print.Sheet sheet.NoMemory) e = cc
only_write print.WriteFault e = refl

-- if a result is such a fault, as the command's, and a failed write, the fault is the writer's
its_write : {A : Type 0} (r : Result A CommandFault) (f : PrintFault) → IsErrAnd r (λ e. e ≡ of_prints f) → r ≡ Err command.WriteFault → f ≡ print.WriteFault
its_write r f told same = only_write f (one_fault_told r (of_prints f) command.WriteFault told same)

-- a fault of labels alone is no failed write
sheets_no_write : (f : SheetFault) → of_sheets f ≡ command.WriteFault → ⊥
sheets_no_write (sheet.LabelKind i) e = cc
sheets_no_write (sheet.LabelWidth i) e = cc
sheets_no_write sheet.NoMemory e = cc

-- nothing was written: the fault of the result is no failed write, and the sink is as it was
unwritten_labels : {W : Type 0} (grid : Cells) (o : Output) (labels : List Label) (taken : W → Option (List ℕ)) (failed : W → Bool) (sink : W)
    (r : Result (Unit {0}) CommandFault) (fault : CommandFault) → IsErr r → IsErrAnd r (λ e. e ≡ fault) → (fault ≡ command.WriteFault → ⊥)
    → IsUnprinted grid labels fault → LeavesPrinted grid o labels taken failed sink sink r
unwritten_labels grid o labels taken failed sink r fault is told other why = record {
  ok = IfOk-from_err r _ is;
  cut = λ same. absurd (not_cut r fault other told same);
  refused = refused_as r fault (IsUnprinted grid labels) told why;
  unwritten = refused_as r fault _ told (λ other. refl);
  write = λ sound. (λ same. absurd (not_cut r fault other told same), λ failed. absurd (false≢true (sym sound ∙ failed)));
}

pub returns-in_err-check_labels-in-Lines : goal.returns-in_err-check_labels-in-Lines
returns-in_err-check_labels-in-Lines g c =
    let f = c.in_err-check_labels-in-Lines.field-0.0 in
    unwritten_labels c.args.grid c.args.options.output c.args.labels.now g.W.Sink.taken g.W.Sink.failed c.args.sink.now c.from_residual.result (of_sheets f)
    c.from_residual.ensures.0 c.from_residual.ensures.1 (sheets_no_write f)
    (sheets_unprinted c.args.grid c.args.labels.now f c.in_err-check_labels-in-Lines.ensures.err)

pub returns-in_err-text-in-Lines : goal.returns-in_err-text-in-Lines
returns-in_err-text-in-Lines g c =
    unwritten_labels c.args.grid c.args.options.output c.args.labels.now g.W.Sink.taken g.W.Sink.failed c.args.sink.now
    c.from_residual-in_err-text-in-Lines.result no_memory c.from_residual-in_err-text-in-Lines.ensures.0 c.from_residual-in_err-text-in-Lines.ensures.1
    (λ is. cc) tt

pub returns-in_err-write_all-in-Lines : goal.returns-in_err-write_all-in-Lines
returns-in_err-write_all-in-Lines g c =
    let r = c.from_residual-in_err-write_all-in-Lines.result in
    let told = c.from_residual-in_err-write_all-in-Lines.ensures.1 in
    let grid = c.args.grid in
    let o = c.args.options in
    let labels = c.args.labels.now in
    let text = string_bytes c.in_ok-text-in-Lines.text in
    let lines = lines_made grid o.output labels text c.from.result c.columns.result c.from-in-Lines.result c.rows.result c.from.ensures c.columns.ensures
    c.from-in-Lines.ensures c.rows.ensures c.in-Lines.is c.in_ok-check_labels-in-Lines.ensures.ok c.in_ok-text-in-Lines.ensures in
    let sent = c.as_bytes.ensures.value ∙ c.as_str.ensures.value in
    record {
      ok = IfOk-from_err r _ c.from_residual-in_err-write_all-in-Lines.ensures.0;
      cut = λ same. (
        text,
        lines,
        subst (λ t. TookFront (g.W.Sink.taken c.args.sink.now) (g.W.Sink.taken c.write_all.new.sink) t) sent c.in_err-write_all-in-Lines.ensures.err,
      );
      refused = refused_as r failed_write (IsUnprinted grid labels) told tt;
      unwritten = refused_as r failed_write _ told (λ other. absurd (other refl));
      write = λ sound. (λ same. (c.in_err-write_all-in-Lines.ensures.fault sound).0 refl, λ failed. told_fault r failed_write told);
    }

pub returns-in_err-print_pbm-in-Images : goal.returns-in_err-print_pbm-in-Images
returns-in_err-print_pbm-in-Images g c =
    let r = c.from_residual-in_err-print_pbm-in-Images.result in
    let e = c.from_residual-in_err-print_pbm-in-Images.ensures in
    let grid = c.args.grid in
    let o = c.args.options in
    let labels = c.args.labels.now in
    let f = c.in_err-print_pbm-in-Images.field-0.0 in
    let printed = c.in_err-print_pbm-in-Images.ensures in
    record {
      ok = IfOk-from_err r _ e.0;
      cut = λ same.
          let out = printed.cut (ap (λ f. Err f) (its_write r f e.1 same)) in
          (pbm_of out.0, images_printed grid o.output labels out.0 c.in-Images.is out.1, out.2);
      refused = refused_as r (of_prints f) (IsUnprinted grid labels) e.1 (prints_unprinted grid labels f printed.refused);
      unwritten = refused_as r (of_prints f) _ e.1 (λ other. printed.unwritten (λ is. other (ap of_prints is)));
      write = λ sound. (
        λ same. (printed.write sound).0 (ap (λ f. Err f) (its_write r f e.1 same)),
        λ failed. let is : f ≡ print.WriteFault = cc ((printed.write sound).1 failed) in
            told_fault r (of_prints f) e.1 ∙ ap (λ f. Err (of_prints f)) is,
      );
    }

pub returns-in_ok-write_all-in-Lines : goal.returns-in_ok-write_all-in-Lines
returns-in_ok-write_all-in-Lines g c =
    let text = string_bytes c.in_ok-text-in-Lines.text in
    record {
      ok = (
        text,
        lines_made c.args.grid c.args.options.output c.args.labels.now text c.from.result c.columns.result c.from-in-Lines.result c.rows.result c.from.ensures
            c.columns.ensures c.from-in-Lines.ensures c.rows.ensures c.in-Lines.is c.in_ok-check_labels-in-Lines.ensures.ok c.in_ok-text-in-Lines.ensures,
        subst (λ t. Appends (g.W.Sink.taken c.args.sink.now) (g.W.Sink.taken c.write_all.new.sink) t) (c.as_bytes.ensures.value ∙ c.as_str.ensures.value)
            c.in_ok-write_all-in-Lines.ensures.ok,
      );
      cut = λ same. absurd (never_refused tt command.WriteFault same);
      refused = tt;
      unwritten = tt;
      write = λ sound. (
        λ same. absurd (never_refused tt command.WriteFault same),
        λ failed. absurd (false≢true ((c.in_ok-write_all-in-Lines.ensures.fault sound).1 failed)),
      );
    }

pub returns-in_ok-print_pbm-in-Images : goal.returns-in_ok-print_pbm-in-Images
returns-in_ok-print_pbm-in-Images g c =
    let printed = c.in_ok-print_pbm-in-Images.ensures in
    let out = printed.ok in
    record {
      ok = (pbm_of out.0, images_printed c.args.grid c.args.options.output c.args.labels.now out.0 c.in-Images.is out.1, out.2);
      cut = λ same. absurd (never_refused tt command.WriteFault same);
      refused = tt;
      unwritten = tt;
      write = λ sound. (
        λ same. absurd (never_refused tt command.WriteFault same),
        λ failed. absurd (never_refused tt print.WriteFault ((printed.write sound).1 failed)),
      );
    }
