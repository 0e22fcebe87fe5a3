-- What a scan of printed images answers, and that a scan of the same bytes writes one text, for `printed_is_scanned` and `one_scan`.
use Rattle.std.proofs.Common.{◌≡◌, ℕ, ◌*◌, ◌≤◌, ◌==◌, true, List, length, refl, sym, ap, subst, ◌∙◌, get_or}
use Rattle.std.specs.List.{AllByRecursion}
use Rattle.std.proofs.lemmas.Bool.{and_from, eq-eqb}
use Rattle.std.proofs.lemmas.List.Sums.{list_all-from_AllPass}
use Rattle.std.proofs.lemmas.Option.{slice_get-get_or}
use Rattle.scan_core.specs.declared.answer.Answer.{Answer}
use Rattle.sheet_core.specs.Bitmaps.{Bitmap}
use Rattle.sheet_core.specs.Drawing.{ArePrinted}
use Rattle.sheet_core.specs.Grids.{Cells}
use Rattle.sheet_core.specs.Laws.{PrintedIsRead}
use Rattle.sheet_core.specs.pbm.Images.{images_of}
use Rattle.sheet_core.specs.declared.label.Label.{Label}
use Rattle.command_runs.specs.Grids.{cells_of}
use Rattle.command_runs.specs.answers.Reports.{report}
use Rattle.csv_records.specs.input.Records.{AreItems, Fields}
use Rattle.csv_records.specs.print.Labels.{print_meaning}
use Rattle.command_runs.specs.Columns.{has_size, have_size}
use Rattle.command_runs.specs.Printed.{AreScanned, PrintedAnswer, SaysElements, ScannedOnce, labels_answers, labels_report}
use Rattle.command_runs.specs.Laws.{IsPrintFor, PrintedIsAnswered, PrintedIsScanned}
use Rattle.command_runs.specs.commands.Prints.{IsPrinted}
use Rattle.command_runs.specs.commands.Scans.{AreImages, IsScan, OneScan}
use Rattle.command_line.specs.declared.commands.print.options.Output.TheVariants as output
use Rattle.command_line.specs.declared.commands.print.options.PrintOptions.{PrintOptions}
use Rattle.element_core.specs.Terms.{Terms}
use Rattle.command_line.specs.declared.commands.scan.options.ScanOptions.{ScanOptions}
use Rattle.command_runs.proofs.PrintedAnswers.{one_list_of_images, sheets_counted}

-- the labels of records say their elements (`labels_say` of `LabelReadings`)
abbrev LabelsSay : Type 0
LabelsSay = (year : Terms) (rows : List Fields) (labels : List Label) → AreItems (print_meaning year) rows labels → AllByRecursion (SaysElements year) labels

-- a printed sheet has the grid's size
pub sizes : (labels : List Label) (g : Cells) (sheets : List Bitmap) → ArePrinted labels g sheets → have_size g sheets ≡ true
sizes labels g sheets printed = list_all-from_AllPass (has_size g) sheets (λ i d within.
    let s = get_or sheets i d in
    let shown = printed.shown.each i s (slice_get-get_or sheets i d within) in
    and_from (s.width == g.columns * g.width) (s.height == g.rows * g.height) (eq-eqb s.width (g.columns * g.width) shown.width)
    (eq-eqb s.height (g.rows * g.height) shown.height))

-- what is printed is taken, and its columns have the labels' answers; `scan` takes at most 4,096 images, and `IsPrintFor` has no more
scanned_so : LabelsSay → PrintedIsRead → PrintedAnswer
    → (scan : ScanOptions) (print : PrintOptions) (rows : List Fields) (labels : List Label) (bytes : List ℕ) → IsPrintFor scan print rows labels bytes
    → (sheets : List Bitmap) × AreImages scan bytes sheets × AreScanned (cells_of scan.grid) sheets scan.year
    (labels_answers (cells_of scan.grid) scan.year labels)
scanned_so say read answer scan print rows labels bytes p =
    let g = cells_of scan.grid in
    let in_print_grid : IsPrinted (cells_of print.grid) output.Images labels bytes =
    subst (λ b. IsPrinted (cells_of print.grid) b labels bytes) p.images p.printed.1 in
    let written : IsPrinted g output.Images labels bytes = subst (λ h. IsPrinted h output.Images labels bytes) (sym p.same_grid) in_print_grid in
    let sheets : List Bitmap = written.0 in
    let are = written.1 in
    let says : AllByRecursion (SaysElements scan.year) labels =
    subst (λ y. AllByRecursion (SaysElements y) labels) (sym p.same_year) (say print.year rows labels p.mean) in
    let count = sheets_counted labels g sheets are in
    let fits : length sheets ≤ 4096 = rw count p.few in
    let images : AreImages scan bytes sheets = (are.grid, ap images_of written.2 ∙ read labels g sheets are fits, sizes labels g sheets are) in
    (sheets, images, answer labels g sheets scan.year are says)

-- what a scan of the same bytes answers is nothing else
answered_so : ScannedOnce → (scan : ScanOptions) (bytes : List ℕ) (sheets : List Bitmap) (answers : List (List Answer))
    → AreImages scan bytes sheets → AreScanned (cells_of scan.grid) sheets scan.year answers
    → (others : List Bitmap) (said : List (List Answer)) → AreImages scan bytes others → AreScanned (cells_of scan.grid) others scan.year said → said ≡ answers
answered_so once scan bytes sheets answers images are others said also told =
    let g = cells_of scan.grid in
    let same = one_list_of_images bytes sheets others images.1 also.1 in
    once g sheets scan.year said answers (subst (λ ss. AreScanned g ss scan.year said) same told) are

pub printed_is_answered : LabelsSay → PrintedIsRead → PrintedAnswer → ScannedOnce → PrintedIsAnswered
printed_is_answered say read answer once scan print rows labels bytes h =
    let p = scanned_so say read answer scan print rows labels bytes h in
    answered_so once scan bytes p.0 (labels_answers (cells_of scan.grid) scan.year labels) p.1 p.2

pub printed_is_scanned : LabelsSay → PrintedIsRead → PrintedAnswer → ScannedOnce → PrintedIsScanned
printed_is_scanned say read answer once scan print rows labels bytes h =
    let p = scanned_so say read answer scan print rows labels bytes h in
    let answers : List (List Answer) = labels_answers (cells_of scan.grid) scan.year labels in
    let scanned : IsScan scan bytes (labels_report (cells_of scan.grid) scan.year labels) = (p.0, p.1, p.2.0, p.2.1, (answers, p.2.2, refl)) in
    λ text. (
      λ k. k.4.2 ∙ ap report (answered_so once scan bytes p.0 answers p.1 p.2 k.0 k.4.0 k.1 (k.2, k.3, k.4.1)),
      λ e. subst (IsScan scan bytes) (sym e) scanned,
    )

pub one_scan : ScannedOnce → OneScan
one_scan once o bytes text other h k =
    let g = cells_of o.grid in
    let same = one_list_of_images bytes h.0 k.0 h.1.1 k.1.1 in
    let told : AreScanned g h.0 o.year k.4.0 = subst (λ ss. AreScanned g ss o.year k.4.0) same (k.2, k.3, k.4.1) in
    h.4.2 ∙ ap report (once g h.0 o.year h.4.0 k.4.0 (h.2, h.3, h.4.1) told) ∙ sym k.4.2
