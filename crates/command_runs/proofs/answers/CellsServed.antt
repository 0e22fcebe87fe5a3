-- What `answers/cells.rt` gives to the hub and tells at the end, by the cells that were read (of specs/inner/ServedCells).
use Rattle.std.proofs.Common.{◌≡◌, ◌≢◌, ◌↔◌, ◌∷◌, ◌∙◌, ℕ, Bool, false, true, Err, Global, IfSome, List, None, Ok, Option, Result, Some, String, [], ap, arith, inl, inr, length, map, refl, replicate, string_bytes, subst, sym}
use Rattle.std.specs.Borrow.{MutBor}
use Rattle.std.specs.Io.KnownBytes.{IsAtEnd}
use Rattle.std.specs.List.{AllZip, concat}
use Rattle.std.proofs.lemmas.Bool.{true≢false}
use Rattle.lane_core.specs.declared.job.Plain.{Plain}
use Rattle.hub_core.specs.Laws.{AnswersAreRead, AreAnswersOf}
use Rattle.hub_core.specs.Serving.{served}
use Rattle.hub_core.specs.Traffics.{Gives, IfLost, IsKept, IsServed, IsServedUpTo, Stays}
use Rattle.hub_core.specs.declared.ended.Ended.{Ended}
use Rattle.hub_core.specs.declared.ended.Ended.TheVariants as ended
use Rattle.element_core.specs.Terms.{Terms}
use Rattle.sheet_core.specs.Bitmaps.{Bitmap}
use Rattle.sheet_core.specs.Grids.{Cells, IsGrid}
use Rattle.sheet_core.specs.declared.fault.PbmFault.{PbmFault}
use Rattle.sheet_core.specs.declared.fault.PbmFault.TheVariants as pbm
use Rattle.sheet_core.specs.declared.pbm.rows.ImageRows.{ImageRows}
use Rattle.sheet_core.specs.pbm.Images.{ReadsBytes, images_of}
use Rattle.sheet_core.specs.pbm.Rows.{AreRefused, HasFailedFor, HasSheets, MayStop, ReadSheets}
use Rattle.command_line.specs.declared.commands.scan.options.ScanOptions.{ScanOptions}
use Rattle.command_runs.specs.Faults.{of_images}
use Rattle.command_runs.specs.Grids.{cells_of}
use Rattle.command_runs.specs.Columns.{AreColumns, have_size}
use Rattle.command_runs.specs.answers.Reports.{IsReport}
use Rattle.command_runs.specs.commands.Scans.{RefusesImages, WritesImages}
use Rattle.command_runs.specs.declared.answers.cells.SheetRows.{SheetRows}
use Rattle.command_runs.specs.declared.columns.CellRows.{CellRows}
use Rattle.command_runs.specs.declared.columns.Course.{Course}
use Rattle.command_runs.specs.declared.columns.Course.TheVariants as course
use Rattle.command_runs.specs.declared.fault.CommandFault.{CommandFault}
use Rattle.command_runs.specs.declared.fault.CommandFault.TheVariants as command
use Rattle.command_runs.specs.inner.AnswerLines.{AreLinesOf}
use Rattle.command_runs.specs.inner.CellRows.{AtLast, AtSheet, GaveCells, GaveCellsAt, GaveNextCell, GivesNextCell}
use Rattle.command_runs.specs.inner.ServedCells.{HasGivenCells, IsToldOfCells, have_ended}
use Rattle.command_runs.proofs.CellsGiven.{are_columns, no_columns}
use Rattle.command_runs.proofs.answers.RowsAsRead.{no_records_no_rows, no_report}

-- ---- what the hub is given

module _ {S : Type 0} (left : S → Option (List ℕ)) (failed : S → Bool) where
  -- what `next` promises of a row, if it gives one
  pub gives_if : (old new : SheetRows S) (next : Option (ℕ × List ℕ)) → new.texts ≡ old.texts → new.cells.grid ≡ old.cells.grid
      → GivesNextCell left failed old.cells next new.cells
      → IfSome next (λ r. Gives (λ start s given brought. HasGivenCells left failed start s given brought) r old new)
  gives_if old new None texts grid gives = tt
  gives_if old new (Some row) texts grid gives = λ start given brought was.
      let next = gives start.cells.images.source given was.gave in (
        next.0,
        record { grid = grid ∙ was.grid; gave = next.1; lines = subst (λ t. AreLinesOf brought (map string_bytes t.items)) (sym texts) was.lines },
      )

  -- and if it gives none
  pub none_given : (old new : SheetRows S) (next : Option (ℕ × List ℕ)) → next ≡ None → new.texts ≡ old.texts → new.cells.grid ≡ old.cells.grid
      → GivesNextCell left failed old.cells next new.cells
      → Stays (λ start s given brought. HasGivenCells left failed start s given brought) old new
  none_given old new next none texts grid gives = λ start given brought was. record {
    grid = grid ∙ was.grid;
    gave = rw none at (gives start.cells.images.source given was.gave);
    lines = subst (λ t. AreLinesOf brought (map string_bytes t.items)) (sym texts) was.lines;
  }

  -- however the serving ends, some rows were given
  pub cells_of_end : {W B : Type 0} (year : Terms) (start now : SheetRows S) (end : Ended W B)
      → (IsKept end → IsServed (λ start s given brought. HasGivenCells left failed start s given brought) (λ s. have_ended s.cells.course) year start now end)
      → IfLost end (IsServedUpTo (λ start s given brought. HasGivenCells left failed start s given brought) (λ s t. t.cells ≡ s.cells) year start now)
      → (now.cells.grid ≡ start.cells.grid) × (given : List (List (List ℕ))) × GaveCells left failed start.cells.images.source now.cells given
  cells_of_end year start now (ended.BringFailed fault) served lost =
      let (before, given, brought, was, first, leaves) = lost in (
        ap (λ r. r.grid) leaves ∙ was.grid,
        given,
        subst (λ r. GaveCells left failed start.cells.images.source r given) (sym leaves) was.gave,
      )
  cells_of_end year start now ended.Done served lost = let s = served tt in (s.2.grid, s.0, s.2.gave)
  cells_of_end year start now ended.NoMemory served lost = let s = served tt in (s.2.grid, s.0, s.2.gave)
  cells_of_end year start now (ended.WaitFailed fault) served lost = let s = served tt in (s.2.grid, s.0, s.2.gave)

  -- the source is the one that was lent
  source_at : (lent : MutBor S) (r : CellRows S) (given : List (List (List ℕ))) (k : Course) → GaveCellsAt left failed lent r given k → r.images.source.ghost_name ≡ lent.ghost_name
  source_at lent r given course.Sheets gave = gave.has.same
  source_at lent r given course.Cells gave = gave.has.same
  source_at lent r given course.Ended gave = gave.0.has.same
  source_at lent r given course.Unfit gave = gave.1.has.same
  source_at lent r given (course.Refused fault) gave = gave.same

  pub same_source : (lent : MutBor S) (r : CellRows S) (given : List (List (List ℕ))) → GaveCells left failed lent r given → r.images.source.ghost_name ≡ lent.ghost_name
  same_source lent r given gave = source_at lent r given r.course gave

-- the texts are the report, once all rows were brought
pub cells_reported : (year : Terms) (given : List (List (List ℕ))) (brought : List (List Plain)) (texts : List (List ℕ)) → AnswersAreRead → AreLinesOf brought texts
    → brought ≡ served year given → IsReport year given (concat texts)
cells_reported year given brought texts law lines all =
    let read = law year given lines.0 (subst (λ lists. AllZip AreAnswersOf lists lines.0) all lines.1) in (lines.0, read, ap concat lines.2)

-- ---- what is told

-- why images are refused, as the command's
refuses_images : (o : ScanOptions) (left rest : Option (List ℕ)) (f : PbmFault) → ReadsBytes images_of left rest (Err f) → RefusesImages o left rest (of_images f)
refuses_images o left rest pbm.NotP4 read = read
refuses_images o left rest pbm.PbmHeader read = read
refuses_images o left rest pbm.Truncated read = read
refuses_images o left rest pbm.PbmSize read = inl read
refuses_images o left rest pbm.ReadFault read = read
refuses_images o left rest pbm.NoMemory read = read

-- it is no failed write
not_write : (f : PbmFault) → of_images f ≢ command.WriteFault
not_write pbm.NotP4 = λ same. cc
not_write pbm.PbmHeader = λ same. cc
not_write pbm.Truncated = λ same. cc
not_write pbm.PbmSize = λ same. cc
not_write pbm.ReadFault = λ same. cc
not_write pbm.NoMemory = λ same. cc

-- and a failed read exactly if a read has failed
abbrev Told : CommandFault → Result (String Global) CommandFault
Told f = Err f

works_told : (f : CommandFault) (was now : Bool) → f ≢ command.ReadFault → now ≡ was → was ≡ false → (Told f ≡ Told command.ReadFault) ↔ (now ≡ true)
works_told f was now other works sound = (
  λ same. absurd (other (let is : f ≡ command.ReadFault = cc in is)),
  λ failed. absurd (true≢false (sym failed ∙ works ∙ sound)),
)

fails_told : (f : PbmFault) (was now : Bool) → HasFailedFor f was now → was ≡ false
    → (Told (of_images f) ≡ Told command.ReadFault) ↔ (now ≡ true)
fails_told pbm.NotP4 was now fails sound = works_told command.NotP4 was now (λ same. cc) fails sound
fails_told pbm.PbmHeader was now fails sound = works_told command.PbmHeader was now (λ same. cc) fails sound
fails_told pbm.Truncated was now fails sound = works_told command.Truncated was now (λ same. cc) fails sound
fails_told pbm.PbmSize was now fails sound = works_told command.PbmSize was now (λ same. cc) fails sound
fails_told pbm.ReadFault was now fails sound = (λ same. fails, λ failed. refl)
fails_told pbm.NoMemory was now fails sound = works_told command.NoMemory was now (λ same. cc) fails sound

module _ {S : Type 0} (o : ScanOptions) (left : S → Option (List ℕ)) (failed : S → Bool) (lent : MutBor S) (r : ImageRows S) where
  -- images that are refused
  pub told_refused : (f : PbmFault) → AreRefused left failed lent r f → IsToldOfCells o left failed lent.now r.source.now (Err (of_images f))
  told_refused f is = record {
    report = tt;
    why = refuses_images o (left lent.now) (left r.source.now) f is.refuses;
    other = not_write f;
    fault = fails_told f (failed lent.now) (failed r.source.now) is.fails;
  }

  -- memory that is refused
  pub told_memory : ReadsBytes images_of (left lent.now) (left r.source.now) (Err pbm.NoMemory) → failed r.source.now ≡ failed lent.now
      → IsToldOfCells o left failed lent.now r.source.now (Err command.NoMemory)
  told_memory reads works = record {
    report = tt;
    why = reads;
    other = λ same. cc;
    fault = works_told command.NoMemory (failed lent.now) (failed r.source.now) (λ same. cc) works;
  }

  module _ (sheets : List Bitmap) (last : AtLast left failed lent r sheets) (reads : ReadSheets left failed r) where
    read : ReadsBytes images_of (left lent.now) (left r.source.now) (Ok sheets)
    read = reads lent sheets last.has

    -- an image of another size
    pub told_unfit : have_size (cells_of o.grid) sheets ≡ false → IsToldOfCells o left failed lent.now r.source.now (Err command.PbmSize)
    told_unfit unfit = record {
      report = tt;
      why = inr (read.bytes, (read.consumed, last.end), sheets, read.tells, unfit);
      other = λ same. cc;
      fault = works_told command.PbmSize (failed lent.now) (failed r.source.now) (λ same. cc) last.has.works;
    }

    module _ (grid : IsGrid (cells_of o.grid)) (fit : have_size (cells_of o.grid) sheets ≡ true) where
      -- a thread that could not be started
      pub told_thread : sheets ≢ [] → IsToldOfCells o left failed lent.now r.source.now (Err command.NoThread)
      told_thread some = record {
        report = tt;
        why = (read.bytes, (read.consumed, last.end), sheets, (grid, read.tells, fit), some);
        other = λ same. cc;
        fault = works_told command.NoThread (failed lent.now) (failed r.source.now) (λ same. cc) last.has.works;
      }

      -- a report
      pub told_report : (text : String Global) (given : List (List (List ℕ))) → AreColumns (cells_of o.grid) sheets given → IsReport o.year given (string_bytes text)
          → IsToldOfCells o left failed lent.now r.source.now (Ok text)
      told_report text given have report = record {
        report = (read.bytes, (read.consumed, last.end), (sheets, (grid, read.tells, fit), given, have, report));
        why = tt;
        other = tt;
        fault = λ sound. (λ same. cc, λ fails. absurd (true≢false (sym fails ∙ last.has.works ∙ sound)));
      }

-- ---- where the serving begins and ends

module _ {S : Type 0} (left : S → Option (List ℕ)) (failed : S → Bool) where
  -- no cell was given
  pub at_start : (lent : MutBor S) (r : CellRows S) (lanes : ℕ) → r.course ≡ course.Sheets → HasSheets left failed lent r.images [] → lanes ≡ r.grid.columns
      → GaveCells left failed lent r (replicate lanes [])
  at_start lent r lanes begins has count =
      let given : List (List (List ℕ)) = replicate lanes [] in
      let at : AtSheet left failed lent r given =
      record { sheets = []; has = has; fit = refl; columns = no_columns r.grid given (ap (λ n. replicate n []) count) } in
      subst (GaveCellsAt left failed lent r given) (sym begins) at

  -- all cells were given
  at_ended : (lent : MutBor S) (r : CellRows S) (given : List (List (List ℕ))) (k : Course) → r.course ≡ k → have_ended k ≡ true → GaveCells left failed lent r given
      → (at : AtSheet left failed lent r given) × IsAtEnd (left r.images.source.now)
  at_ended lent r given course.Ended same is gave = subst (GaveCellsAt left failed lent r given) same gave
  at_ended lent r given course.Sheets same is gave = cc is
  at_ended lent r given course.Cells same is gave = cc is
  at_ended lent r given course.Unfit same is gave = cc is
  at_ended lent r given (course.Refused fault) same is gave = cc is

  module _ (o : ScanOptions) (lent : MutBor S) (r : CellRows S) (given : List (List (List ℕ))) (gave : GaveCells left failed lent r given)
      (ended : have_ended r.course ≡ true) where
    end : (at : AtSheet left failed lent r given) × IsAtEnd (left r.images.source.now)
    end = at_ended lent r given r.course refl ended gave

    pub told_served : cells_of o.grid ≡ r.grid → IsGrid r.grid → ReadSheets left failed r.images → (text : String Global) (texts : List (List ℕ))
        → IsReport o.year given (concat texts) → string_bytes text ≡ concat texts → IsToldOfCells o left failed lent.now r.images.source.now (Ok text)
    told_served grid is reads text texts report same =
        told_report o left failed lent r.images end.0.sheets (record { has = end.0.has; end = end.1 }) reads (subst IsGrid (sym grid) is)
        (subst (λ g. have_size g end.0.sheets ≡ true) (sym grid) end.0.fit) text given
        (subst (λ g. AreColumns g end.0.sheets given) (sym grid) (are_columns r.grid end.0.sheets given end.0.columns)) (subst (IsReport o.year given) (sym same) report)

    pub told_unjoined : MayStop left failed r.images → IsToldOfCells o left failed lent.now r.images.source.now (Err command.NoMemory)
    told_unjoined stops = told_memory o left failed lent r.images ((stops lent end.0.sheets).0 end.0.has) end.0.has.works

-- of no images the report is empty
pub no_cells : (o : ScanOptions) (text : List ℕ) → text ≡ [] → (given : List (List (List ℕ))) × AreColumns (cells_of o.grid) [] given × IsReport o.year given text
no_cells o text none =
    let g = cells_of o.grid in (
      replicate g.columns [],
      are_columns g [] (replicate g.columns []) (no_columns g (replicate g.columns []) refl),
      subst (λ given. IsReport o.year given text) (sym (no_records_no_rows g.columns)) (no_report o.year g.columns text none),
    )
