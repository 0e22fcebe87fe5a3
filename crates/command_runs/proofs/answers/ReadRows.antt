-- The records that a `RowReader` has read, call by call: a line, the last line, one that `csv` gives, one that is refused (of specs/inner/RowReaders).
use Rattle.std.proofs.Common.{Bool, Err, List, Ok, Option, Result, [], ap, append-nil, append_assoc, arith, drop, false, length, length-append, length-drop, map, min, refl, subst, sym, true, ℕ, ◌+◌, ◌++◌, ◌<◌, ◌≡◌, ◌≤◌, ◌∙◌, ◌∷◌}
use Rattle.std.proofs.lemmas.Bool.{true≢false}
use Rattle.std.proofs.lemmas.Slice.Zip.{all_zipped_more}
use Rattle.std.specs.Borrow.{MutBor}
use Rattle.std.specs.Global.{Box}
use Rattle.csv_records.specs.input.Records.{Fields, records_of}
use Rattle.csv_records.specs.input.Faults.{refusal_at}
use Rattle.csv_records.specs.declared.input.fault.RecordFault.{RecordFault}
use Rattle.csv_records.specs.declared.input.fault.RecordsFault.{RecordsFault}
use Rattle.csv_records.specs.declared.input.fault.RecordsFault.TheVariants as refused
use Rattle.std.specs.Io.KnownBytes.{IsAtEnd}
use Rattle.csv_records.specs.input.Reading.{HasRead}
use Rattle.csv_records.specs.declared.input.records.Records.{Records}
use Rattle.csv_records.proofs.FirstFault.{first_at}
use Rattle.csv_records.specs.lanes.Feeds.{LaneRow, lanes_meaning}
use Rattle.csv_records.specs.declared.input.fault.RecordRefusal.{RecordRefusal}
use Rattle.csv_records.specs.declared.input.fault.RecordRefusal.TheVariants as one
use Rattle.csv_records.proofs.RecordsReadFirst.{read_few, read_front}
use Rattle.command_runs.specs.inner.HeldInputs.{GivesUp, HasTaken, PassesRest, held_of}
use Rattle.command_runs.specs.inner.Lines.{IsLineTo, last_of, with_line}
use Rattle.command_runs.proofs.live.RecordsAreLines.{lines_are_records}
use Rattle.command_runs.specs.inner.RowReaders.{GaveRows, HasCut, HasReadRows, HasReadTo, IsMeant, IsRefusedFor, KeepsRows, ReadRecord, StandsAfter, StandsAt, is_taken}
use Rattle.command_runs.specs.live.Text.{fields_in}
use Rattle.command_runs.specs.declared.answers.held_input.HeldInput.{HeldInput}
use Rattle.command_runs.specs.declared.answers.row_reader.Course.{Course}
use Rattle.command_runs.specs.declared.answers.row_reader.Course.TheVariants as course
use Rattle.command_runs.specs.declared.answers.row_reader.RowReader.{RowReader}
use Rattle.command_runs.proofs.answers.ReadOn.{cut_on, plain_rest}

-- at most one record more was read than bytes were taken
few_rows : (k : Course) (taken held : List ℕ) (rows : List Fields) → StandsAfter k taken held rows → length rows ≤ length taken + 1
few_rows course.Lines taken held rows stands = let few = stands.2 in omega (arith, few)
few_rows course.LastLine taken held rows stands = let few = stands.2 in omega (arith, few)
few_rows (course.Csv r) taken held rows stands =
    let few = stands.6 in
    let more = read_few stands.2 r.value stands.1 stands.3 in
    omega (arith, few, more, ap length stands.4, length-append stands.0 stands.1)
few_rows course.Ended taken held rows stands = stands.1
few_rows (course.Refused fault) taken held rows stands = absurd stands

-- a line that was cut is one record at most
at_most_one_record : (line : List ℕ) → length (map fields_in (with_line line [])) ≤ 1
at_most_one_record [] = omega arith
at_most_one_record (b ∷ line) = omega arith

-- exactly one if it has a byte, and none if not
some_line : (line : List ℕ) → 0 < length line → map fields_in (with_line line []) ≡ fields_in line ∷ []
some_line [] some = absurd (omega (arith, some))
some_line (b ∷ line) some = refl

no_line : (line : List ℕ) → length line ≡ 0 → map fields_in (with_line line []) ≡ []
no_line [] none = refl
no_line (b ∷ line) none = absurd (omega (arith, none))

module _ {S : Type 0} (left : S → Option (List ℕ)) (failed : S → Bool) (lanes : ℕ) (lent : MutBor S) where
  -- which rows were given depends on nothing of a reader but its lanes and its count
  pub rows_kept : (r s : RowReader S) (rows : List Fields) (items : List LaneRow) → s.lanes ≡ r.lanes → s.count ≡ r.count → KeepsRows lanes r rows items
      → KeepsRows lanes s rows items
  rows_kept r s rows items of_lanes count was = record { of_lanes = of_lanes ∙ was.of_lanes; count = count ∙ was.count; means = was.means; few = was.few }

  -- where the reading stands after records, the source is not refused: these were read
  pub by_course : (r : RowReader S) (rows : List Fields) (k : Course) (taken : List ℕ) → r.course ≡ k → StandsAfter k taken (held_of r.input) rows
      → HasReadRows left failed lent r rows → HasReadTo left failed lent r k rows
  by_course r rows course.Lines taken is stands has = has
  by_course r rows course.LastLine taken is stands has = has
  by_course r rows (course.Csv records) taken is stands has = has
  by_course r rows course.Ended taken is stands has = has
  by_course r rows (course.Refused fault) taken is stands has = absurd stands

  -- one more record was read
  pub read_record : (r : RowReader S) (rows : List Fields) (items : List LaneRow) (fields : Fields) (row : Result LaneRow RecordRefusal)
      → KeepsRows lanes r rows items → HasReadRows left failed lent r (rows ++ fields ∷ []) → IsMeant lanes fields row
      → ReadRecord left failed lanes lent r items row
  read_record r rows items fields (Ok row) keeps has meant = (rows, fields, keeps, has, meant)
  read_record r rows items fields (Err (one.Record f)) keeps has meant = (rows, fields, keeps, has, meant)
  read_record r rows items fields (Err one.NoMemory) keeps has meant = (rows, has.taken, keeps, has.input)

  -- ---- what is held is lines

  -- where a reader stands that has given these rows and holds lines
  abbrev pub AtLines : RowReader S → List LaneRow → Type 0
  AtLines r items = (rows : List Fields) × (taken : List ℕ) × KeepsRows lanes r rows items × HasTaken left failed lent r.input taken
      × StandsAt taken (held_of r.input) rows

  -- `GaveRows` of a reader at lines says the same as `AtLines`; `of_lines` is the way back
  pub at_lines : (r : RowReader S) (items : List LaneRow) → r.course ≡ course.Lines → GaveRows left failed lanes lent r items → AtLines r items
  at_lines r items is gave =
      let has : HasReadRows left failed lent r gave.0 = subst (λ k. HasReadTo left failed lent r k gave.0) is gave.2 in
      (gave.0, has.taken, gave.1, has.input, subst (λ k. StandsAfter k has.taken (held_of r.input) gave.0) is has.stands)

  -- rows were read, and what is held is lines still
  pub read_lines : (r : RowReader S) (taken : List ℕ) (rows : List Fields) → r.course ≡ course.Lines → HasTaken left failed lent r.input taken
      → StandsAt taken (held_of r.input) rows → HasReadRows left failed lent r rows
  read_lines r taken rows is input stands = record {
    taken = taken;
    input = input;
    stands = subst (λ k. StandsAfter k taken (held_of r.input) rows) (sym is) stands;
    all = λ t. absurd (true≢false (sym t ∙ ap is_taken is));
  }

  pub of_lines : (r : RowReader S) (items : List LaneRow) → r.course ≡ course.Lines → AtLines r items → GaveRows left failed lanes lent r items
  of_lines r items is at =
      (at.0, at.2, subst (λ k. HasReadTo left failed lent r k at.0) (sym is) (read_lines r at.1 at.0 is at.3 at.4))

  -- a line is cut off
  module _ (r s : RowReader S) (n : ℕ) (line : List ℕ) (gives : GivesUp n r.input s.input) (ends : IsLineTo (held_of r.input) line n) where
    -- what is held then is lines still, and the line was read
    cut_stands : (taken : List ℕ) (rows : List Fields) → StandsAt taken (held_of r.input) rows
        → StandsAt taken (held_of s.input) (rows ++ map fields_in (with_line line []))
    cut_stands taken rows was =
        let held = held_of r.input in
        let more = map fields_in (with_line line []) in
        let at = cut_on taken held n (drop (n + 1) held) rows ends.feed was.1 was.0 in
        let now = subst (λ ls. HasCut taken (drop n held) (rows ++ map fields_in ls)) ends.cut at in
        subst (λ h. StandsAt taken h (rows ++ more)) (sym gives.0) (
          now,
          plain_rest held n (drop (n + 1) held) ends.feed was.1,
          omega (arith, was.2, ends.some, at_most_one_record line, length-append rows more, length-drop n held, ap length ends.feed),
        )

    -- nothing more was taken
    cut_taken : (taken : List ℕ) → HasTaken left failed lent r.input taken → HasTaken left failed lent s.input taken
    cut_taken taken was = record { same = rw gives.1 was.same; came = rw gives.1 was.came; room = rw gives.2 was.room; works = rw gives.1 was.works }

    -- a line without a byte is no record
    pub line_passed : (items : List LaneRow) → s.lanes ≡ r.lanes → s.count ≡ r.count → length line ≡ 0 → AtLines r items → AtLines s items
    line_passed items of_lanes count none at = (
      at.0,
      at.1,
      rows_kept r s at.0 items of_lanes count at.2,
      cut_taken at.1 at.3,
      subst (λ rows. StandsAt at.1 (held_of s.input) rows) (ap (λ more. at.0 ++ more) (no_line line none) ∙ append-nil at.0) (cut_stands at.1 at.0 at.4),
    )

    -- another one is
    pub line_told : (items : List LaneRow) (row : Result LaneRow RecordRefusal) → s.lanes ≡ r.lanes → s.count ≡ r.count → s.course ≡ course.Lines
        → 0 < length line → IsMeant r.lanes (fields_in line) row → AtLines r items → ReadRecord left failed lanes lent s items row
    line_told items row of_lanes count is one meant at =
        read_record s at.0 items (fields_in line) row (rows_kept r s at.0 items of_lanes count at.2)
        (subst (λ more. HasReadRows left failed lent s (at.0 ++ more)) (some_line line one)
        (read_lines s at.1 (at.0 ++ map fields_in (with_line line [])) is (cut_taken at.1 at.3) (cut_stands at.1 at.0 at.4)))
        (subst (λ n. IsMeant n (fields_in line) row) at.2.of_lanes meant)

  -- ---- a record is refused

  -- no read has failed, so `fails` of `IsRefusedFor` is true of each fault but `ReadFault`
  works_still : (i : HeldInput S) (fault : RecordsFault) → failed i.source.now ≡ failed lent.now → (fault ≡ refused.ReadFault → ⊥)
      → failed lent.now ≡ false → (fault ≡ refused.ReadFault → failed i.source.now ≡ true) × (failed i.source.now ≡ true → fault ≡ refused.ReadFault)
  works_still i fault works other none = (λ is. absurd (other is), λ t. absurd (true≢false (sym t ∙ works ∙ none)))

  -- of all records, the one that was read last is the first with a fault
  why_refused : (r : RowReader S) (i : HeldInput S) (items : List LaneRow) (rows : List Fields) (fields : Fields) (taken : List ℕ) (others : List Fields)
      (f : RecordFault) → KeepsRows lanes r rows items → HasTaken left failed lent i taken → IsAtEnd (left i.source.now)
      → records_of taken ≡ (rows ++ fields ∷ []) ++ others → lanes_meaning lanes fields (Err f)
      → IsRefusedFor left failed lanes lent i (refused.Record r.count f)
  why_refused r i items rows fields taken others f keeps was end all meant =
      let room = was.room in
      record {
        same = was.same;
        refuses = (
          taken,
          (was.came, end),
          omega (arith, room),
          first_at (lanes_meaning lanes) rows items fields others (records_of taken) r.count f all keeps.count keeps.means meant,
        );
        fails = works_still i (refused.Record r.count f) was.works (λ is. cc is);
      }

  -- a refused growth claims nothing of the records
  no_memory : (i : HeldInput S) (taken : List ℕ) → HasTaken left failed lent i taken → IsRefusedFor left failed lanes lent i refused.NoMemory
  no_memory i taken was = record { same = was.same; refuses = tt; fails = works_still i refused.NoMemory was.works (λ is. cc is) }

  -- why a reader at lines is refused for a record, once what is left of the source was passed
  pub why_passed : (r : RowReader S) (j : HeldInput S) (items : List LaneRow) (refusal : RecordRefusal) → r.course ≡ course.Lines
      → PassesRest left failed r.input (Ok tt) j → ReadRecord left failed lanes lent r items (Err refusal) → IsRefusedFor left failed lanes lent j (refusal_at r.count refusal)
  why_passed r j items (one.Record f) is passes read =
      let (rows, fields, keeps, has, meant) = read in
      let stands = subst (λ k. StandsAfter k has.taken (held_of r.input) (rows ++ fields ∷ [])) is has.stands in
      why_refused r j items rows fields (has.taken ++ passes.0) (records_of (held_of r.input ++ passes.0)) f keeps (passes.2 lent has.taken has.input) passes.1
      (stands.0 passes.0) meant
  why_passed r j items one.NoMemory is passes read =
      let (rows, taken, keeps, input) = read in no_memory j (taken ++ passes.0) (passes.2 lent taken input)

  -- the records that follow those that were read, where all was taken
  others : (k : Course) (taken held : List ℕ) (rows : List Fields) → (k ≡ course.Lines → ⊥) → StandsAfter k taken held rows
      → (others : List Fields) × (records_of taken ≡ rows ++ others) × (is_taken k ≡ true)
  others course.Lines taken held rows other stands = absurd (other refl)
  others course.LastLine taken held rows other stands = (records_of held, stands.0, refl)
  others (course.Csv r) taken held rows other stands =
      let more = read_front stands.2 r.value stands.1 stands.3 in
      (more.0, stands.5 ∙ ap (λ rs. stands.0 ++ rs) more.1 ∙ sym (append_assoc stands.0 stands.1 more.0) ∙ ap (λ rs. rs ++ more.0) (sym stands.4), refl)
  others course.Ended taken held rows other stands = ([], sym stands.0 ∙ sym (append-nil rows), refl)
  others (course.Refused fault) taken held rows other stands = absurd stands

  -- why a reader that is not at lines is refused for a record: all of its source was taken before
  pub why_at_end : (r : RowReader S) (items : List LaneRow) (refusal : RecordRefusal) → (r.course ≡ course.Lines → ⊥)
      → ReadRecord left failed lanes lent r items (Err refusal) → IsRefusedFor left failed lanes lent r.input (refusal_at r.count refusal)
  why_at_end r items (one.Record f) other read =
      let (rows, fields, keeps, has, meant) = read in
      let more = others r.course has.taken (held_of r.input) (rows ++ fields ∷ []) other has.stands in
      why_refused r r.input items rows fields has.taken more.0 f keeps has.input (has.all more.2) more.1 meant
  why_at_end r items one.NoMemory other read = let (rows, taken, keeps, input) = read in no_memory r.input taken input

  -- ---- what `tell` leaves: one more row, or a refused source

  -- the row is given and counted: the count saturates at `usize::MAX`, and there are fewer records (`most_bytes`)
  pub row_told : (r s : RowReader S) (items : List LaneRow) (row : LaneRow) → s.lanes ≡ r.lanes → s.input ≡ r.input → s.course ≡ r.course
      → s.count ≡ min (r.count + 1) 18446744073709551615 → ReadRecord left failed lanes lent r items (Ok row)
      → (row.0 < lanes) × GaveRows left failed lanes lent s (items ++ row ∷ [])
  row_told r s items row of_lanes input is count read =
      let (rows, fields, keeps, has, meant) = read in
      let all = rows ++ fields ∷ [] in
      let few = few_rows r.course has.taken (held_of r.input) all has.stands in
      let room = has.input.room in
      let long = length-append rows (fields ∷ []) in
      let now : HasReadRows left failed lent s all = rw (input, is) (record { taken = has.taken; input = has.input; stands = has.stands; all = has.all }) in (
        meant.1,
        (
          all,
          record {
            of_lanes = of_lanes ∙ keeps.of_lanes;
            count = count ∙ omega (arith, keeps.count, keeps.few, long);
            means = all_zipped_more (λ fields item. lanes_meaning lanes fields (Ok item)) rows items fields row keeps.means meant.0;
            few = omega (arith, few, room);
          },
          by_course s all s.course has.taken refl (rw (input, is) has.stands) now,
        ),
      )

  -- a refusal leaves the rows that were given before
  pub rows_before : (r : RowReader S) (items : List LaneRow) (refusal : RecordRefusal) → ReadRecord left failed lanes lent r items (Err refusal)
      → (rows : List Fields) × KeepsRows lanes r rows items
  rows_before r items (one.Record f) read = (read.0, read.2)
  rows_before r items one.NoMemory read = (read.0, read.2)

  -- the source is refused: no row follows
  pub row_refused : (r s : RowReader S) (items : List LaneRow) (fault : RecordsFault) (rows : List Fields) → s.lanes ≡ r.lanes → s.count ≡ r.count
      → KeepsRows lanes r rows items → IsRefusedFor left failed lanes lent s.input fault → s.course ≡ course.Refused fault
      → GaveRows left failed lanes lent s items
  row_refused r s items fault rows of_lanes count keeps why is =
      let now = rows_kept r s rows items of_lanes count keeps in
      (rows, now, rw (is, now.of_lanes) why)

  -- ---- the last line

  -- all records of what was held were read
  all_lines : (r s : RowReader S) (rows more : List Fields) → r.course ≡ course.LastLine → s.course ≡ course.Ended → s.input ≡ r.input
      → more ≡ map fields_in (with_line (last_of (held_of r.input)) []) → HasReadRows left failed lent r rows → HasReadRows left failed lent s (rows ++ more)
  all_lines r s rows more is ends input of_line has =
      let held = held_of r.input in
      let stands = subst (λ k. StandsAfter k has.taken held rows) is has.stands in
      let all : rows ++ more ≡ records_of has.taken =
      ap (λ ms. rows ++ ms) (of_line ∙ ap (λ ls. map fields_in ls) (sym stands.3) ∙ sym (lines_are_records held stands.1)) ∙ sym stands.0 in
      rw input record {
        taken = has.taken;
        input = has.input;
        stands = subst (λ k. StandsAfter k has.taken held (rows ++ more)) (sym ends)
            (all, omega (arith, stands.2, length-append rows more, ap length of_line, at_most_one_record (last_of held)));
        all = λ t. has.all (ap is_taken is);
      }

  -- the last line has no byte: it is no record
  pub last_passed : (r s : RowReader S) (items : List LaneRow) → r.course ≡ course.LastLine → s.course ≡ course.Ended → s.input ≡ r.input → s.lanes ≡ r.lanes
      → s.count ≡ r.count → length (last_of (held_of r.input)) ≡ 0 → GaveRows left failed lanes lent r items → GaveRows left failed lanes lent s items
  last_passed r s items is ends input of_lanes count none gave =
      let has : HasReadRows left failed lent r gave.0 = subst (λ k. HasReadTo left failed lent r k gave.0) is gave.2 in
      let now = subst (λ rows. HasReadRows left failed lent s rows) (append-nil gave.0) (all_lines r s gave.0 [] is ends input (sym (no_line _ none)) has) in
      (gave.0, rows_kept r s gave.0 items of_lanes count gave.1, subst (λ k. HasReadTo left failed lent s k gave.0) (sym ends) now)

  -- the last line has a byte: it is a record
  pub last_told : (r s : RowReader S) (items : List LaneRow) (row : Result LaneRow RecordRefusal) → r.course ≡ course.LastLine → s.course ≡ course.Ended
      → s.input ≡ r.input → s.lanes ≡ r.lanes → s.count ≡ r.count → 0 < length (last_of (held_of r.input))
      → IsMeant r.lanes (fields_in (last_of (held_of r.input))) row → GaveRows left failed lanes lent r items → ReadRecord left failed lanes lent s items row
  last_told r s items row is ends input of_lanes count some meant gave =
      let fields = fields_in (last_of (held_of r.input)) in
      let has : HasReadRows left failed lent r gave.0 = subst (λ k. HasReadTo left failed lent r k gave.0) is gave.2 in
      read_record s gave.0 items fields row (rows_kept r s gave.0 items of_lanes count gave.1)
      (all_lines r s gave.0 (fields ∷ []) is ends input (sym (some_line _ some)) has)
      (subst (λ n. IsMeant n fields row) gave.1.of_lanes meant)

  -- ---- `csv` reads on

  -- a reader of the same input has read these records, if it stands after them
  has_read_as : (r s : RowReader S) (rows : List Fields) (taken : List ℕ) → s.input ≡ r.input → HasTaken left failed lent r.input taken
      → StandsAfter s.course taken (held_of r.input) rows → (is_taken s.course ≡ true → IsAtEnd (left r.input.source.now)) → HasReadRows left failed lent s rows
  has_read_as r s rows taken input was stands end = record {
    taken = taken;
    input = subst (λ i. HasTaken left failed lent i taken) (sym input) was;
    stands = subst (λ i. StandsAfter s.course taken (held_of i) rows) (sym input) stands;
    all = subst (λ i. is_taken s.course ≡ true → IsAtEnd (left i.source.now)) (sym input) end;
  }

  -- one more record was read of the bytes of another reader, and it means this
  abbrev pub ReadsOne : Records → Records → (Fields → Type 0) → Type 0
  ReadsOne old new means = (bytes : List ℕ) (rows : List Fields) → HasRead bytes old rows → (fields : Fields) × HasRead bytes new (rows ++ fields ∷ []) × means fields

  module _ (r s : RowReader S) (items : List LaneRow) (old : Box Records) (is : r.course ≡ course.Csv old) (input : s.input ≡ r.input) (of_lanes : s.lanes ≡ r.lanes)
      (count : s.count ≡ r.count) (gave : GaveRows left failed lanes lent r items) where
    -- what was read by a reader whose records `csv` reads, and where it stands
    pub of_csv : HasReadRows left failed lent r gave.0
    of_csv = subst (λ k. HasReadTo left failed lent r k gave.0) is gave.2

    pub csv_stands : StandsAfter (course.Csv old) of_csv.taken (held_of r.input) gave.0
    csv_stands = subst (λ k. StandsAfter k of_csv.taken (held_of r.input) gave.0) is of_csv.stands

    keeps : KeepsRows lanes s gave.0 items
    keeps = rows_kept r s gave.0 items of_lanes count gave.1

    -- `csv` has read one more record
    read_by_csv : (new : Box Records) (means : Fields → Type 0) → s.course ≡ course.Csv new → ReadsOne old.value new.value means
        → (fields : Fields) × HasReadRows left failed lent s (gave.0 ++ fields ∷ []) × means fields
    read_by_csv new means goes one =
        let (front, more, bytes, read, whole, all, few) = csv_stands in
        let next = one bytes more read in
        let fields = next.0 in (
          fields,
          has_read_as r s (gave.0 ++ fields ∷ []) of_csv.taken input of_csv.input
              (subst (λ k. StandsAfter k of_csv.taken (held_of r.input) (gave.0 ++ fields ∷ [])) (sym goes)
              (front, more ++ fields ∷ [], bytes, next.1, ap (λ rs. rs ++ fields ∷ []) whole ∙ append_assoc front more (fields ∷ []), all, few))
              (λ t. of_csv.all (ap is_taken is)),
          next.2,
        )

    -- that record means a row
    pub csv_told : (new : Box Records) (row : LaneRow) → s.course ≡ course.Csv new → row.0 < r.lanes
        → ReadsOne old.value new.value (λ fields. lanes_meaning r.lanes fields (Ok row)) → ReadRecord left failed lanes lent s items (Ok row)
    csv_told new row goes low one =
        let next = read_by_csv new (λ fields. lanes_meaning r.lanes fields (Ok row)) goes one in
        (gave.0, next.0, keeps, next.1, (subst (λ n. lanes_meaning n next.0 (Ok row)) gave.1.of_lanes next.2, subst (λ n. row.0 < n) gave.1.of_lanes low))

    -- or it is refused, or a growth is
    pub csv_refused : (new : Box Records) (refusal : RecordRefusal) → s.course ≡ course.Csv new
        → ((f : RecordFault) → refusal ≡ one.Record f → ReadsOne old.value new.value (λ fields. lanes_meaning r.lanes fields (Err f)))
        → ReadRecord left failed lanes lent s items (Err refusal)
    csv_refused new (one.Record f) goes why =
        let next = read_by_csv new (λ fields. lanes_meaning r.lanes fields (Err f)) goes (why f refl) in
        (gave.0, next.0, keeps, next.1, subst (λ n. lanes_meaning n next.0 (Err f)) gave.1.of_lanes next.2)
    csv_refused new one.NoMemory goes why = (gave.0, of_csv.taken, keeps, subst (λ i. HasTaken left failed lent i of_csv.taken) (sym input) of_csv.input)

    -- or there is no more: all were read
    pub csv_ended : s.course ≡ course.Ended → ((bytes : List ℕ) (rows : List Fields) → HasRead bytes old.value rows → rows ≡ records_of bytes)
        → GaveRows left failed lanes lent s items
    csv_ended ends end =
        let (front, more, bytes, read, whole, all, few) = csv_stands in
        let rows : gave.0 ≡ records_of of_csv.taken = whole ∙ ap (λ rs. front ++ rs) (end bytes more read) ∙ sym all in
        let long = few_rows (course.Csv old) of_csv.taken (held_of r.input) gave.0 csv_stands in
        let now = has_read_as r s gave.0 of_csv.taken input of_csv.input (subst (λ k. StandsAfter k of_csv.taken (held_of r.input) gave.0) (sym ends) (rows, long))
        (λ t. of_csv.all (ap is_taken is)) in
        (gave.0, keeps, subst (λ k. HasReadTo left failed lent s k gave.0) (sym ends) now)
