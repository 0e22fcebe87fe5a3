-- What `answers/rows.rt` gives to the hub and tells at the end, by the rows that were read (of specs/inner/ServedRows).
use Rattle.std.proofs.Common.{Err, Global, IfErr, IfOk, IfSome, List, None, Ok, Option, Result, Some, String, [], ap, arith, get_or, length, map, refl, replicate, set, string_bytes, subst, suc, sym, true, zero, length-append, ◌+◌, ◌-◌, ◌++◌, ◌<◌, ◌≤◌, ◌≡◌, ◌≢◌, ◌∙◌, ◌∷◌, ℕ, Bool}
use Rattle.std.specs.Borrow.{MutBor}
use Rattle.std.specs.Io.KnownBytes.{IsAtEnd}
use Rattle.std.specs.List.{AllZip, concat, range_with_len}
use Rattle.std.proofs.lemmas.List.FromFn.{get_or-map-range_with_len, length-map-range_with_len}
use Rattle.std.proofs.lemmas.List.{nil_from_length}
use Rattle.std.proofs.lemmas.Slice.Zip.{AllZip-long}
use Rattle.scan_core.specs.Answers.{Reads}
use Rattle.lane_core.specs.declared.job.Plain.{Plain}
use Rattle.hub_core.specs.Laws.{AnswersAreRead, AreAnswersOf}
use Rattle.hub_core.specs.Serving.{served}
use Rattle.hub_core.specs.Traffics.{Gives, HasRoom, IfLost, IsKept, IsServed, IsServedUpTo, with_more}
use Rattle.hub_core.specs.declared.ended.Ended.{Ended}
use Rattle.hub_core.specs.declared.ended.Ended.TheVariants as ended
use Rattle.command_runs.specs.inner.AnswerLines.{AreLinesOf}
use Rattle.command_runs.specs.answers.Reports.{IsReport}
use Rattle.command_runs.specs.inner.RowReaders.{GaveNext, GaveRows, GivesNextRow, HasReadRows, HasReadTo, IsRefusedFor, StandsAfter, is_taken}
use Rattle.command_runs.specs.inner.HeldInputs.{held_of}
use Rattle.std.proofs.lemmas.Bool.{true≢false}
use Rattle.csv_records.specs.declared.input.fault.RecordsFault.{RecordsFault}
use Rattle.csv_records.specs.declared.input.fault.RecordsFault.TheVariants as refused
use Rattle.command_runs.specs.answers.Rows.{AnswersRows, RefusesRows}
use Rattle.command_runs.specs.Runs.{TellsFault}
use Rattle.command_runs.specs.declared.answers.rows.RowsFault.{RowsFault}
use Rattle.command_runs.specs.declared.answers.rows.RowsFault.TheVariants as rows_fault
use Rattle.command_runs.specs.inner.ServedRows.{HasGiven, IsToldOf, is_ended}
use Rattle.csv_records.specs.input.Records.{AreItems, Fields, Refuses, Takes, most_bytes, records_of}
use Rattle.csv_records.specs.lanes.Feeds.{LaneRow, feed_of, feeds_of, lanes_meaning}
use Rattle.command_runs.specs.declared.answers.row_reader.Course.{Course}
use Rattle.command_runs.specs.declared.answers.row_reader.Course.TheVariants as course
use Rattle.command_runs.specs.declared.answers.row_reader.RowReader.{RowReader}
use Rattle.command_runs.specs.declared.answers.rows.RecordRows.{RecordRows}
use Rattle.command_runs.proofs.answers.LinesAsBrought.{rowless}
use Rattle.command_runs.proofs.answers.FeedsGrow.{feed_short, feeds_more}
use Rattle.element_core.specs.Terms.{Terms}

-- of no records no lane has a row
no_rows_from : (first n : ℕ) → replicate n [] ≡ map (λ lane. feed_of lane []) (range_with_len first n)
no_rows_from first zero = refl
no_rows_from first (suc n) = ap (λ t. [] ∷ t) (no_rows_from (first + 1) n)

pub no_records_no_rows : (lanes : ℕ) → replicate lanes [] ≡ feeds_of lanes []
no_records_no_rows lanes = no_rows_from 0 lanes

-- and the report is empty
pub no_report : (year : Terms) (lanes : ℕ) (text : List ℕ) → text ≡ [] → IsReport year (feeds_of lanes []) text
no_report year lanes text is =
    rowless (λ lane. feed_of lane []) year (range_with_len 0 lanes) text (λ k d low. refl) is

-- the next row is given
pub row_given : {S : Type 0} (left : S → Option (List ℕ)) (failed : S → Bool) (start old new : RecordRows S) (given : List (List (List ℕ)))
    (brought : List (List Plain)) (row : LaneRow)
    → new.texts ≡ old.texts → GivesNextRow left failed old.rows (Some row) new.rows → HasGiven left failed start old given brought
    → HasRoom row.0 given × HasGiven left failed start new (with_more row.0 row.1 given) brought
row_given left failed start old new given brought row texts gives was =
    let lanes = start.rows.lanes in
    let next = gives lanes start.rows.input.source was.items was.gave in
    let many = AllZip-long _ was.gave.0 was.items was.gave.1.means in
    let few = was.gave.1.few in
    let short = feed_short was.items row.0 in
    let at : get_or given row.0 [] ≡ feed_of row.0 was.items =
    ap (λ g. get_or g row.0 []) was.fed ∙ get_or-map-range_with_len (λ lane. feed_of lane was.items) 0 lanes row.0 row.0 [] next.0 (omega arith) in
    let count : length given ≡ lanes = ap length was.fed ∙ length-map-range_with_len (λ lane. feed_of lane was.items) 0 lanes in (
      (omega (arith, next.0, count), omega (arith, ap length at, short, many, few)),
      record {
        items = was.items ++ row ∷ [];
        gave = next.1;
        fed = ap (λ feed. set given row.0 (feed ++ row.1 ∷ [])) at ∙ ap (λ g. set g row.0 (feed_of row.0 was.items ++ row.1 ∷ [])) was.fed
            ∙ feeds_more lanes was.items row next.0;
        lines = subst (λ t. AreLinesOf brought (map string_bytes t.items)) (sym texts) was.lines;
      },
    )

-- no row is given, and what was given and brought is the same
pub no_row_given : {S : Type 0} (left : S → Option (List ℕ)) (failed : S → Bool) (start old new : RecordRows S) (given : List (List (List ℕ)))
    (brought : List (List Plain)) → new.texts ≡ old.texts → GivesNextRow left failed old.rows None new.rows → HasGiven left failed start old given brought
    → HasGiven left failed start new given brought
no_row_given left failed start old new given brought texts gives was = record {
  items = was.items;
  gave = gives start.rows.lanes start.rows.input.source was.items was.gave;
  fed = was.fed;
  lines = subst (λ t. AreLinesOf brought (map string_bytes t.items)) (sym texts) was.lines;
}

module _ {S : Type 0} (left : S → Option (List ℕ)) (failed : S → Bool) (lanes : ℕ) (lent : MutBor S) (r : RowReader S) where
  -- at the end all records of what the source gave were read
  all_read : (rows : List Fields) (k : Course) → r.course ≡ k → is_ended k ≡ true → HasReadTo left failed lent r k rows
      → (h : HasReadRows left failed lent r rows) × (rows ≡ records_of h.taken) × IsAtEnd (left r.input.source.now)
  all_read rows course.Ended same is come =
      (come, (subst (λ c. StandsAfter c come.taken (held_of r.input) rows) same come.stands).0, come.all (ap is_taken same))
  all_read rows course.Lines same is come = cc is
  all_read rows course.LastLine same is come = cc is
  all_read rows (course.Csv records) same is come = cc is
  all_read rows (course.Refused fault) same is come = cc is

  -- so the source is taken
  pub taken_at_end : (items : List LaneRow) (made : List LaneRow → Type 0) → is_ended r.course ≡ true → GaveRows left failed lanes lent r items → made items
      → Takes (lanes_meaning lanes) made (left lent.now) (left r.input.source.now)
  taken_at_end items made is gave of_items =
      let all = all_read gave.0 r.course refl is gave.2 in
      let room = all.0.input.room in (
        all.0.taken,
        (all.0.input.came, all.2),
        items,
        (omega (arith, room), subst (λ rows. AreItems (lanes_meaning lanes) rows items) all.1 gave.1.means),
        of_items,
      )

  -- the source is the one that was lent
  source_by_course : (rows : List Fields) (k : Course) → HasReadTo left failed lent r k rows → r.input.source.ghost_name ≡ lent.ghost_name
  source_by_course rows course.Lines come = come.input.same
  source_by_course rows course.LastLine come = come.input.same
  source_by_course rows (course.Csv records) come = come.input.same
  source_by_course rows course.Ended come = come.input.same
  source_by_course rows (course.Refused fault) come = come.same

  pub same_source : (items : List LaneRow) → GaveRows left failed lanes lent r items → r.input.source.ghost_name ≡ lent.ghost_name
  same_source items gave = source_by_course gave.0 r.course gave.2

  -- each of them was counted, and there is at most one more than an input may have bytes
  pub rows_counted : (items : List LaneRow) → GaveRows left failed lanes lent r items → (r.count ≡ length items) × (r.count ≤ most_bytes + 1)
  rows_counted items gave = (omega (arith, AllZip-long _ gave.0 items gave.1.means, gave.1.count), omega (arith, gave.1.count, gave.1.few))

  -- whether a next row was given or not, some rows were
  pub gave_any : (items : List LaneRow) (next : Option LaneRow) → GaveNext left failed lanes lent next r items → (all : List LaneRow) × GaveRows left failed lanes lent r all
  gave_any items None gave = (items, gave)
  gave_any items (Some row) gave = (items ++ row ∷ [], gave.1)

  -- ---- what is told if not all rows are answered

  -- no read has failed, and no failed read is told
  told_as : (rows : List Fields) (told : Result (String Global) RowsFault) → HasReadRows left failed lent r rows → (told ≡ Err (rows_fault.Records refused.ReadFault) → ⊥)
      → IfOk told (λ lines. (string_bytes lines ≡ []) × Takes (lanes_meaning lanes) (λ items. items ≡ []) (left lent.now) (left r.input.source.now))
      → IfErr told (RefusesRows lanes (left lent.now) (left r.input.source.now)) → IsToldOf left failed lanes lent r told
  told_as rows told has other nothing why = record {
    same = has.input.same;
    nothing = nothing;
    why = why;
    fault = λ none. (λ e. absurd (other e), λ t. absurd (true≢false (sym t ∙ has.input.works ∙ none)));
  }

  -- a growth may be refused at any time
  pub told_memory : (rows : List Fields) → HasReadRows left failed lent r rows → IsToldOf left failed lanes lent r (Err (rows_fault.Records refused.NoMemory))
  told_memory rows has = told_as rows (Err (rows_fault.Records refused.NoMemory)) has (λ e. cc e) tt tt

  -- the source was refused
  pub told_refused : (items : List LaneRow) (fault : RecordsFault) → r.course ≡ course.Refused fault → GaveRows left failed lanes lent r items
      → IsToldOf left failed lanes lent r (Err (rows_fault.Records fault))
  told_refused items fault is gave =
      let come : IsRefusedFor left failed r.lanes lent r.input fault = subst (λ k. HasReadTo left failed lent r k gave.0) is gave.2 in
      record {
        same = come.same;
        nothing = tt;
        why = subst (λ n. Refuses (lanes_meaning n) (left lent.now) (left r.input.source.now) fault) gave.1.of_lanes come.refuses;
        fault = λ none. (λ e. (come.fails none).0 (same e), λ t. ap (λ f. Err (rows_fault.Records f)) ((come.fails none).1 t));
      }
    where
      same : ◌≡◌ {A = Result (String Global) RowsFault} (Err (rows_fault.Records fault)) (Err (rows_fault.Records refused.ReadFault)) → fault ≡ refused.ReadFault
      same e = cc e

  module _ (items : List LaneRow) (is : r.course ≡ course.Ended) (gave : GaveRows left failed lanes lent r items) where
    pub rows_at_end : HasReadRows left failed lent r gave.0
    rows_at_end = subst (λ k. HasReadTo left failed lent r k gave.0) is gave.2

    -- if there is none, the report is empty
    pub told_nothing : (text : String Global) → string_bytes text ≡ [] → r.count ≡ 0 → IsToldOf left failed lanes lent r (Ok text)
    told_nothing text empty none =
        told_as gave.0 (Ok text) rows_at_end (λ e. cc e) (empty, taken_at_end items (λ items. items ≡ []) (ap is_ended is) gave (nil_from_length items (sym (rows_counted items gave).0 ∙ none))) tt

    -- if there is one, a thread may be why it has no answer
    pub told_thread : (r.count ≡ 0 → ⊥) → IsToldOf left failed lanes lent r (Err rows_fault.NoThread)
    told_thread some =
        told_as gave.0 (Err rows_fault.NoThread) rows_at_end (λ e. cc e) tt
        (taken_at_end items (λ items. items ≢ []) (ap is_ended is) gave (λ none. some ((rows_counted items gave).0 ∙ ap length none)))

-- with each row that is given, fewer are left
pub fewer_left : {S : Type 0} (left : S → Option (List ℕ)) (failed : S → Bool) (lanes : ℕ) (lent : MutBor S) (r s : RowReader S) (items : List LaneRow)
    (row : LaneRow) → GaveRows left failed lanes lent r items → GaveNext left failed lanes lent (Some row) s items
    → most_bytes + 2 - s.count < most_bytes + 2 - r.count
fewer_left left failed lanes lent r s items row was next =
    let old = rows_counted left failed lanes lent r items was in
    let new = rows_counted left failed lanes lent s (items ++ row ∷ []) next.1 in
    omega (arith, old.0, new.0, new.1, length-append items (row ∷ []))

-- ---- what was served, and what `next` gives

-- once all rows were read and brought, the texts are the report
pub reported : (year : Terms) (lanes : ℕ) (items : List LaneRow) (given : List (List (List ℕ))) (brought : List (List Plain)) (texts : List (List ℕ))
    → AnswersAreRead → given ≡ feeds_of lanes items → AreLinesOf brought texts → brought ≡ served year given
    → IsReport year (feeds_of lanes items) (concat texts)
reported year lanes items given brought texts law fed lines all =
    let read = law year given lines.0 (subst (λ lists. AllZip AreAnswersOf lists lines.0) all lines.1) in
    (lines.0, subst (λ feeds. AllZip (λ rows answers. Reads rows year answers) feeds lines.0) fed read, ap concat lines.2)

-- what `next` promises of a row, if it gives one
pub gives_if : {S : Type 0} (left : S → Option (List ℕ)) (failed : S → Bool) (old new : RecordRows S) (next : Option LaneRow)
    → new.texts ≡ old.texts → GivesNextRow left failed old.rows next new.rows
    → IfSome next (λ r. Gives (λ start s given brought. HasGiven left failed start s given brought) r old new)
gives_if left failed old new None texts gives = tt
gives_if left failed old new (Some row) texts gives = λ start given brought was. row_given left failed start old new given brought row texts gives was

-- however the serving ends, some rows were given
pub rows_of_end : {S W B : Type 0} (left : S → Option (List ℕ)) (failed : S → Bool) (year : Terms) (start now : RecordRows S) (ended : Ended W B)
    → (IsKept ended → IsServed (λ start s given brought. HasGiven left failed start s given brought) (λ s. is_ended s.rows.course) year start now ended)
    → IfLost ended (IsServedUpTo (λ start s given brought. HasGiven left failed start s given brought) (λ s t. t.rows ≡ s.rows) year start now)
    → (items : List LaneRow) × GaveRows left failed start.rows.lanes start.rows.input.source now.rows items
rows_of_end left failed year start now (ended.BringFailed fault) served lost =
    let (before, given, brought, was, first, leaves) = lost in
    (was.items, subst (λ r. GaveRows left failed start.rows.lanes start.rows.input.source r was.items) (sym leaves) was.gave)
rows_of_end left failed year start now ended.Done served lost = let was = (served tt).2 in (was.items, was.gave)
rows_of_end left failed year start now ended.NoMemory served lost = let was = (served tt).2 in (was.items, was.gave)
rows_of_end left failed year start now (ended.WaitFailed fault) served lost = let was = (served tt).2 in (was.items, was.gave)

-- ---- what `answer_records` tells

-- how the rows of a source that was lent are answered: what `answer_records` promises, in the same words
pub record HasAnswered {S : Type 0} (left : S → Option (List ℕ)) (failed : S → Bool) (lanes : ℕ) (year : Terms) (was now : S) (told : Result (String Global) RowsFault)
    : Type 0 where
  pub report : IfOk told (λ lines. AnswersRows lanes year (left was) (left now) (string_bytes lines))
  pub why : IfErr told (RefusesRows lanes (left was) (left now))
  pub fault : TellsFault failed was now told (rows_fault.Records refused.ReadFault)

module _ {S : Type 0} (left : S → Option (List ℕ)) (failed : S → Bool) (lanes : ℕ) (year : Terms) (lent : MutBor S) (r : RowReader S) where
  -- all were read: nothing has failed
  ended_works : (items : List LaneRow) (k : Course) → r.course ≡ k → is_ended k ≡ true → GaveRows left failed lanes lent r items
      → failed r.input.source.now ≡ failed lent.now
  ended_works items k same is gave = (all_read left failed lanes lent r gave.0 k same is (subst (λ k. HasReadTo left failed lent r k gave.0) same gave.2)).0.input.works

  -- all rows were answered, and the lines joined
  pub answered_all : (items : List LaneRow) (lines : String Global) (texts : List (List ℕ)) → GaveRows left failed lanes lent r items → is_ended r.course ≡ true
      → IsReport year (feeds_of lanes items) (concat texts) → string_bytes lines ≡ concat texts → HasAnswered left failed lanes year lent.now r.input.source.now (Ok lines)
  answered_all items lines texts gave is report same = record {
    report = taken_at_end left failed lanes lent r items (λ items. IsReport year (feeds_of lanes items) (string_bytes lines)) is gave
        (subst (IsReport year (feeds_of lanes items)) (sym same) report);
    why = tt;
    fault = λ none. (λ e. cc e, λ t. absurd (true≢false (sym t ∙ ended_works items r.course refl is gave ∙ none)));
  }

  -- or the memory to join them was refused
  pub not_joined : (items : List LaneRow) → GaveRows left failed lanes lent r items → is_ended r.course ≡ true
      → HasAnswered left failed lanes year lent.now r.input.source.now (Err (rows_fault.Records refused.NoMemory))
  not_joined items gave is = record {
    report = tt;
    why = tt;
    fault = λ none. (λ e. cc e, λ t. absurd (true≢false (sym t ∙ ended_works items r.course refl is gave ∙ none)));
  }

  -- or not all were answered
  pub answered_as_told : (told : Result (String Global) RowsFault) → IsToldOf left failed lanes lent r told
      → HasAnswered left failed lanes year lent.now r.input.source.now told
  answered_as_told (Ok lines) is = record {
    report = let (empty, takes) = is.nothing in
        let (bytes, gave, items, mean, none) = takes in
        (bytes, gave, items, mean, subst (λ rows. IsReport year (feeds_of lanes rows) (string_bytes lines)) (sym none) (no_report year lanes (string_bytes lines) empty));
    why = tt;
    fault = is.fault;
  }
  answered_as_told (Err fault) is = record { report = tt; why = is.why; fault = is.fault }
