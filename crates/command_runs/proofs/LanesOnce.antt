-- `lanes` writes one text at most of the same bytes (`one_lanes`): bytes mean one list of items if each record means one (also for `PrintOnce`).
use Rattle.std.proofs.Common.{◌≡◌, ◌==◌, ◌&&◌, ◌%◌, ◌∙◌, ◌∷◌, Bool, Err, List, None, Ok, Option, Result, Some, [], ap, false, if◌then◌else◌, length, map, nat_le, refl, subst, sum, sym, true, ℕ}
use Rattle.std.specs.List.{AllByRecursion, AllZip, list_all, range_with_len}
use Rattle.std.specs.Str.Parse.{digits_value}
use Rattle.scan_core.specs.Answers.{IsAnswer, Reads}
use Rattle.scan_core.specs.Laws.{OneAnswer, RowOrFault}
use Rattle.scan_core.specs.Row.{IsRow, inner, runs_fault}
use Rattle.scan_core.specs.declared.answer.Answer.{Answer}
use Rattle.command_runs.specs.answers.Reports.{report}
use Rattle.csv_records.specs.input.Records.{AreItems, Fields, Mean, Meaning, records_of}
use Rattle.csv_records.specs.lanes.Feeds.{LaneRow, feed_of, feeds_of, is_lane, lane_row, lanes_meaning, row_or}
use Rattle.csv_records.specs.lanes.Widths.{are_widths, field_fault, widths_in, words_of}
use Rattle.csv_records.specs.declared.input.fault.RecordFault.{RecordFault}
use Rattle.csv_records.specs.declared.input.fault.RecordFault.TheVariants as fault
use Rattle.command_runs.specs.commands.Lanes.{OneLanes}
use Rattle.element_core.specs.Terms.{Terms}
use Rattle.command_runs.proofs.ListsBeside.{same_beside, same_where}

-- where each record means one item at most, bytes mean one list of items
pub mean_once : {Item : Type 0} (means : Meaning Item) → ((fields : Fields) (x y : Item) → means fields (Ok x) → means fields (Ok y) → x ≡ y)
    → (bytes : List ℕ) (xs ys : List Item) → Mean means bytes xs → Mean means bytes ys → xs ≡ ys
mean_once means one bytes xs ys h k = same_beside (λ fields item. means fields (Ok item)) one (records_of bytes) xs ys h.1 k.1

-- ---- lanes

-- a field without a fault shows widths without one; b, c and d are the tests of `field_fault` and `runs_fault`
no_run_fault : (ws : List ℕ) (b c d : Bool) → are_widths (words_of ws) ≡ b → ((length (widths_in ws) % 2 == 1) && list_all (λ w. nat_le 1 w) (inner (widths_in ws)))
    ≡ c
    → nat_le (sum (widths_in ws)) 65535 ≡ d → field_fault ws ≡ None → runs_fault (widths_in ws) ≡ None
no_run_fault ws true true true words spaced small h = rw (spaced, small) refl
no_run_fault ws true true false words spaced small h = cc (rw (words, spaced, small) at h)
no_run_fault ws true false d words spaced small h = cc (rw (words, spaced) at h)
no_run_fault ws false c d words spaced small h = cc (rw words at h)

-- a result gives one row
item_of : (x y : LaneRow) (r : Result LaneRow RecordFault) → r ≡ Ok y → Ok x ≡ r → x ≡ y
item_of x y r is e = cc (is, e)

module _ (row : RowOrFault) where
  -- b is whether the lane is one, o the fault of the widths
  row_by : (b : Bool) (o : Option RecordFault) (widths : List ℕ) (lane : ℕ) (x : LaneRow) → field_fault widths ≡ o
      → Ok x ≡ (if b then row_or o (lane, widths_in widths) else Err fault.BadLane) → IsRow x.1
  row_by true None widths lane x e h =
      let is = item_of x (lane, widths_in widths) (Ok (lane, widths_in widths)) refl h in
      let good = (row (widths_in widths)).1 (no_run_fault widths _ _ _ refl refl refl e) in
      subst (λ (r : LaneRow). IsRow r.1) (sym is) good
  row_by true (Some f) widths lane x e h = cc h
  row_by false o widths lane x e h = cc h

  -- what a record means to `lanes` is a row
  item_row : (lanes : ℕ) (fields : Fields) (x : LaneRow) → lanes_meaning lanes fields (Ok x) → IsRow x.1
  item_row lanes [] x h = cc h
  item_row lanes (a ∷ []) x h = cc h
  item_row lanes (lane ∷ widths ∷ []) x h = row_by (is_lane lanes lane) (field_fault widths) widths (digits_value 10 lane) x refl h
  item_row lanes (a ∷ b ∷ c ∷ more) x h = cc h

  -- and what records mean is rows
  item_rows : (lanes : ℕ) (rows : List Fields) (items : List LaneRow) → AreItems (lanes_meaning lanes) rows items
      → AllByRecursion (λ (x : LaneRow). IsRow x.1) items
  item_rows lanes [] [] h = tt
  item_rows lanes [] (x ∷ items) h = absurd h
  item_rows lanes (r ∷ rows) [] h = absurd h
  item_rows lanes (r ∷ rows) (x ∷ items) h = (item_row lanes r x h.0, item_rows lanes rows items h.1)

-- so what a lane gets of them is rows
feed_rows : (lane : ℕ) (items : List LaneRow) → AllByRecursion (λ (x : LaneRow). IsRow x.1) items → AllByRecursion IsRow (feed_of lane items)
feed_rows lane [] h = tt
feed_rows lane (x ∷ items) h = by (x.0 == lane) refl (feed_rows lane items h.1)
  where
    by : (b : Bool) → (x.0 == lane) ≡ b → AllByRecursion IsRow (feed_of lane items) → AllByRecursion IsRow (feed_of lane (x ∷ items))
    by true e rest = rw e (h.0, rest)
    by false e rest = rw e rest

-- what is true of each `f k` is true of all that f makes of numbers
each_mapped : {Y : Type 0} (P : Y → Type 0) (f : ℕ → Y) → ((k : ℕ) → P (f k)) → (ks : List ℕ) → AllByRecursion P (map f ks)
each_mapped P f each [] = tt
each_mapped P f each (k ∷ ks) = (each k, each_mapped P f each ks)

-- rows have one list of answers
rows_read_once : OneAnswer → (year : Terms) (rows : List (List ℕ)) (x y : List Answer) → AllByRecursion IsRow rows → Reads rows year x → Reads rows year y → x ≡ y
rows_read_once one year rows x y are h k = same_where (λ runs answer. IsAnswer runs year answer) IsRow (λ runs a b is p q. one runs year a b is p q) rows x y are h
    k

pub one_lanes : RowOrFault → OneAnswer → OneLanes
one_lanes row one o bytes text other h k =
    let R : List (List ℕ) → List Answer → Type 0 = λ rows read. Reads rows o.year read in
    let same = mean_once (lanes_meaning o.lanes) (λ fields x y p q. item_of x y (lane_row o.lanes fields) (sym q) p) bytes k.0 h.0 k.1 h.1 in
    let feeds = feeds_of o.lanes h.0 in
    let rows = item_rows row o.lanes (records_of bytes) h.0 h.1.1 in
    let are = each_mapped (λ feed. AllByRecursion IsRow feed) (λ lane. feed_of lane h.0) (λ lane. feed_rows lane h.0 rows) (range_with_len 0 o.lanes) in
    let answered = subst (λ items. AllZip R (feeds_of o.lanes items) k.2.0) same k.2.1 in
    h.2.2 ∙ ap report (same_where R (λ feed. AllByRecursion IsRow feed) (λ feed x y is p q. rows_read_once one o.year feed x y is p q) feeds h.2.0 k.2.0 are h.2.1
    answered) ∙ sym k.2.2
