-- The answers of a live input are those of `lanes` in another order, for `lines_are_report`.
use Rattle.element_core.specs.declared.form.Form.TheVariants as form
use Rattle.command_runs.proofs.live.Words.{AllZip, Answer, AreItems, Each, IsAnswer, IsLaneRowLine, IsReply, LaneLine, LaneRow, LinesAreReport, List, Meant, MessagesAreNoRows, Numbers, Ok, Reads, Terms, [], ap, arith, cases_eq, concat, cons_option, eq-eqb, feed_of, fields_in, filter, filter_map, get_or-map-range_with_len, has_byte, lane_lines, lanes_meaning, le-ltb, length, length-map-range_with_len, line_meant, line_of, lines_from, lt-ltb, map, most_line, most_rows, nat_tests, ne_eqb, one_later, pieces_of, range_with_len, record_lines, recursion_from_All, refl, replies_from, subst, suc, sym, text_meant, without_return, zero, ℕ, ⊎_elim, ◌++◌, ◌+◌, ◌<◌, ◌==◌, ◌∙◌, ◌∷◌, ◌≡◌, ◌≢◌, ◌≤◌}
use Rattle.command_runs.proofs.live.RecordsAreLines.{lines_are_records}
use Rattle.command_runs.proofs.live.LineMeanings.{row_meant}

-- ---- what the lines mean

-- a line that is not too long
abbrev IsShort : List ℕ → Type 0
IsShort line = length line ≤ most_line

-- that rows are meant: each record is a row, and none a message or refused
abbrev meants : List LaneRow → List Meant
meants rows = map (λ row. Ok row) rows

module _ (lanes : ℕ) where
  abbrev IsLow : LaneRow → Type 0
  IsLow row = row.0 < lanes

  -- if these are the records of lines that are not too long, and mean rows to `lanes`, they mean them to `live`
  abbrev MeanRows : List (List ℕ) → List Meant → List LaneRow → Type 0
  MeanRows texts ms rows = Each IsShort (filter has_byte texts) → AreItems (lanes_meaning lanes) (map fields_in (filter has_byte texts)) rows
      → (ms ≡ meants rows) × Each IsLow rows

  -- one line more, and all
  text_more : MessagesAreNoRows → (text : List ℕ) (texts : List (List ℕ)) (ms : List Meant) (rows : List LaneRow) → ((later : List LaneRow) → MeanRows texts ms later)
      → MeanRows (text ∷ texts) (cons_option (text_meant lanes text) ms) rows
  text_more law [] texts ms rows mean short are = mean rows short are
  text_more law (b ∷ text) texts ms [] mean short are = absurd are
  text_more law (b ∷ text) texts ms (row ∷ rows) mean short are =
      let here = row_meant lanes row law (b ∷ text) are.0 in
      let rest = mean rows short.1 are.1 in
      (rw (le-ltb most_line (length (b ∷ text)) short.0, here.0) (ap (λ ns. Ok row ∷ ns) rest.0), (here.1, rest.1))

  lines_mean : MessagesAreNoRows → (lines : List (List ℕ)) (rows : List LaneRow) → MeanRows (map without_return lines) (filter_map (line_meant lanes) lines) rows
  lines_mean law [] [] short are = (refl, tt)
  lines_mean law [] (row ∷ rows) short are = absurd are
  lines_mean law (line ∷ lines) rows short are =
      text_more law (without_return line) (map without_return lines) (filter_map (line_meant lanes) lines) rows (lines_mean law lines) short are

-- ---- their answers

-- what stands beside a lane: `feed_of`, of any items
abbrev beside_lane : {X : Type 0} → ℕ → List (ℕ × X) → List X
beside_lane lane xs = map (λ x. x.1) (filter (λ x. x.0 == lane) xs)

-- no lane has more rows than numbers are left
abbrev FitNumbers : ℕ → Numbers → List LaneRow → Type 0
FitNumbers lanes next rows = (l : ℕ) → l < lanes → next l + length (feed_of l rows) ≤ most_rows

-- a row's number is left, and so are those of the rows after it
fits_rest : (lanes : ℕ) (next : Numbers) (row : LaneRow) (rows : List LaneRow) → row.0 < lanes → FitNumbers lanes next (row ∷ rows)
    → (next row.0 < most_rows) × FitNumbers lanes (one_later row.0 next) rows
fits_rest lanes next row rows low fits =
    ((let all = fits row.0 low in grind (arith, nat_tests)), λ l small. let all = fits l small in grind (arith, nat_tests))

-- of a lane these are the answers to its rows, and its lines are theirs from its next number on
abbrev LaneIsAnswered : Terms → Numbers → List LaneRow → List LaneLine → List (ℕ × Answer) → ℕ → Type 0
LaneIsAnswered year next rows lines answers l = Reads (feed_of l rows) year (beside_lane l answers)
    × (concat (feed_of l lines) ≡ lines_from l (next l) (beside_lane l answers))

-- a row before others
one_first : (year : Terms) (next : Numbers) (row : LaneRow) (rows : List LaneRow) (text : List ℕ) (lines : List LaneLine) (a : Answer)
    (answers : List (ℕ × Answer)) → IsAnswer row.1 year a × (text ≡ line_of row.0 (next row.0) a) → (l : ℕ) → LaneIsAnswered year (one_later row.0 next) rows lines answers l
    → LaneIsAnswered year next (row ∷ rows) ((row.0, text) ∷ lines) ((row.0, a) ∷ answers) l
one_first year next row rows text lines a answers is l are = ⊎_elim
    (λ (e : l ≡ row.0). let on = rw (eq-eqb l row.0 e) at are in rw (eq-eqb row.0 l (sym e)) (
      (is.0, on.0),
      ap (λ t. t ++ concat (feed_of l lines)) (is.1 ∙ ap (λ k. line_of k (next k) a) (sym e)) ∙ ap (λ ts. line_of l (next l) a ++ ts) on.1,
    ))
    (λ (e : l ≢ row.0). rw (ne_eqb row.0 l (λ s. e (sym s))) (rw (ne_eqb l row.0 e) at are))
    (cases_eq l row.0)

-- the lines of rows from these numbers on, and the answers in them
record AreOrdered (year : Terms) (next : Numbers) (rows : List LaneRow) (texts : List (List ℕ)) : Type 0 where
  lines : List LaneLine
  answers : List (ℕ × Answer)
  whole : texts ≡ map (λ line. line.1) lines
  each : AllZip (IsLaneRowLine year) rows lines
  answered : (l : ℕ) → LaneIsAnswered year next rows lines answers l

module _ (lanes : ℕ) (year : Terms) where
  -- what is written for rows
  ordered : (rows : List LaneRow) (next : Numbers) (texts : List (List ℕ)) → Each (IsLow lanes) rows → FitNumbers lanes next rows
      → AllZip (IsReply year form.HumanReadable) (replies_from next (meants rows)) texts → AreOrdered year next rows texts
  ordered [] next [] low fits are = record { lines = []; answers = []; whole = refl; each = tt; answered = λ l. (tt, refl) }
  ordered [] next (text ∷ texts) low fits are = absurd are
  ordered (row ∷ rows) next [] low fits are = absurd are
  ordered (row ∷ rows) next (text ∷ texts) low fits are =
      let (left, rest) = fits_rest lanes next row rows low.0 fits in
      let (now, others) = rw (lt-ltb (next row.0) most_rows left) at are in
      let later = ordered rows (one_later row.0 next) texts low.1 rest others in
      record {
        lines = (row.0, text) ∷ later.lines;
        answers = (row.0, now.0) ∷ later.answers;
        whole = ap (λ ts. text ∷ ts) later.whole;
        each = ((refl, next row.0, now.0, now.1, now.2), later.each);
        answered = λ l. one_first year next row rows text later.lines now.0 later.answers (now.1, now.2) l (later.answered l);
      }

  module _ (rows : List LaneRow) (texts : List (List ℕ)) (o : AreOrdered year (λ lane. 0) rows texts) where
    -- what is said of this many lanes, from the first on, and their lines are those of the report
    abbrev said : ℕ → ℕ → List (List Answer)
    said first n = map (λ l. beside_lane l o.answers) (range_with_len first n)

    reported : (first n : ℕ) → AllZip (λ rows read. Reads rows year read) (map (λ l. feed_of l rows) (range_with_len first n)) (said first n)
        × (concat (map concat (map (λ l. feed_of l o.lines) (range_with_len first n))) ≡ concat (lane_lines first (said first n)))
    reported first zero = (tt, refl)
    reported first (suc n) =
        let (reads, same) = reported (first + 1) n in
        let here = o.answered first in
        ((here.0, reads), cc (here.1, same))

pub lines_are_report : MessagesAreNoRows → LinesAreReport
lines_are_report law lanes year bytes text rows plain short items few answers =
    let items = subst (λ rs. AreItems (lanes_meaning lanes) rs rows) (lines_are_records bytes plain) items in
    let meant = lines_mean lanes law (pieces_of bytes) rows (recursion_from_All IsShort (record_lines bytes) short) items in
    let are = subst (λ ms. AllZip (IsReply year form.HumanReadable) (replies_from (λ lane. 0) ms) answers.0) meant.0 answers.1 in
    let fits : (l : ℕ) → l < lanes → 0 + length (feed_of l rows) ≤ most_rows = λ l small.
    let here = few l [] (omega (arith, small, length-map-range_with_len (λ lane. feed_of lane rows) 0 lanes)) in
    let same = get_or-map-range_with_len (λ lane. feed_of lane rows) 0 lanes l l [] small (omega arith) in
    omega (arith, here, ap length same) in
    let o = ordered lanes year rows (λ lane. 0) answers.0 meant.1 fits are in
    let report = reported lanes year rows answers.0 o 0 lanes in
    record {
      lines = o.lines;
      whole = answers.2 ∙ ap concat o.whole;
      each = o.each;
      report = (said lanes year rows answers.0 o 0 lanes, report.0, report.1);
    }
