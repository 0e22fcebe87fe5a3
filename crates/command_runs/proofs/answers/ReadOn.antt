-- Which records are left when lines are cut off what is held, a piece comes or the rest goes to `csv` (for `row_reader.rt`): the lines of a plain text
-- before a line feed are records, whatever follows.
use Rattle.std.proofs.Common.{Bool, Err, List, Ok, Option, Result, [], ap, append_assoc, arith, cond, drop, false, length, length-append, map, refl, subst, sym, take, true, ℕ, ◌+◌, ◌++◌, ◌==◌, ◌&&◌, ◌≡◌, ◌≤◌, ◌∙◌, ◌∷◌}
use Rattle.std.proofs.lemmas.List.{take-append-drop}
use Rattle.std.proofs.lemmas.List.Elements.{All-drop, All-nil, All-take}
use Rattle.command_runs.specs.inner.HeldInputs.{HoldsMore, held_of}
use Rattle.command_runs.specs.inner.RowReaders.{GoesOnAs, GoesToCsv, HasCut}
use Rattle.digits_core.specs.declared.source.InputFault.{InputFault}
use Rattle.command_runs.proofs.answers.PlainBytes.{empty_no_mark}
use Rattle.command_runs.proofs.answers.TakenAddsUp.{stops_later}
use Rattle.command_runs.specs.declared.answers.row_reader.Course.{Course}
use Rattle.command_runs.specs.declared.answers.held_input.HeldInput.{HeldInput}
use Rattle.command_runs.specs.live.Laws.{IsPlain, ReturnsEndLines, record_lines}
use Rattle.command_runs.specs.live.Text.{fields_in}
use Rattle.csv_records.specs.input.Records.{Fields, records_of}
use Rattle.csv.specs.Reading.{default_config, is_bom, records, strip_bom}
use Rattle.command_runs.proofs.live.RecordsAreLines.{before_feed}

-- ---- a text and its mark

-- a mark is none if one of its bytes is another
other_second : (x z : Bool) (rest whole : List ℕ) → cond (x && false && z) rest whole ≡ whole
other_second true true rest whole = refl
other_second true false rest whole = refl
other_second false true rest whole = refl
other_second false false rest whole = refl

other_third : (x y : Bool) (rest whole : List ℕ) → cond (x && y && false) rest whole ≡ whole
other_third true true rest whole = refl
other_third true false rest whole = refl
other_third false true rest whole = refl
other_third false false rest whole = refl

-- a text that begins with a line feed, 10, has no mark
feed_first : (rest : List ℕ) → strip_bom (10 ∷ rest) ≡ 10 ∷ rest
unfolding strip_bom
feed_first [] = refl
feed_first (b ∷ []) = refl
feed_first (b ∷ c ∷ rest) = refl

-- a text without a mark has none before a line feed
no_mark_before_feed : (bytes rest : List ℕ) → strip_bom bytes ≡ bytes → strip_bom (bytes ++ 10 ∷ rest) ≡ bytes ++ 10 ∷ rest
unfolding strip_bom
no_mark_before_feed [] rest none = feed_first rest
no_mark_before_feed (a ∷ []) [] none = refl
no_mark_before_feed (a ∷ []) (d ∷ rest) none = other_second (a == 239) (d == 191) rest (a ∷ 10 ∷ d ∷ rest)
no_mark_before_feed (a ∷ b ∷ []) rest none = other_third (a == 239) (b == 187) rest (a ∷ b ∷ 10 ∷ rest)
no_mark_before_feed (a ∷ b ∷ c ∷ more) rest none = by (is_bom a b c) none
  where
    by : (mark : Bool) → cond mark more (a ∷ b ∷ c ∷ more) ≡ a ∷ b ∷ c ∷ more
        → cond mark (more ++ 10 ∷ rest) (a ∷ b ∷ c ∷ more ++ 10 ∷ rest) ≡ a ∷ b ∷ c ∷ more ++ 10 ∷ rest
    by true same = absurd (omega (arith, ap length same))
    by false same = refl

-- the front of a text without a mark has none
front_no_mark : (front rest : List ℕ) → strip_bom (front ++ rest) ≡ front ++ rest → strip_bom front ≡ front
unfolding strip_bom
front_no_mark [] rest none = refl
front_no_mark (a ∷ []) rest none = refl
front_no_mark (a ∷ b ∷ []) rest none = refl
front_no_mark (a ∷ b ∷ c ∷ more) rest none = by (is_bom a b c) none
  where
    by : (mark : Bool) → cond mark (more ++ rest) (a ∷ b ∷ c ∷ more ++ rest) ≡ a ∷ b ∷ c ∷ more ++ rest → cond mark more (a ∷ b ∷ c ∷ more) ≡ a ∷ b ∷ c ∷ more
    by true same = absurd (omega (arith, ap length same))
    by false same = refl

-- ---- plain texts

-- if each carriage return of a text ends a line or the text (`ReturnsEndLines`), so does each of what follows a front, and each of a front
returns_rest : (front rest : List ℕ) → ReturnsEndLines (front ++ rest) → ReturnsEndLines rest
returns_rest front rest returns before after next is =
    returns (front ++ before) after next (ap (λ t. front ++ t) is ∙ sym (append_assoc front before (13 ∷ next ∷ after)))

returns_front : (front rest : List ℕ) → ReturnsEndLines (front ++ rest) → ReturnsEndLines front
returns_front front rest returns before after next is =
    returns before (after ++ rest) next (ap (λ t. t ++ rest) is ∙ append_assoc before (13 ∷ next ∷ after) rest)

-- the text without a byte is plain
pub nothing_plain : IsPlain []
nothing_plain = record {
  no_mark = empty_no_mark [] refl;
  no_quote = All-nil (λ b. (b == 34) ≡ false);
  returns = λ before after next is. absurd (omega (arith, ap length is, length-append before (13 ∷ next ∷ after)));
}

-- the lines of a plain text before a line feed are records, whatever follows
lines_before_feed : (bytes rest : List ℕ) → IsPlain bytes → records_of (bytes ++ 10 ∷ rest) ≡ map fields_in (record_lines bytes) ++ records_of (10 ∷ rest)
lines_before_feed bytes rest plain =
    ap (records default_config) (no_mark_before_feed bytes rest plain.no_mark) ∙ before_feed bytes rest plain
    ∙ ap (λ rs. map fields_in (record_lines bytes) ++ rs) (sym (ap (records default_config) (feed_first rest) ∙ before_feed [] rest nothing_plain))

-- the front of a plain text is plain
pub plain_front : (xs : List ℕ) (n : ℕ) → IsPlain xs → IsPlain (take n xs)
plain_front xs n plain =
    let whole = sym (take-append-drop n xs) in
    record {
      no_mark = front_no_mark (take n xs) (drop n xs) (subst (λ ys. strip_bom ys ≡ ys) whole plain.no_mark);
      no_quote = All-take (λ b. (b == 34) ≡ false) n xs plain.no_quote;
      returns = returns_front (take n xs) (drop n xs) (subst ReturnsEndLines whole plain.returns);
    }

-- and so is what is left from a line feed on
pub plain_rest : (xs : List ℕ) (n : ℕ) (rest : List ℕ) → drop n xs ≡ 10 ∷ rest → IsPlain xs → IsPlain (drop n xs)
plain_rest xs n rest feed plain = record {
  no_mark = subst (λ ys. strip_bom ys ≡ ys) (sym feed) (feed_first rest);
  no_quote = All-drop (λ b. (b == 34) ≡ false) n xs plain.no_quote;
  returns = returns_rest (take n xs) (drop n xs) (subst ReturnsEndLines (sym (take-append-drop n xs)) plain.returns);
}

-- what is held is cut off up to a line feed, and the records of its lines are read
pub cut_on : (taken held : List ℕ) (n : ℕ) (rest : List ℕ) (rows : List Fields) → drop n held ≡ 10 ∷ rest → IsPlain held → HasCut taken held rows
    → HasCut taken (drop n held) (rows ++ map fields_in (record_lines (take n held)))
cut_on taken held n rest rows feed plain cut more =
    let text = take n held in
    let whole : held ≡ text ++ 10 ∷ rest = sym (take-append-drop n held) ∙ ap (λ xs. text ++ xs) feed in
    cut more
    ∙ ap (λ xs. rows ++ records_of xs) (ap (λ xs. xs ++ more) whole ∙ append_assoc text (10 ∷ rest) more)
    ∙ ap (λ rs. rows ++ rs) (lines_before_feed text (rest ++ more) (plain_front held n plain))
    ∙ sym (append_assoc rows (map fields_in (record_lines text)) (records_of (10 ∷ rest ++ more)))
    ∙ ap (λ xs. (rows ++ map fields_in (record_lines text)) ++ records_of (xs ++ more)) (sym feed)

-- a piece that was taken more is held behind the rest, and the same records were read
pub piece_on : (taken held piece : List ℕ) (rows : List Fields) → HasCut taken held rows → HasCut (taken ++ piece) (held ++ piece) rows
piece_on taken held piece rows cut more =
    ap records_of (append_assoc taken piece more) ∙ cut (piece ++ more) ∙ ap (λ xs. rows ++ records_of xs) (sym (append_assoc held piece more))

-- and there are still no more records that were read and bytes that are held than bytes that were taken
pub few_more : (taken held piece now : List ℕ) (rows : List Fields) → now ≡ held ++ piece → length rows + length held ≤ length taken
    → length rows + length now ≤ length (taken ++ piece)
few_more taken held piece now rows is few = omega (arith, few, ap length is, length-append held piece, length-append taken piece)

module _ {S : Type 0} (left : S → Option (List ℕ)) (failed : S → Bool) where
  -- all that is left goes to `csv` at once
  pub csv_at_once : (i k : HeldInput S) (r : Result Course InputFault) → GoesToCsv left failed i r k → GoesOnAs left failed i r k
  csv_at_once i k (Ok to) goes = (goes.0, λ lent taken rows was stands. goes.1 lent taken rows was (stands.0.0, stands.0.2))
  csv_at_once i k (Err fault) goes = goes

  -- or once a piece was read with which what is held is no plain text
  pub csv_after_piece : (i j k : HeldInput S) (r : Result Course InputFault) → HoldsMore left failed i (Ok true) j → GoesToCsv left failed j r k
      → GoesOnAs left failed i r k
  csv_after_piece i j k (Ok to) more goes = (
    omega (arith, more.3, goes.0),
    λ lent taken rows was stands. goes.1 lent (taken ++ more.0) rows (more.5 lent taken was) (
      subst (λ h. HasCut (taken ++ more.0) h rows) (sym more.1) (piece_on taken (held_of i) more.0 rows stands.0.0),
      few_more taken (held_of i) more.0 (held_of j) rows more.1 stands.0.2,
    ),
  )
  csv_after_piece i j k (Err fault) more goes = (omega (arith, more.3, goes.0), stops_later left failed i j k more.0 fault more.5 goes.1)
