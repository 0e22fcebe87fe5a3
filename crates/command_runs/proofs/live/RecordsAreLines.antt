-- The records that `csv` reads of a plain text are its lines that have a byte, also if a line feed and then anything follow, for `lines_are_records` and `RowReader`.
use Rattle.command_runs.proofs.live.Words.{Each, LinesAreRecords, List, ReturnsEndLines, Some, [], ap, append-nil, append_assoc, cases_Bool, cond_both, eqb-true, false, fields_in, filter, has_byte, map, onto_first, pieces_of, recursion_from_All, refl, sym, true, without_return, ℕ, ⊎_elim, ◌++◌, ◌==◌, ◌∙◌, ◌∷◌, ◌≡◌}
use Rattle.csv.specs.Machine.{Read, next_record}
use Rattle.csv.specs.Reading.{AreRecords, Reached, default_config, records}
use Rattle.csv.specs.declared.parser.State.{State}
use Rattle.csv.specs.declared.parser.State.TheVariants as st
use Rattle.command_runs.specs.live.Laws.{IsPlain, record_lines}
use Rattle.csv_records.proofs.Reaching.{are_records, records_are}

-- the fields with these bytes before the first of them
abbrev begun : List ℕ → List (List ℕ) → List (List ℕ)
begun [] fields = fields
begun (b ∷ field) fields = onto_first b (begun field fields)

begun_more : (field : List ℕ) (c : ℕ) (fields : List (List ℕ)) → begun (field ++ c ∷ []) fields ≡ begun field (onto_first c fields)
begun_more [] c fields = refl
begun_more (b ∷ field) c fields = ap (onto_first b) (begun_more field c fields)

begun_whole : (field : List ℕ) (fields : List (List ℕ)) → begun field ([] ∷ fields) ≡ field ∷ fields
begun_whole [] fields = refl
begun_whole (b ∷ field) fields = ap (onto_first b) (begun_whole field fields)

-- ---- the records of texts

-- the records from a state on
abbrev From : State → List ℕ → List (List (List ℕ)) → Type 0
From s bytes rows = AreRecords default_config s bytes rows

-- where the same record comes next, the same records do
from_same : (s t : State) (xs ys : List ℕ) (rows : List (List (List ℕ)))
    → next_record default_config s [] [] xs ≡ next_record default_config t [] [] ys → From t ys rows → From s xs rows
unfolding Reached
from_same s t xs ys [] same is = (s, xs, (refl, refl), same ∙ (λ i. next_record default_config (is.2.0 i) [] [] (is.2.1 i)) ∙ is.3)
from_same s t xs ys (row ∷ rows) same is = (is.0, is.1, (is.2.0, same ∙ is.2.1, is.2.2, is.2.3), is.3)

module _ (later : List (List (List ℕ))) where
  -- the records of these texts, and then others
  abbrev rows_of : List (List ℕ) → List (List (List ℕ))
  rows_of texts = map fields_in (filter has_byte texts) ++ later

  -- in a field the fields of a text are read, and then the records of others
  abbrev FieldsRead : List ℕ → List ℕ → List (List ℕ) → Type 0
  FieldsRead bytes text texts = (fields : List (List ℕ)) (field : List ℕ) → (p : Read) × (next_record default_config st.InField fields field bytes ≡ Some p)
      × (fields ++ begun field (fields_in text) ≡ p.0) × From p.1 p.2 (rows_of texts)

  -- the texts are read of the bytes, before a record and in a field; there is one text at least, as `pieces_of` has one
  abbrev TextsAreRead : List ℕ → List (List ℕ) → Type 0
  TextsAreRead bytes [] = ⊥
  TextsAreRead bytes (text ∷ texts) = From st.StartRecord bytes (rows_of (text ∷ texts)) × FieldsRead bytes text texts

  -- before a record, the records of the texts are read
  first_read : (bytes : List ℕ) (texts : List (List ℕ)) → TextsAreRead bytes texts → From st.StartRecord bytes (rows_of texts)
  first_read bytes [] are = absurd are
  first_read bytes (text ∷ texts) are = are.0

  -- where a record ends: the state after it, and what is left
  end_read : (bytes : List ℕ) (after : State) (rest : List ℕ) (texts : List (List ℕ))
      → ((fields : List (List ℕ)) (field : List ℕ) → next_record default_config st.InField fields field bytes ≡ Some (fields ++ field ∷ [], after, rest))
      → next_record default_config st.StartRecord [] [] bytes ≡ next_record default_config st.StartRecord [] [] rest
      → next_record default_config after [] [] rest ≡ next_record default_config st.StartRecord [] [] rest
      → From st.StartRecord rest (rows_of texts) → TextsAreRead bytes ([] ∷ texts)
  end_read bytes after rest texts ends blank same is = (
    from_same st.StartRecord st.StartRecord bytes rest (rows_of texts) blank is,
    λ fields field. ((fields ++ field ∷ [], after, rest), ends fields field, ap (λ fs. fields ++ fs) (begun_whole field []), from_same after st.StartRecord rest rest (rows_of texts) same is),
  )

  -- a byte that ends no line stands at the front of the text
  byte_read : (c : ℕ) (bytes : List ℕ) (texts : List (List ℕ)) → (c == 34) ≡ false → (c == 10) ≡ false → (c == 13) ≡ false
      → ((fields : List (List ℕ)) → next_record default_config st.StartField fields [] bytes ≡ next_record default_config st.InField fields [] bytes)
      → TextsAreRead bytes texts → TextsAreRead (c ∷ bytes) (onto_first c texts)
  unfolding next_record Reached
  byte_read c bytes [] quote feed return field are = absurd are
  byte_read c bytes (text ∷ texts) quote feed return field_starts are =
      let on : FieldsRead (c ∷ bytes) (c ∷ text) texts = λ fields field. ⊎_elim
      (λ (e : (c == 44) ≡ true). let r = are.1 (fields ++ field ∷ []) [] in rw (eqb-true c 44 e)
      (r.0, field_starts (fields ++ field ∷ []) ∙ r.1, ap (λ fs. fields ++ fs) (begun_whole field (fields_in text)) ∙ sym (append_assoc fields (field ∷ []) (fields_in text)) ∙ r.2, r.3))
      (λ (e : (c == 44) ≡ false).
      let r = are.1 fields (field ++ c ∷ []) in
      rw (feed, return, e) (r.0, r.1, ap (λ fs. fields ++ fs) (sym (begun_more field c (fields_in text))) ∙ r.2, r.3))
      (cases_Bool (c == 44)) in
      let starts : next_record default_config st.StartRecord [] [] (c ∷ bytes) ≡ next_record default_config st.InField [] [] (c ∷ bytes) =
      rw (quote, feed, return) refl in
      let r = on [] [] in
      ((r.3.0, r.3.1, (r.0, starts ∙ r.1, r.2, r.3.2), r.3.3), on)

  -- ---- the records of lines, and of what follows them

  -- no return is cut off a line before which another byte stands
  return_kept : (c : ℕ) (lines : List (List ℕ)) → (c == 13) ≡ false → map without_return (onto_first c lines) ≡ onto_first c (map without_return lines)
  return_kept c [] other = rw other refl
  return_kept c ([] ∷ lines) other = rw other refl
  return_kept c ((b ∷ line) ∷ lines) other = refl

  module _ (tail : List ℕ)
      (field : (fields : List (List ℕ)) → next_record default_config st.StartField fields [] tail ≡ next_record default_config st.InField fields [] tail)
      (same : next_record default_config st.AfterCr [] [] tail ≡ next_record default_config st.StartRecord [] [] tail)
      (end : TextsAreRead tail ([] ∷ [])) where
    -- no quote begins a field
    field_read : (bytes : List ℕ) → Each (λ b. (b == 34) ≡ false) bytes → (fields : List (List ℕ))
        → next_record default_config st.StartField fields [] (bytes ++ tail) ≡ next_record default_config st.InField fields [] (bytes ++ tail)
    unfolding next_record
    field_read [] each fields = field fields
    field_read (c ∷ bytes) each fields = rw each.0 refl

    -- a return before the end of a line
    return_read : (bytes : List ℕ) → ReturnsEndLines (13 ∷ bytes) → TextsAreRead (bytes ++ tail) (map without_return (pieces_of bytes))
        → TextsAreRead (13 ∷ (bytes ++ tail)) (map without_return (onto_first 13 (pieces_of bytes)))
    unfolding next_record
    return_read [] returns are = end_read (13 ∷ tail) st.AfterCr tail [] (λ fields field. refl) refl same are.0
    return_read (d ∷ bytes) returns are =
        let feed : d ≡ 10 = returns [] bytes d refl in
        let is = (rw feed at are).0 in
        rw feed (end_read (13 ∷ 10 ∷ (bytes ++ tail)) st.AfterCr (10 ∷ (bytes ++ tail)) (map without_return (pieces_of bytes)) (λ fields field. refl) refl refl is)

    -- the lines of a plain text before the tail
    lines_read : (bytes : List ℕ) → Each (λ b. (b == 34) ≡ false) bytes → ReturnsEndLines bytes → TextsAreRead (bytes ++ tail) (map without_return (pieces_of bytes))
    unfolding next_record Reached
    lines_read [] each returns = end
    lines_read (c ∷ bytes) each returns =
        let texts = map without_return (pieces_of bytes) in
        let are = lines_read bytes each.1 (λ before after next is. returns (c ∷ before) after next (ap (λ t. c ∷ t) is)) in
        cond_both (c == 10) ([] ∷ pieces_of bytes) (onto_first c (pieces_of bytes)) (λ lines. TextsAreRead (c ∷ (bytes ++ tail)) (map without_return lines))
        (λ e. rw (eqb-true c 10 e) (end_read (10 ∷ (bytes ++ tail)) st.StartRecord (bytes ++ tail) texts (λ fields field. refl) refl refl
        (first_read (bytes ++ tail) texts are)))
        (λ e. ⊎_elim
        (λ (f : (c == 13) ≡ true). rw (eqb-true c 13 f) (return_read bytes (rw (eqb-true c 13 f) at returns) are))
        (λ (f : (c == 13) ≡ false). rw (return_kept c (pieces_of bytes) f) (byte_read c (bytes ++ tail) texts each.0 e f (field_read bytes each.1) are))
        (cases_Bool (c == 13)))

    -- the records of a plain text and the tail: the fields of its lines, and the later ones
    pub text_read : (bytes : List ℕ) → IsPlain bytes → map fields_in (record_lines bytes) ++ later ≡ records default_config (bytes ++ tail)
    text_read bytes plain =
        let texts = map without_return (pieces_of bytes) in
        let are = lines_read bytes (recursion_from_All (λ b. (b == 34) ≡ false) bytes plain.no_quote) plain.returns in
        are_records default_config (bytes ++ tail) (rows_of texts) (first_read (bytes ++ tail) texts are)

-- nothing follows
nothing_read : TextsAreRead [] [] ([] ∷ [])
unfolding next_record Reached
nothing_read = end_read [] [] st.StartRecord [] [] (λ fields field. refl) refl refl (st.StartRecord, [], (refl, refl), refl)

pub lines_are_records : LinesAreRecords
unfolding next_record
lines_are_records bytes plain =
    ap (records default_config) (plain.no_mark ∙ sym (append-nil bytes)) ∙ sym (text_read [] [] (λ fields. refl) refl nothing_read bytes plain)
    ∙ append-nil (map fields_in (record_lines bytes))

-- a line feed follows, and then anything
feed_read : (rest : List ℕ) → TextsAreRead (records default_config rest) (10 ∷ rest) ([] ∷ [])
unfolding next_record
feed_read rest = end_read (records default_config rest) (10 ∷ rest) st.StartRecord rest [] (λ fields field. refl) refl refl (records_are default_config rest)

pub before_feed : (bytes rest : List ℕ) → IsPlain bytes → records default_config (bytes ++ 10 ∷ rest)
    ≡ map fields_in (record_lines bytes) ++ records default_config rest
unfolding next_record
before_feed bytes rest plain = sym (text_read (records default_config rest) (10 ∷ rest) (λ fields. refl) refl (feed_read rest) bytes plain)
