-- What a line means, by its commas and by its message, whether its front was given up or not (of specs/live/Text).
use Rattle.command_runs.specs.declared.live.record.LineFault.TheVariants as line_fault
use Rattle.csv_records.specs.declared.input.fault.RecordFault.TheVariants as fault
use Rattle.command_runs.proofs.live.Words.{Bool, Err, Held, HoldsRecord, IsFirstByte, IsLine, IsRecord, LaneRow, List, MessagesAreNoRows, None, Ok, Option, Record, RecordFault, Refusal, Some, [], after_first, and_parts, ap, arith, before_first, cases_Bool, cases_lt, cond, cond_both, digits_value, drop, drop_all, fails_before_first, false, false_from_ne_true, field_fault, fields_in, is_byte, is_comma, is_lane, is_message, is_number, join_with_byte, join_with_byte-slice_split, lane_row, length, line_fault_text, line_meant, lt-ltb, ltb-true, most_line, nat_lt, position_or_len, position_or_len_is, record_in, refl, row_or, slice_split_first, slice_split_none, subst, sym, take, text_meant, true, unnumbered_line, widths_in, without_return, ℕ, ⊎_elim, ◌++◌, ◌+◌, ◌-◌, ◌<◌, ◌==◌, ◌∙◌, ◌∷◌, ◌≡◌, ◌≤◌}
use Rattle.std.proofs.lemmas.List.{take_rest}
use Rattle.command_runs.proofs.answers.PlainBytes.{no_byte, past_all}

-- a comma is found at k, as a line feed by `first_feed_at` of wire_core
pub first_field : (xs : List ℕ) (k : ℕ) → IsFirstByte (is_byte 44) xs (Some k)
    → (k < length xs) × (fields_in xs ≡ take k xs ∷ fields_in (drop (k + 1) xs)) × (position_or_len is_comma xs ≡ k)
first_field xs k found =
    let high = found.0.high in
    let at : position_or_len is_comma xs ≡ k = position_or_len_is is_comma xs k 0 (omega (arith, high))
    (λ j low. false_from_ne_true _ (found.0.before j (omega arith) low)) (λ _. found.1) in
    let low : position_or_len is_comma xs < length xs = omega (arith, at, high) in
    (high, slice_split_first is_comma xs 0 low ∙ ap (λ n. take n xs ∷ fields_in (drop (n + 1) xs)) at, at)

-- what stands behind the comma at k
abbrev pub behind_comma : List ℕ → ℕ → List ℕ
behind_comma xs k = take (length xs - (k + 1)) (drop (k + 1) xs)

-- what stands before it and behind it, and the fields
pub cut_at : (xs : List ℕ) (k : ℕ) → IsFirstByte (is_byte 44) xs (Some k) → (before_first is_comma xs ≡ take k xs)
    × (after_first is_comma xs ≡ behind_comma xs k) × (fields_in xs ≡ take k xs ∷ fields_in (behind_comma xs k))
cut_at xs k found =
    let (high, fields, at) = first_field xs k found in
    let rest = sym (take_rest xs (k + 1)) in
    (ap (λ n. take n xs) at, ap (λ n. drop (n + 1) xs) at ∙ rest, fields ∙ ap (λ t. take k xs ∷ fields_in t) rest)

-- no comma is found
pub only_field : (xs : List ℕ) → IsFirstByte (is_byte 44) xs None → (fields_in xs ≡ xs ∷ []) × (after_first is_comma xs ≡ [])
only_field xs none =
    (slice_split_none is_comma xs (no_byte 44 xs none), let past = past_all 44 xs none in drop_all _ xs (omega (arith, past)))

-- of two fields the second stands behind the first comma
second_behind_comma : (line lane widths : List ℕ) → fields_in line ≡ lane ∷ widths ∷ [] → after_first is_comma line ≡ widths
second_behind_comma line lane widths is = let rest = after_first is_comma line in ⊎_elim
    (λ (low : position_or_len is_comma line < length line).
    let one : fields_in rest ≡ widths ∷ [] = cc (slice_split_first is_comma line 0 low) in
    sym (join_with_byte-slice_split 44 rest) ∙ ap (join_with_byte 44) one)
    (λ (past : length line ≤ position_or_len is_comma line).
    cc (slice_split_none is_comma line (λ k d low. fails_before_first is_comma line k d (omega (arith, low, past)))))
    (cases_lt (position_or_len is_comma line) (length line))

-- a byte before both cases of `return_cut`
onto : (a : ℕ) (front : List ℕ) (b : ℕ) (is : Bool) → a ∷ (cond is front (front ++ b ∷ [])) ≡ cond is (a ∷ front) (a ∷ front ++ b ∷ [])
onto a front b true = refl
onto a front b false = refl

-- a last byte, and the line before it
pub return_cut : (front : List ℕ) (b : ℕ) → without_return (front ++ b ∷ []) ≡ cond (b == 13) front (front ++ b ∷ [])
return_cut [] b = refl
return_cut (a ∷ []) b = onto a [] b (b == 13)
return_cut (a ∷ c ∷ front) b = ap (λ t. a ∷ t) (return_cut (c ∷ front) b) ∙ onto a (c ∷ front) b (b == 13)

-- ---- fields that mean a row to `lanes`

-- a row comes of `lane_row` only if neither the lane nor the widths have a fault
pub row_of_fields : (b : Bool) (o : Option RecordFault) (row found : LaneRow) → Ok row ≡ cond b (row_or o found) (Err fault.BadLane) → (b ≡ true) × (o ≡ None) × (row ≡ found)
row_of_fields true None row found is = (refl, refl, cc)
row_of_fields true (Some f) row found is = cc
row_of_fields false o row found is = cc

module _ (lanes : ℕ) (row : LaneRow) where
  fields_of_row : (fields : List (List ℕ)) → Ok row ≡ lane_row lanes fields → (lane : List ℕ) × (widths : List ℕ) × (fields ≡ lane ∷ widths ∷ [])
      × (is_lane lanes lane ≡ true) × (field_fault widths ≡ None) × (row ≡ (digits_value 10 lane, widths_in widths))
  fields_of_row [] is = cc
  fields_of_row (lane ∷ []) is = cc
  fields_of_row (lane ∷ widths ∷ []) is =
      let t = row_of_fields (is_lane lanes lane) (field_fault widths) row (digits_value 10 lane, widths_in widths) is in
      (lane, widths, refl, t.0, t.1, t.2)
  fields_of_row (lane ∷ widths ∷ more ∷ rest) is = cc

  -- mean it to `live` too, since no message is a row
  pub row_meant : MessagesAreNoRows → (line : List ℕ) → Ok row ≡ lane_row lanes (fields_in line) → (record_in lanes line ≡ Ok row) × (row.0 < lanes)
  row_meant law line is =
      let (lane, widths, fields, here, none, same) = fields_of_row (fields_in line) is in
      let no_message : is_message widths ≡ false = false_from_ne_true (is_message widths) (λ e. cc (law widths e, none)) in
      let low = ltb-true (digits_value 10 lane) lanes (and_parts (is_number 2 lane) (nat_lt (digits_value 10 lane) lanes) here).1 in
      (rw (second_behind_comma line lane widths fields, no_message, fields, here, none) (ap Ok (sym same)), subst (λ (r : LaneRow). r.0 < lanes) (sym same) low)

-- ---- a line of which the front may have been given up

-- one byte at most is cut off
shorter : (line : List ℕ) → length line ≤ length (without_return line) + 1
shorter [] = omega arith
shorter (b ∷ []) = cond_both (b == 13) [] (b ∷ []) (λ t. 1 ≤ length t + 1) (λ e. omega arith) (λ e. omega arith)
shorter (b ∷ c ∷ line) = omega (arith, shorter (c ∷ line))

-- a line that is too long is refused, whatever stands in it
long_meant : (lanes : ℕ) (text : List ℕ) → most_line < length text → text_meant lanes text
    ≡ Some (Err (Refusal (unnumbered_line None (line_fault_text line_fault.InputSize))))
long_meant lanes [] long = absurd (omega (arith, long))
long_meant lanes (b ∷ text) long = rw (lt-ltb most_line (length (b ∷ text)) long) refl

-- the record that was read of what is held of a line is what the whole line means
pub record_meant : (lanes : ℕ) (h : Held) (count : ℕ) (r : Record) (line : List ℕ) (f : HoldsRecord lanes h count r) → IsLine h f.0 line
    → IsRecord lanes r (line_meant lanes line)
record_meant lanes h count r line f is = ⊎_elim
    (λ (e : h.is_cut ≡ true). let long = is.1 e in rw (f.4 e) (long_meant lanes (without_return line) (omega (arith, long, shorter line))))
    (λ (e : h.is_cut ≡ false). rw (is.0 e) (f.3 e))
    (cases_Bool h.is_cut)
