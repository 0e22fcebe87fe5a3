-- What is written for each record of an input.
use Rattle.std.specs.Prelude.{◌==◌, ◌+◌, ◌++◌, ◌∷◌, ℕ, List, [], Option, Some, None, Result, Ok, Err, codes, nat_lt, if◌then◌else◌}
use Rattle.std.specs.Fmt.{decimal}
use Rattle.std.specs.List.{filter_map}
use Rattle.digits_core.specs.Refusals.{refusal_words}
use Rattle.digits_core.specs.declared.refusal.RefusalKind.TheVariants as refusal

-- a line without a number: the lane if the record names one, and why it is refused or what its message says
abbrev pub unnumbered_line : Option ℕ → List ℕ → List ℕ
unnumbered_line None words = codes "- - " ++ words ++ (10 ∷ [])
unnumbered_line (Some lane) words = decimal lane ++ codes " - " ++ words ++ (10 ∷ [])

-- what a `Notice` of live/record.rt reports: the line that refuses a record, or a lane and the text of a message of a scanner
pub data Told : Type 0 where
  Refusal : List ℕ → Told
  Message : ℕ → List ℕ → Told

-- what a record means: a row of a lane, or what is reported in its place
abbrev pub Meant : Type 0
Meant = Result (ℕ × List ℕ) Told

-- what is written for a record: the answer to this row of a lane under this number, or what is reported in its place
pub data Reply : Type 0 where
  Row : ℕ → ℕ → List ℕ → Reply
  Line : Told → Reply

-- the numbers of the lanes' next rows
abbrev pub Numbers : Type 0
Numbers = ℕ → ℕ

-- the numbers after one more row of this lane
abbrev pub one_later : ℕ → Numbers → Numbers
one_later lane next = λ l. if l == lane then next l + 1 else next l

-- as many rows as a lane has at most. Their numbers are those of `u32` but the last, which a hub does not give (`HasRoom` of hub_core). The same number
-- stands in `IsOneMore` and `TakesNumber` of specs/inner/Turns.
abbrev pub most_rows : ℕ
most_rows = 4294967295

-- a row gets its lane's next number, unless the lane has had all
abbrev pub reply_to : Numbers → Meant → Reply
reply_to next (Ok row) = if nat_lt (next row.0) most_rows then Row row.0 (next row.0) row.1 else Line (Refusal (unnumbered_line (Some row.0) (refusal_words refusal.Spent)))
reply_to next (Err told) = Line told

-- the numbers after a reply
abbrev pub numbers_after : Numbers → Reply → Numbers
numbers_after next (Row lane number widths) = one_later lane next
numbers_after next (Line told) = next

-- what is written for records, in their order
abbrev pub replies_from : Numbers → List Meant → List Reply
replies_from next [] = []
replies_from next (m ∷ records) = reply_to next m ∷ replies_from (numbers_after next (reply_to next m)) records

-- what is written for lines; some of them mean no record
abbrev pub replies_to : (List ℕ → Option Meant) → List (List ℕ) → List Reply
replies_to meant lines = replies_from (λ lane. 0) (filter_map meant lines)
