-- The numbers after records of a live input (specs/live/Replies).
use Rattle.std.specs.Prelude.{◌∷◌, ℕ, List, [], Option}
use Rattle.std.specs.List.{filter_map}
use Rattle.command_runs.specs.live.Replies.{Numbers, Meant, numbers_after, reply_to}

-- the numbers after these records, taken one by one as in `replies_from`
abbrev pub numbers_from : Numbers → List Meant → Numbers
numbers_from next [] = next
numbers_from next (m ∷ records) = numbers_from (numbers_after next (reply_to next m)) records

-- the numbers after the records of these lines, which begin at 0 as in `replies_to`
abbrev pub numbers_after_lines : (List ℕ → Option Meant) → List (List ℕ) → Numbers
numbers_after_lines meant lines = numbers_from (λ lane. 0) (filter_map meant lines)
