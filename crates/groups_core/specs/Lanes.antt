-- Any number of tills and workers on one lane. Every row and answer that was once written may arrive at any time, in
-- any order, any number of times, or never. So the lists of events also describe a node that loses data, a stream that
-- is trimmed, a row that a second worker claims, a worker that sleeps and wakes, and a replica that lags behind.
use Rattle.std.specs.Prelude.{ℕ, ◌+◌, ◌==◌, ◌&&◌, Bool, cond, List, [], ◌∷◌, ◌++◌, length, Option, None, Some, slice_get}

-- a row under its series and number; and an answer, with the series, the number and the mark of its row
pub record NamedRow : Type 0 where
  pub series : ℕ
  pub number : ℕ
  pub text : ℕ

pub record NamedAnswer : Type 0 where
  pub series : ℕ
  pub number : ℕ
  pub mark : ℕ
  pub text : ℕ

-- a till: its series, the number of the first row whose answer it needs, and its rows
pub record OneTill : Type 0 where
  pub series : ℕ
  pub start : ℕ
  pub row : ℕ → ℕ

-- a lane: all its tills, the answer to each row, and the mark of each row
pub record LaneTills : Type 0 where
  pub till : ℕ → OneTill
  pub answer : ℕ → ℕ
  pub mark : ℕ → ℕ

-- everything ever written, the answers that each till has read and keeps by number, and the answers that it has given
pub record RedisLane : Type 0 where
  pub rows : List NamedRow
  pub answers : List NamedAnswer
  pub aside : ℕ → ℕ → Option ℕ
  pub got : ℕ → List ℕ

pub data Step : Type 0 where
  -- a till submits its row n, perhaps not for the first time
  Submits : (t : ℕ) → (n : ℕ) → Step
  -- a worker answers any row that was submitted
  Works : (which : ℕ) → Step
  -- a till reads any answer that was written, and keeps it if it belongs to one of its rows
  Reads : (t : ℕ) → (which : ℕ) → Step
  -- a till gives its program the answer to its next row, if it has kept that answer
  Gives : (t : ℕ) → Step

abbrev pub fresh_lane : RedisLane
fresh_lane = record { rows = []; answers = []; aside = λ t n. None; got = λ t. [] }

abbrev pub own_row : LaneTills → ℕ → ℕ → ℕ
own_row s t n = (s.till t).row n

abbrev pub named_row : LaneTills → ℕ → ℕ → NamedRow
named_row s t n = record { series = (s.till t).series; number = n; text = own_row s t n }

abbrev pub answer_to : LaneTills → NamedRow → NamedAnswer
answer_to s r = record { series = r.series; number = r.number; mark = s.mark r.text; text = s.answer r.text }

abbrev pub next_wanted : LaneTills → RedisLane → ℕ → ℕ
next_wanted s l t = (s.till t).start + length (l.got t)

-- whether an answer belongs to one of the till's rows
abbrev pub is_own : LaneTills → ℕ → NamedAnswer → Bool
is_own s t a = (a.series == (s.till t).series) && (a.mark == s.mark (own_row s t a.number))

abbrev pub put_aside : ℕ → ℕ → ℕ → (ℕ → ℕ → Option ℕ) → ℕ → ℕ → Option ℕ
put_aside t n text aside u m = cond (u == t) (cond (m == n) (Some text) (aside u m)) (aside u m)

abbrev pub has_got : ℕ → ℕ → (ℕ → List ℕ) → ℕ → List ℕ
has_got t text got u = cond (u == t) (got u ++ text ∷ []) (got u)

abbrev pub works : LaneTills → RedisLane → Option NamedRow → RedisLane
works s l None = l
works s l (Some r) = record l { answers = answer_to s r ∷ l.answers }

abbrev pub reads : LaneTills → RedisLane → ℕ → Option NamedAnswer → RedisLane
reads s l t None = l
reads s l t (Some a) = cond (is_own s t a) (record l { aside = put_aside t a.number a.text l.aside }) l

abbrev pub gives : RedisLane → ℕ → Option ℕ → RedisLane
gives l t None = l
gives l t (Some text) = record l { got = has_got t text l.got }

abbrev pub goes : LaneTills → RedisLane → Step → RedisLane
goes s l (Submits t n) = record l { rows = named_row s t n ∷ l.rows }
goes s l (Works which) = works s l (slice_get l.rows which)
goes s l (Reads t which) = reads s l t (slice_get l.answers which)
goes s l (Gives t) = gives l t (l.aside t (next_wanted s l t))

abbrev pub all_go : LaneTills → List Step → RedisLane → RedisLane
all_go s [] l = l
all_go s (e ∷ es) l = all_go s es (goes s l e)
