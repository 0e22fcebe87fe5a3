-- What is so of the lists of several lanes, whoever carried their rows from place to place: the laws are functions of src/laws.rt.
use Rattle.std.specs.Prelude.{◌≡◌, ◌==◌, ◌&&◌, ◌+◌, ◌<◌, ◌≤◌, ℕ, suc, Bool, true, not, nat_lt, cond, List, [], ◌∷◌, ◌++◌, Some, length, slice_get, take}
use Rattle.std.specs.List.{count_by, fold, list_all, sum_by}
use Rattle.lane_core.specs.declared.job.Plain.{Plain}
use Rattle.lane_core.specs.Tickets.{is_among, numbered}
use Rattle.lane_core.specs.Weights.{OneForOne}

-- one more delivery for a deliverer of n lanes: it is set aside if its lane is not there or its ticket has come before (`is_new` of ReorderBuffer)
abbrev pub sift : ℕ → List Plain → Plain → List Plain
sift n taken x = cond (nat_lt x.lane n && not (is_among x.lane x.number taken)) (taken ++ x ∷ []) taken

-- what a deliverer of n lanes takes in of these
abbrev pub sifted : ℕ → List Plain → List Plain
sifted n xs = fold (sift n) [] xs

-- of these, each that is the lane's next number, from n on
abbrev pub kept : ℕ → ℕ → List Plain → List Plain
kept lane n [] = []
kept lane n (x ∷ xs) = cond ((x.lane == lane) && (x.number == n)) (x ∷ kept lane (suc n) xs) (kept lane n xs)

-- a lane, what it has submitted and what it has received
pub record Account : Type 0 where
  pub lane : ℕ
  pub submitted : List Plain
  pub received : List Plain

-- what each lane has submitted is its numbers 0, 1, 2 and so on
abbrev pub AreNumbered : List Account → Type 0
AreNumbered accounts = (i : ℕ) (a : Account) → slice_get accounts i ≡ Some a → numbered a.lane 0 a.submitted ≡ true

-- no lane comes twice
abbrev pub EachLaneOnce : List Account → Type 0
EachLaneOnce accounts = (l : ℕ) → count_by (λ a. a.lane == l) accounts ≤ 1

-- a lane's numbers in order, from any number on, are all kept
abbrev pub KeptWhole : Type 0
KeptWhole = (lane n : ℕ) (xs : List Plain) → numbered lane n xs ≡ true → kept lane n xs ≡ xs

-- two lists of one lane's numbers in order, from one number on, are one list if they have the same items
abbrev pub SameLists : Type 0
SameLists = (lane n : ℕ) (xs ys : List Plain) → numbered lane n xs ≡ true → numbered lane n ys ≡ true → ((h : Plain → ℕ) → sum_by h xs ≡ sum_by h ys) → xs ≡ ys

-- if the lanes together received no more than they submitted, each its own numbers from 0 on in order, each received the first of its own rows
abbrev pub ReceivedFirst : Type 0
ReceivedFirst =
    (accounts : List Account)
    → AreNumbered accounts
    → ((i : ℕ) (a : Account) → slice_get accounts i ≡ Some a → numbered a.lane 0 a.received ≡ true)
    → EachLaneOnce accounts
    → ((h : Plain → ℕ) → sum_by (λ a. sum_by h a.received) accounts ≤ sum_by (λ a. sum_by h a.submitted) accounts)
    → (i : ℕ) (a : Account) → slice_get accounts i ≡ Some a → take (length a.received) a.submitted ≡ a.received

-- If queues, workers and deliverer lose nothing, nothing was set aside, and all that was submitted is in some place. Workers took `taken` from the job
-- queue and queued `posted`, of which the deliverer of n lanes took `collected`. In the places there are now: `jobs` and `results` in the queues, `hands`
-- with workers, `hand` in the deliverer's hand, `waiting` in its buffer, and by weight `sent` with the lanes.
abbrev pub AllFound : Type 0
AllFound =
    (n : ℕ) (accounts : List Account) (taken posted collected jobs hands results waiting hand : List Plain) (sent : (Plain → ℕ) → ℕ)
    → AreNumbered accounts
    → ((i : ℕ) (a : Account) → slice_get accounts i ≡ Some a → a.lane < n)
    → EachLaneOnce accounts
    → ((h : Plain → ℕ) → sum_by (λ a. sum_by h a.submitted) accounts ≡ sum_by h taken + sum_by h jobs)
    → OneForOne taken posted hands
    → OneForOne posted collected results
    → ((h : Plain → ℕ) → sum_by h (sifted n collected) ≡ (sum_by h waiting + sum_by h hand) + sent h)
    → (sifted n collected ≡ collected)
    × ((h : Plain → ℕ) → sum_by (λ a. sum_by h a.submitted) accounts
    ≡ ((((sum_by h jobs + sum_by h hands) + sum_by h results) + sum_by h waiting) + sum_by h hand) + sent h)

-- whether each number is no less than the one before it
abbrev pub rises : List Plain → Bool
rises [] = true
rises (x ∷ []) = true
rises (x ∷ (y ∷ ys)) = not (nat_lt y.number x.number) && rises (y ∷ ys)

-- a lane, what it has submitted and polled, and what it is given of all that was found
pub record Claim : Type 0 where
  pub lane : ℕ
  pub submitted : List Plain
  pub polled : List Plain
  pub given : List Plain

-- what the lane has submitted and polled are its numbers from 0 on in order; what it is given is its own, by rising number
pub record IsClaim (c : Claim) : Type 0 where
  pub submitted : numbered c.lane 0 c.submitted ≡ true
  pub polled : numbered c.lane 0 c.polled ≡ true
  pub own : list_all (λ x. x.lane == c.lane) c.given ≡ true
  pub rising : rises c.given ≡ true

-- nothing of a lane was dropped as long as less than its due was given
abbrev pub GivesDue : Claim → List Plain → Type 0
GivesDue c dropped = length c.polled + length c.given < length c.submitted → count_by (λ x. x.lane == c.lane) dropped ≡ 0

-- if everything that the lanes had not polled was found, and each lane got of it at most what it was due, then each got exactly what it had not
-- polled; that no lane comes twice is required of claims as `EachLaneOnce` requires it of accounts
abbrev pub ClaimsSettle : Type 0
ClaimsSettle =
    (claims : List Claim) (found dropped : List Plain)
    → ((i : ℕ) (c : Claim) → slice_get claims i ≡ Some c → IsClaim c × GivesDue c dropped)
    → ((l : ℕ) → count_by (λ c. c.lane == l) claims ≤ 1)
    → ((h : Plain → ℕ) → sum_by (λ c. sum_by h c.submitted) claims ≡ sum_by (λ c. sum_by h c.polled) claims + sum_by h found)
    → ((h : Plain → ℕ) → sum_by (λ c. sum_by h c.given) claims + sum_by h dropped ≡ sum_by h found)
    → (i : ℕ) (c : Claim) → slice_get claims i ≡ Some c → c.polled ++ c.given ≡ c.submitted
