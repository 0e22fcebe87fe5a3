-- What a traffic gives and is brought, what led to a state of it, and how it was served.
use Rattle.std.specs.Prelude.{◌≡◌, ◌<◌, ◌++◌, ℕ, Bool, true, List, [], ◌∷◌, length, map, slice_set, slice_index_or, ⊤}
use Rattle.lane_core.specs.declared.job.Plain.{Plain}
use Rattle.hub_core.specs.Serving.{served}
use Rattle.hub_core.specs.declared.ended.Ended.{Ended}
use Rattle.element_core.specs.Terms.{Terms}
use Rattle.hub_core.specs.declared.ended.Ended.TheVariants.{BringFailed, Done, NoMemory, WaitFailed}

-- the lists with one more item at the end of the list of this place
abbrev pub with_more : {X : Type 0} → ℕ → X → List (List X) → List (List X)
with_more i x lists = slice_set lists i (slice_index_or lists i [] ++ x ∷ [])

-- the lane of this place is there, and has a ticket left of the 4,294,967,295 that `shape_for` gives it
abbrev pub HasRoom : ℕ → List (List (List ℕ)) → Type 0
HasRoom i given = (i < length given) × (length (slice_index_or given i []) < 4294967295)

-- this is the delivery of its lane's next number, and the lane is owed it
pub record IsNextOf (x : Plain) (given : List (List (List ℕ))) (brought : List (List Plain)) : Type 0 where
  pub lane : x.lane < length brought
  pub owed : length (slice_index_or brought x.lane []) < length (slice_index_or given x.lane [])
  pub number : x.number ≡ length (slice_index_or brought x.lane [])

-- as many were brought of each lane as were given
abbrev pub IsAllBrought : List (List (List ℕ)) → List (List Plain) → Type 0
IsAllBrought given brought = map (λ xs. length xs) brought ≡ map (λ xs. length xs) given

-- ---- what led to a state

-- how a traffic came from a first state to one: by giving these rows of each lane and by being brought these deliveries of each
abbrev pub History : Type 0 → Type 1
History T = T → T → List (List (List ℕ)) → List (List Plain) → Type 0

-- some history has led to this state
abbrev pub IsLed : {T : Type 0} → History T → T → Type 0
IsLed {T} came s = (start : T) × (given : List (List (List ℕ))) × (brought : List (List Plain)) × came start s given brought

-- by some history that has led to this state, this is its lane's next delivery
abbrev pub Awaits : {T : Type 0} → History T → Plain → T → Type 0
Awaits {T} came x s = (start : T) × (given : List (List (List ℕ))) × (brought : List (List Plain)) × came start s given brought × IsNextOf x given brought

-- by some history that has led to this state, all that was given has come back
abbrev pub IsOwedNothing : {T : Type 0} → History T → T → Type 0
IsOwedNothing {T} came s = (start : T) × (given : List (List (List ℕ))) × (brought : List (List Plain)) × came start s given brought × IsAllBrought given brought

-- whatever led to the first state leads to the second
abbrev pub Stays : {T : Type 0} → History T → T → T → Type 0
Stays {T} came s t = (start : T) (given : List (List (List ℕ))) (brought : List (List Plain)) → came start s given brought → came start t given brought

-- whatever led to the first state leads to the second, if all that was given has come back
abbrev pub StaysOwedNothing : {T : Type 0} → History T → T → T → Type 0
StaysOwedNothing {T} came s t = (start : T) (given : List (List (List ℕ))) (brought : List (List Plain)) → came start s given brought → IsAllBrought given brought
    → came start t given brought

-- whatever led to the first state leads to the second with this row of a lane more, which has a ticket left
abbrev pub Gives : {T : Type 0} → History T → ℕ × List ℕ → T → T → Type 0
Gives {T} came r s t = (start : T) (given : List (List (List ℕ))) (brought : List (List Plain)) → came start s given brought
    → HasRoom r.0 given × came start t (with_more r.0 r.1 given) brought

-- whatever led to the first state leads to the second with this delivery more, if it is its lane's next
abbrev pub Brings : {T : Type 0} → History T → Plain → T → T → Type 0
Brings {T} came x s t = (start : T) (given : List (List (List ℕ))) (brought : List (List Plain)) → came start s given brought → IsNextOf x given brought
    → came start t given (with_more x.lane x brought)

-- ---- how it was served

-- no delivery was lost: `IfLost` has the other case
abbrev pub IsKept : {W B : Type 0} → Ended W B → Type 0
IsKept (BringFailed fault) = ⊥
IsKept Done = ⊤
IsKept NoMemory = ⊤
IsKept (WaitFailed fault) = ⊤

-- each of these lists is the first of the list of its place
abbrev pub AreFirstOf : List (List Plain) → List (List Plain) → Type 0
AreFirstOf lists wholes = (i : ℕ) → (rest : List Plain) × (slice_index_or lists i [] ++ rest ≡ slice_index_or wholes i [])

-- what was brought of each lane is the first of what its rows are served
abbrev pub AreServedFirst : Terms → List (List (List ℕ)) → List (List Plain) → Type 0
AreServedFirst year given brought = AreFirstOf brought (served year given)

-- how a traffic was served: what it was brought is the first of what is served for what it gave, and at a regular end all of that
abbrev pub IsServed : {T W B : Type 0} → History T → (T → Bool) → Terms → T → T → Ended W B → Type 0
IsServed came has_ended year start now ended = (given : List (List (List ℕ))) × (brought : List (List Plain)) × came start now given brought
    × AreServedFirst year given brought × (ended ≡ Done → (has_ended now ≡ true) × (brought ≡ served year given))

-- P, if a delivery was lost
abbrev pub IfLost : {W B : Type 0} → Ended W B → Type 0 → Type 0
IfLost (BringFailed fault) P = P
IfLost Done P = ⊤
IfLost NoMemory P = ⊤
IfLost (WaitFailed fault) P = ⊤

-- how a traffic was served that has lost a delivery: it had given rows and been brought the first of what is served for them, and is what its `bring` left then
abbrev pub IsServedUpTo : {T : Type 0} → History T → (T → T → Type 0) → Terms → T → T → Type 0
IsServedUpTo {T} came leaves year start now = (before : T) × (given : List (List (List ℕ))) × (brought : List (List Plain)) × came start before given brought
    × AreServedFirst year given brought × leaves before now
