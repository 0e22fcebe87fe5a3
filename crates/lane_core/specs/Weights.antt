-- Counting: a test as 1 or 0, and lists with the same items, each as often. For every weight of an item such lists have the same sum.
use Rattle.std.specs.Prelude.{◌≡◌, ℕ, ◌+◌, Bool, cond, List}
use Rattle.std.specs.List.{sum_by}

-- 1 if it is so, else 0
abbrev pub once : Bool → ℕ
once b = cond b 1 0

-- one for one: what was pushed is, each as often, what was popped and what is held
abbrev pub OneForOne : {X : Type 0} → List X → List X → List X → Type 0
OneForOne {X} pushed popped held = (h : X → ℕ) → sum_by h pushed ≡ sum_by h popped + sum_by h held
