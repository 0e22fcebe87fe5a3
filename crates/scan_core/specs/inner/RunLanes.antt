-- The number of modules of a run, by the limits of widths.
use Rattle.std.specs.Prelude.{ℕ, ◌+◌, ◌==◌, ◌≤◌, ◌&&◌, Bool, List, cond, nat_le, not}
use Rattle.std.specs.List.{list_all}
use Rattle.scan_core.specs.declared.rounding.Limits.{Limits}

-- each limit is a byte
abbrev pub AreSmall : Limits → Type 0
AreSmall l =
    (l.one ≤ 255) × (l.two ≤ 255) × (l.three ≤ 255) × (l.four ≤ 255)
    × (l.past_one ≤ 255) × (l.past_two ≤ 255) × (l.past_three ≤ 255) × (l.past_four ≤ 255)

-- 1 if a width comes up to a limit, and else 0
abbrev pub reaches : ℕ → ℕ → ℕ
reaches limit width = cond (nat_le limit width) 1 0

-- to how many limits above one module it comes up
abbrev pub above_one : Limits → ℕ → ℕ
above_one l width = reaches l.two width + reaches l.three width + reaches l.four width

-- how many limits it is past
abbrev pub passed : Limits → ℕ → ℕ
passed l width = reaches l.past_one width + reaches l.past_two width + reaches l.past_three width + reaches l.past_four width

-- the modules of a run of this width, and 0 if it is near to none
abbrev pub modules_or_none : Limits → ℕ → ℕ
modules_or_none l width = cond (nat_le l.one width && above_one l width == passed l width) (above_one l width + 1) 0

-- whether each run is near to some
abbrev pub are_near : List ℕ → Bool
are_near modules = list_all (λ m. not (m == 0)) modules
