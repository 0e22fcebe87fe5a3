-- The window of years, and day 00.
use Rattle.std.proofs.Common.{◌≡◌, ℕ, ◌+◌, ◌%◌, ◌<◌, ◌≤◌, arith}
use Rattle.element_core.specs.Days.{DayZero, YearWindow, full_year}
use Rattle.element_core.proofs.DayLemmas.{day_in_yes}

window : (r d y : ℕ) → 100 ≤ r → d < 100 → (y % 100 ≡ d) × (r ≤ y + 49) × (y ≤ r + 50) → y ≡ full_year r d
window r d y low small (last, back, ahead) = omega arith

within : (r d y : ℕ) → 100 ≤ r → d < 100 → y ≡ full_year r d → (y % 100 ≡ d) × (r ≤ y + 49) × (y ≤ r + 50)
within r d y low small is = (omega arith, omega arith, omega arith)

pub year_window : YearWindow
year_window = λ r d y low small. (λ is. within r d y low small is, λ is. window r d y low small is)

pub day_zero : DayZero
day_zero = λ year month low high. day_in_yes year month 0 low high (omega arith)
