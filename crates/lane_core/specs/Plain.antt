-- A `Plain` (src/job.rt), what contracts see of a job and of a delivery, by its fields.
use Rattle.std.specs.Prelude.{ℕ, List}
use Rattle.element_core.specs.Terms.{Terms}
use Rattle.lane_core.specs.declared.job.Plain.{Plain}

-- the item of this lane and number, with its reference year and its row's widths
abbrev pub plain_of : ℕ → ℕ → Terms → List ℕ → Plain
plain_of lane number year widths = record { lane = lane; number = number; year = year; widths = widths }
