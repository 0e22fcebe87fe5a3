-- Whether jobs and deliveries have a ticket, and a lane's numbers in order.
use Rattle.std.specs.Prelude.{◌==◌, ◌&&◌, ℕ, suc, Bool, true, List, [], ◌∷◌, Option, option_to_list}
use Rattle.std.specs.List.{list_any}
use Rattle.lane_core.specs.declared.job.Plain.{Plain}

-- whether it is lane l's number k
abbrev pub is_ticket_of : ℕ → ℕ → Plain → Bool
is_ticket_of l k x = (x.lane == l) && (x.number == k)

-- whether one of these rows is lane l's number k
abbrev pub is_among : ℕ → ℕ → List Plain → Bool
is_among l k xs = list_any (is_ticket_of l k) xs

-- whether the job that one of these workers holds is lane l's number k
abbrev pub is_held_by : ℕ → ℕ → List (Option Plain) → Bool
is_held_by l k workers = list_any (λ o. is_among l k (option_to_list o)) workers

-- whether these are the lane's numbers from n on, in order
abbrev pub numbered : ℕ → ℕ → List Plain → Bool
numbered lane n [] = true
numbered lane n (x ∷ xs) = (x.lane == lane) && ((x.number == n) && numbered lane (suc n) xs)
