-- Where all that several lanes submitted is: the law `all_found`.
use Rattle.std.proofs.Common.{◌≡◌, ℕ, ◌≤◌, ◌==◌, List, ap, arith}
use Rattle.std.specs.List.{sum_by, count_by}
use Rattle.lane_core.specs.declared.job.Plain.{Plain}
use Rattle.lane_core.specs.Settling.{Account, AllFound, AreNumbered, EachLaneOnce}
use Rattle.lane_core.specs.inner.Settling.{is_elsewhere}
use Rattle.lane_core.specs.Tickets.{is_ticket_of}
use Rattle.lane_core.specs.Weights.{once}
use Rattle.lane_core.proofs.SiftFacts.{none_aside}
use Rattle.lane_core.proofs.WeightFacts.{sum_each_le, sum_each_none}
use Rattle.lane_core.proofs.TicketFacts.{all_here, ticket_once}

-- the tickets of all lanes, each once at most
submitted_once : (accounts : List Account) → AreNumbered accounts → EachLaneOnce accounts → (l k : ℕ)
    → sum_by (λ a. count_by (is_ticket_of l k) a.submitted) accounts ≤ 1
submitted_once accounts each one l k =
    let a = sum_each_le (λ (u : Account). count_by (is_ticket_of l k) u.submitted) (λ (u : Account). once (u.lane == l)) accounts
    (λ j u e. ticket_once l k u.lane 0 u.submitted (each j u e)) in
    let b = one l in omega arith

-- every submitted row is in one of these places
pub all_found : AllFound
all_found n accounts taken posted collected jobs hands results waiting hand sent each there one of_jobs of_workers of_results of_deliverer =
    let few : (l k : ℕ) → count_by (is_ticket_of l k) collected ≤ 1 = λ l k.
    let t : Plain → ℕ = λ x. once (is_ticket_of l k x) in
    omega (arith, submitted_once accounts each one l k, of_jobs t, of_workers t, of_results t) in
    let out : Plain → ℕ = λ x. once (is_elsewhere n x) in
    let here : sum_by out collected ≡ 0 = omega (
      arith,
      sum_each_none (λ (u : Account). sum_by out u.submitted) accounts
          (λ j u e. all_here n u.lane 0 u.submitted (each j u e) (there j u e)),
      of_jobs out,
      of_workers out,
      of_results out,
    ) in
    let none = none_aside n collected few here in
    (none, λ h. omega (arith, of_jobs h, of_workers h, of_results h, of_deliverer h, ap (sum_by h) none))
