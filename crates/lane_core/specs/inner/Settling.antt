-- Deliveries of lanes that a deliverer does not have: for proofs on `Settling`.
use Rattle.std.specs.Prelude.{ℕ, Bool, not, nat_lt}
use Rattle.lane_core.specs.declared.job.Plain.{Plain}

-- whether its lane is none of the first n
abbrev pub is_elsewhere : ℕ → Plain → Bool
is_elsewhere n x = not (nat_lt x.lane n)
