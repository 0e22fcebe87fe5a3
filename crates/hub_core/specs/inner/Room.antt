-- Room that is taken before anything is started or closed: for `worker_threads.rt` and `traffic_serving.rt`.
use Rattle.std.specs.Prelude.{◌≡◌, ◌≤◌, ℕ, [], vec_capacity, vec_len}
use Rattle.std.specs.declared.vec.Vec.{Vec}
use Rattle.std.proofs.Common.{Global}

-- an empty list with room for this many
abbrev pub IsRoomFor : {X : Type 0} → ℕ → Vec X Global → Type 0
IsRoomFor n room = (room.items ≡ []) × (vec_len room ≡ 0) × (n ≤ vec_capacity room)
