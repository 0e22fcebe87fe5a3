-- The seats of a new hub, one by one: for `make_lanes` and `make_workers`.
use Rattle.std.proofs.Common.{◌≡◌, ℕ, ◌+◌, ◌-◌, List, [], ◌∷◌, ◌++◌, length, length-append, sym, ap, ◌∙◌, subst, arith}
use Rattle.std.specs.List.{slice_get, All, range_with_len}
use Rattle.std.proofs.lemmas.List.Elements.{All-push}
use Rattle.std.proofs.lemmas.List.{map-append, map-id}
use Rattle.std.proofs.lemmas.List.FromFn.{map-range_with_len_more}
use Rattle.rtrb.specs.Ring.{IsPair}
use Rattle.hub_core.specs.declared.lane_seat.LaneSeat.{LaneSeat}
use Rattle.hub_core.specs.declared.rule.Trace.{Trace}
use Rattle.hub_core.specs.inner.Fresh.{IsPairedIn}
use Rattle.hub_core.specs.Lanes.{numbers_of}
use Rattle.hub_core.specs.Rings.{PushEnd}
use Rattle.hub_core.specs.Rule.{trace}
use Rattle.hub_core.proofs.ListsByPlace.{get_below, get_last}
use Rattle.hub_core.proofs.PassesAreJoined.{trace_is}

-- one more lane, with its ring
pub paired_more : (rings : List PushEnd) (ss : List LaneSeat) (r : PushEnd) (s : LaneSeat)
    → All (IsPairedIn rings) ss → s.lane ≡ length rings → IsPair r s.ring → All (IsPairedIn (rings ++ r ∷ [])) (ss ++ s ∷ [])
paired_more rings ss r s paired at pair =
    let longer = length-append rings (r ∷ []) in
    All-push (IsPairedIn (rings ++ r ∷ [])) ss s
    (λ k d less. let p = paired k d less in (omega arith, λ t e. p.1 t (get_below rings r t _ p.0 e)))
    (omega arith, λ t e. subst (λ (u : PushEnd). IsPair u s.ring) (get_last rings r t (ap (slice_get (rings ++ r ∷ [])) (sym at) ∙ e)) pair)

-- one share less
pub cut_more : (b v : Trace) (i : ℕ) → v ≡ trace (b.shares - i) b.pushed b.popped → trace (v.shares - 1) v.pushed v.popped
    ≡ trace (b.shares - (i + 1)) b.pushed b.popped
cut_more b v i is = trace_is _ _ _ _ _ _ (let e = ap (λ (h : Trace). h.shares) is in omega arith) (ap (λ (h : Trace). h.pushed) is)
    (ap (λ (h : Trace). h.popped) is)

-- one number more
pub seat_numbers_more : (ss ts : List LaneSeat) (s : LaneSeat) (i : ℕ) → numbers_of ss ≡ range_with_len 0 i → ts ≡ ss ++ s ∷ [] → s.lane ≡ i → numbers_of ts
    ≡ range_with_len 0 (i + 1)
seat_numbers_more ss ts s i was is at =
    ap numbers_of is ∙ (map-append (λ (u : LaneSeat). u.lane) ss (s ∷ [])
    ∙ ((λ j. was j ++ at j ∷ []) ∙ (ap (λ ks. ks ++ i ∷ []) (sym (map-id (range_with_len 0 i)))
    ∙ (sym (map-range_with_len_more (λ k. k) 0 i i (omega arith)) ∙ map-id (range_with_len 0 (i + 1))))))
