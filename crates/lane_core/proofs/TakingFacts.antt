-- How a deliverer takes in a delivery that was not taken in before: for `Deliverer::take_in`.
-- BufferFacts says what `nexts`, `hs`, `es` and `ks` are.
use Rattle.std.proofs.Common.{◌≡◌, ◌≢◌, ◌<◌, ◌^◌, ◌&&◌, ◌==◌, ◌||◌, List, ℕ, length, get_or, set, false, true, refl, sym, ◌∙◌, subst}
use Rattle.std.specs.BTreeMap.{insert_entry, is_at}
use Rattle.std.specs.BTreeSet.{insert_key}
use Rattle.std.specs.Map.{lookup}
use Rattle.std.specs.Option.{is_some}
use Rattle.std.specs.Set.{remove_key}
use Rattle.lane_core.specs.declared.next_slot.NextSlot.{NextSlot}
use Rattle.lane_core.specs.declared.next_slot.NextSlot.TheVariants.{Here}
use Rattle.lane_core.specs.declared.job.Plain.{Plain}
use Rattle.lane_core.specs.declared.ticket.Ticket.{Ticket}
use Rattle.lane_core.specs.ReorderBuffer.{TakesIn, is_known, was_taken}
use Rattle.lane_core.specs.inner.NextSlots.{AreKept, IsSlotOf, are_tied, is_tied}
use Rattle.lane_core.specs.NextSlots.{buffer_by_slots}
use Rattle.lane_core.specs.Tickets.{is_ticket_of}
use Rattle.lane_core.proofs.BufferFacts.{kept_later, kept_set, not_known, not_later, took_later, took_next}
use Rattle.lane_core.proofs.TicketLookup.{MoreBy, cmp_tickets, finds_own, found_among, own_tied, put_gone, put_known, put_more, put_tied}

-- a delivery x under its ticket t, which was not taken in
module _ (nexts : List ℕ) (hs : List NextSlot) (es : List (Ticket × Plain)) (ks : List Ticket) (kept : AreKept nexts hs es ks) (t : Ticket) (x : Plain)
    (lane : t.lane ≡ x.lane) (number : t.number ≡ x.number) (small : t.number < 2 ^ 32) (low : x.lane < length nexts)
    (fresh : was_taken (buffer_by_slots nexts hs es ks) t.lane t.number ≡ false) where
  -- in the form that BufferFacts asks for: x stands under its ticket, was not taken in, and may wait in its lane's slot
  tied : is_tied (t, x) ≡ true
  tied = own_tied t x lane number small

  new : was_taken (buffer_by_slots nexts hs es ks) x.lane x.number ≡ false
  new = (λ i. was_taken (buffer_by_slots nexts hs es ks) (sym lane i) (sym number i)) ∙ fresh

  own : t.number ≡ get_or nexts x.lane 0 → IsSlotOf x.lane (get_or nexts x.lane 0) (Here x)
  own next = subst (λ (u : ℕ × ℕ). is_tied (record { lane = u.0; number = u.1 }, x) ≡ true) (λ i. (lane i, next i)) tied

  -- as its lane's next number
  pub head_kept : t.number ≡ get_or nexts x.lane 0 → AreKept nexts (set hs x.lane (Here x)) es ks
  head_kept next = kept_set nexts hs es ks x.lane (Here x) kept low (own next)

  pub head_taken : t.number ≡ get_or nexts x.lane 0 → TakesIn (buffer_by_slots nexts hs es ks) x (buffer_by_slots nexts (set hs x.lane (Here x)) es ks)
  head_taken next = took_next nexts hs es ks x.lane x kept low refl (sym number ∙ next) new

  -- its ticket is not known as a later one, and no entry has it
  unknown : is_known t.lane t.number ks ≡ false
  unknown = not_known nexts hs es ks t.lane t.number kept.lanes fresh

  absent : is_some (lookup (is_at (cmp_tickets t)) es) ≡ false
  absent = found_among (is_at (cmp_tickets t)) t.lane t.number (finds_own t) es kept.indexed.tied ∙ not_later es ks t.lane t.number kept.indexed unknown

  more : MoreBy es x (insert_entry cmp_tickets es t x)
  more = put_more cmp_tickets t x es absent

  still_tied : are_tied (insert_entry cmp_tickets es t x) ≡ true
  still_tied = put_tied cmp_tickets t x es tied kept.indexed.tied absent

  known : (l k : ℕ) → is_known l k (insert_key cmp_tickets ks t) ≡ (is_known l k ks || is_ticket_of l k x)
  known l k = put_known t l k ks ∙ (λ i. is_known l k ks || ((lane i == l) && (number i == k)))

  -- as a later number
  pub later_kept : t.number ≢ get_or nexts x.lane 0 → AreKept nexts hs (insert_entry cmp_tickets es t x) (insert_key cmp_tickets ks t)
  later_kept later = kept_later nexts hs es (insert_entry cmp_tickets es t x) ks (insert_key cmp_tickets ks t) x kept (λ e. later (number ∙ e)) more still_tied
      known

  pub later_taken : TakesIn (buffer_by_slots nexts hs es ks) x (buffer_by_slots nexts hs (insert_entry cmp_tickets es t x) (insert_key cmp_tickets ks t))
  later_taken = took_later nexts hs es (insert_entry cmp_tickets es t x) ks (insert_key cmp_tickets ks t) x kept.lanes low new more known

  -- its ticket was put in and taken out again
  pub keys_back : remove_key (is_at (cmp_tickets t)) (insert_key cmp_tickets ks t) ≡ ks
  keys_back = put_gone t ks unknown
