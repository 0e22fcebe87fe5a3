-- What there is of a number that becomes its lane's next: for `slot_of` and `take_next`.
-- `es` and `ks` are the entries and known tickets of later numbers before the number becomes the next, `fs` and `ts` those after.
use Rattle.std.proofs.Common.{◌≡◌, ℕ, ◌<◌, ◌^◌, ◌==◌, ◌&&◌, ◌||◌, Bool, true, false, List, [], Some, None, refl, sym, ap, ◌∙◌, arith}
use Rattle.std.specs.List.{list_any}
use Rattle.std.specs.Map.{lookup, remove_entry, values_of}
use Rattle.std.specs.Option.{is_some}
use Rattle.std.specs.Set.{remove_key}
use Rattle.std.proofs.lemmas.Bool.{and_parts, eqb-true, or_left, lt-ltb}
use Rattle.lane_core.specs.declared.next_slot.NextSlot.TheVariants.{Here, Missing, Out}
use Rattle.lane_core.specs.declared.job.Plain.{Plain}
use Rattle.lane_core.specs.declared.ticket.Ticket.{Ticket}
use Rattle.lane_core.specs.ReorderBuffer.{is_known}
use Rattle.lane_core.specs.inner.NextSlots.{Advances, AreIndexed, is_tied}
use Rattle.lane_core.specs.Tickets.{is_among, is_ticket_of}
use Rattle.lane_core.proofs.TicketLookup.{Finds, any_finds, found_among, found_ticket, gone_known, gone_more, gone_tied}
use Rattle.lane_core.proofs.TruthFacts.{and_false_or}

-- there are no later numbers
pub none_later : (l k : ℕ) (es : List (Ticket × Plain)) (ks : List Ticket) → AreIndexed es ks → ks ≡ [] → Advances l k es ks es ks Missing
none_later l k es ks indexed none = record {
  own = tt;
  indexed = indexed;
  waiting = λ h. omega arith;
  same = λ m n. and_false_or ((l == m) && (k == n)) (is_known m n ks);
  gone = λ small. ap (is_known l k) none;
}

-- where lane l's number k was known and now is the lane's next, the tickets are known as they were
come_there : (l k m n : ℕ) (ks ts : List Ticket) → is_known l k ks ≡ true → (((l == m) && (k == n)) ≡ false → is_known m n ts ≡ is_known m n ks)
    → (b : Bool) → ((l == m) && (k == n)) ≡ b → ((((l == m) && (k == n)) && true) || is_known m n ts) ≡ is_known m n ks
come_there l k m n ks ts there other true is =
    let p = and_parts (l == m) (k == n) is in
    ap (λ b. (b && true) || is_known m n ts) is ∙ (sym there ∙ (λ i. is_known (eqb-true l m p.0 i) (eqb-true k n p.1 i) ks))
come_there l k m n ks ts there other false is = ap (λ b. (b && true) || is_known m n ts) is ∙ other is

-- the test finds lane l's number k, which was known, and is taken off the known tickets; `&& true` says that the number has come (`has_come`)
module _ (test : Ticket → Bool) (l k : ℕ) (finds : Finds test l k) (es : List (Ticket × Plain)) (ks : List Ticket) (indexed : AreIndexed es ks)
    (there : list_any test ks ≡ true) (gone : list_any test (remove_key test ks) ≡ false) where
  was : is_known l k ks ≡ true
  was = sym (any_finds test l k finds ks) ∙ there

  is_gone : is_known l k (remove_key test ks) ≡ false
  is_gone = sym (any_finds test l k finds (remove_key test ks)) ∙ gone

  known_as : (m n : ℕ) → ((((l == m) && (k == n)) && true) || is_known m n (remove_key test ks)) ≡ is_known m n ks
  known_as m n = come_there l k m n ks (remove_key test ks) was (λ not_it. gone_known test l k finds m n not_it ks) ((l == m) && (k == n)) refl

  still_known : (fs : List (Ticket × Plain)) → ((m n : ℕ) → is_among m n (values_of fs) ≡ true → is_among m n (values_of es) ≡ true)
      → is_among l k (values_of fs) ≡ false
      → (m n : ℕ) → is_among m n (values_of fs) ≡ true → is_known m n (remove_key test ks) ≡ true
  still_known fs less none m n is = by ((l == m) && (k == n)) refl
    where
      by : (b : Bool) → ((l == m) && (k == n)) ≡ b → is_known m n (remove_key test ks) ≡ true
      by true e =
          let p = and_parts (l == m) (k == n) e in
          absurd (let c : true ≡ false = sym is ∙ ((λ i. is_among (sym (eqb-true l m p.0) i) (sym (eqb-true k n p.1) i) (values_of fs)) ∙ none) in cc)
      by false e = gone_known test l k finds m n e ks ∙ indexed.among m n (less m n is)

  -- it was taken out of turn
  pub was_out : lookup test es ≡ None → Advances l k es ks es (remove_key test ks) Out
  was_out none = record {
    own = tt;
    indexed = record {
      tied = indexed.tied;
      among = still_known es (λ m n is. is) (sym (found_among test l k finds es indexed.tied) ∙ ap (λ o. is_some o) none);
    };
    waiting = λ h. omega arith;
    same = known_as;
    gone = λ small. is_gone;
  }

  -- it waits
  pub was_here : (x : Plain) → lookup test es ≡ Some x → lookup test (remove_entry test es) ≡ None → k < 2 ^ 32
      → Advances l k es ks (remove_entry test es) (remove_key test ks) (Here x)
  was_here x at none small =
      let more = gone_more test es x at in
      record {
        own = own x at;
        indexed = record {
          tied = gone_tied test es indexed.tied;
          among = still_known (remove_entry test es) (λ m n is. more.among m n
              ∙ or_left (is_among m n (values_of (remove_entry test es))) (is_ticket_of m n x) is)
              (sym (found_among test l k finds (remove_entry test es) (gone_tied test es indexed.tied)) ∙ ap (λ o. is_some o) none);
        };
        waiting = λ h. let w = more.weight h in omega arith;
        same = known_as;
        gone = λ small. is_gone;
      }
    where
      own : (x : Plain) → lookup test es ≡ Some x → is_tied (record { lane = l; number = k }, x) ≡ true
      own x at = (λ i. found_ticket test l k finds es x indexed.tied at i && lt-ltb k (2 ^ 32) small i)
