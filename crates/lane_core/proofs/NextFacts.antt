-- Whether a lane's next number waits, by what `Deliverer::next` answers: for `World::hand`.
use Rattle.std.proofs.Common.{◌≡◌, ℕ, true, false, Option, sym, ap, ◌∙◌}
use Rattle.std.specs.Option.{is_some}
use Rattle.std.proofs.lemmas.Bool.{false_from_ne_true}
use Rattle.std.proofs.lemmas.List.Folds.{list_any_at}
use Rattle.lane_core.specs.declared.job.Plain.{Plain}
use Rattle.lane_core.specs.ReorderBuffer.{ReorderBuffer, WaitsAsNext, has_next, next_of}
use Rattle.lane_core.specs.Tickets.{is_ticket_of}
use Rattle.lane_core.proofs.ResultFacts.{not_done}
use Rattle.lane_core.proofs.TicketFacts.{ticket_from}

-- where it answers a delivery, the next number waits
pub next_has : (d : ReorderBuffer) (l : ℕ) (x : Plain) → WaitsAsNext d l x → has_next d l ≡ true
next_has d l x n =
    let is = is_ticket_of l (next_of d l) in
    list_any_at is d.waiting n.waits.0 x n.waits.1 (ap is n.waits.2 ∙ ticket_from l (next_of d l) x n.lane n.number)

-- and where it answers none, none does
pub none_has : {X : Type 0} (d : ReorderBuffer) (l : ℕ) (o : Option X) → is_some o ≡ false → (has_next d l ≡ true → is_some o ≡ true) → has_next d l ≡ false
none_has d l o none e = false_from_ne_true (has_next d l) (λ is. not_done (sym (e is) ∙ none))
