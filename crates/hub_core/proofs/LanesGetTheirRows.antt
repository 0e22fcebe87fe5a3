-- What each lane is given: its rows' deliveries, under the tickets that were returned. The laws `tickets_are_kept`, `polled_first` and `headline`.
use Rattle.std.proofs.Common.{◌≡◌, ◌+◌, ◌++◌, ◌∷◌, ℕ, suc, List, [], Some, ap, arith, get_or, length, length-append, refl, subst, sym, ◌∙◌}
use Rattle.std.specs.List.{slice_get}
use Rattle.std.proofs.lemmas.List.{append_assoc, get_or_at}
use Rattle.lane_core.specs.Plain.{plain_of}
use Rattle.lane_core.specs.declared.job.Plain.{Plain}
use Rattle.hub_core.specs.Laws.{AreAnswersOf, EarlierFirst, Headline, SettledFirst, TicketsAreKept}
use Rattle.hub_core.proofs.RowsAreNumbered.{numbered_row_at}
use Rattle.hub_core.proofs.SeatsAsLanes.{HasPolledFirst, IsSettled}
use Rattle.hub_core.proofs.ServedAreRead.{rows_read}
use Rattle.hub_core.proofs.ListsByPlace.{all_at}

pub ticket_kept : TicketsAreKept
ticket_kept year before lane row later lanes lists i number rows settled at =
    let is = all_at (IsSettled year lists) lanes i lane settled at in
    let k : ℕ = length before.rows in
    let all : lane.rows ≡ before.rows ++ row ∷ later = rows ∙ append_assoc before.rows (row ∷ []) later in
    let count : length lane.rows ≡ k + suc (length later) = ap length all ∙ length-append before.rows (row ∷ later) in
    let found = numbered_row_at lane.number 0 k k year lane.rows (omega arith) (omega arith) in
    let here : get_or lane.rows k [] ≡ row = ap (λ (xs : List (List ℕ)). get_or xs k []) all ∙ get_or_at before.rows row later [] k refl in
    ap (λ xs. slice_get xs k) is ∙ (found ∙ (λ j. Some (plain_of (number j) k year (here j))))

pub settled_first : SettledFirst
settled_first year lanes lists settled k d less = (get_or lists (get_or lanes k d).number [], settled k d less)

pub earlier_first : EarlierFirst
earlier_first year before lane later lanes i polled first at =
    let is = all_at (HasPolledFirst year) lanes i lane first at in (
      later ++ is.0,
      sym (append_assoc before.polled later is.0) ∙ (ap (λ (xs : List Plain). xs ++ is.0) (sym polled) ∙ is.1),
    )

pub headline : Headline
headline year lanes lists i lane answers settled at all =
    let is = all_at (IsSettled year lists) lanes i lane settled at in
    rows_read lane.number 0 year lane.rows answers (subst (λ (xs : List Plain). AreAnswersOf xs answers) is all)
