-- One more ticket of a lane (`Hub::submit`), and one more delivery out of its ring (`LaneSeat::poll`).
use Rattle.std.proofs.Common.{◌≡◌, ℕ, ◌+◌, ◌==◌, ◌&&◌, cond, Bool, true, false, suc, List, [], ◌∷◌, ◌++◌, length, length-append, map, refl, sym, ap, ◌∙◌, arith}
use Rattle.std.proofs.lemmas.List.{length-map, map_push}
use Rattle.lane_core.specs.declared.job.Plain.{Plain}
use Rattle.lane_core.specs.Plain.{plain_of}
use Rattle.lane_core.specs.Settling.{kept}
use Rattle.lane_core.specs.Tickets.{is_ticket_of, numbered}
use Rattle.hub_core.specs.declared.rule.Trace.{Trace}
use Rattle.hub_core.specs.Rule.{trace}
use Rattle.hub_core.specs.Serving.{numbered_rows}
use Rattle.element_core.specs.Terms.{Terms}
use Rattle.hub_core.proofs.RowsAreNumbered.{rows_append}
use Rattle.lane_core.proofs.TicketFacts.{numbered_more, ticket_parts}

-- what a lane's seat keeps, after a push
pub lane_more : (v w : Trace) (x : Plain) (lane issued : ℕ) → w ≡ trace v.shares (v.pushed ++ x ∷ []) v.popped
    → v.shares ≡ 1 → v.popped ≡ [] → issued ≡ length v.pushed → numbered lane 0 v.pushed ≡ true → x.lane ≡ lane → x.number ≡ issued
    → (w.shares ≡ 1) × (w.popped ≡ []) × (issued + 1 ≡ length w.pushed) × (numbered lane 0 w.pushed ≡ true)
lane_more v w x lane issued is share none count order at number =
    let put : w.pushed ≡ v.pushed ++ x ∷ [] = ap (λ (h : Trace). h.pushed) is in (
      ap (λ (h : Trace). h.shares) is ∙ share,
      ap (λ (h : Trace). h.popped) is ∙ none,
      omega (arith, ap length put, length-append v.pushed (x ∷ [])),
      ap (numbered lane 0) put ∙ numbered_more lane 0 v.pushed x order at (omega arith),
    )

-- what was submitted are the rows, numbered, one more
pub rows_and_one : (l : ℕ) (year : Terms) (issued : ℕ) (xs ys : List Plain) (row : List ℕ) → xs ≡ numbered_rows l 0 year (map (λ x. x.widths) xs) → issued ≡ length xs → ys ≡ xs
    ++ plain_of l issued year row ∷ []
    → ys ≡ numbered_rows l 0 year (map (λ x. x.widths) ys)
rows_and_one l year issued xs ys row was count is =
    let rows = map (λ (x : Plain). x.widths) xs in
    let more : map (λ (x : Plain). x.widths) ys ≡ rows ++ row ∷ [] =
    ap (map (λ (x : Plain). x.widths)) is ∙ map_push (λ (x : Plain). x.widths) xs (plain_of l issued year row) in
    let long : length rows ≡ length xs = length-map xs (λ (x : Plain). x.widths) in
    let at : 0 + length rows ≡ issued = omega arith in
    is ∙ (ap (λ zs. zs ++ plain_of l issued year row ∷ []) was ∙ (ap (λ m. numbered_rows l 0 year rows ++ plain_of l m year row ∷ []) (sym at)
    ∙ (sym (rows_append l 0 year rows (row ∷ [])) ∙ ap (numbered_rows l 0 year) (sym more))))

-- an item before a list that is one of two
put_in : (b : Bool) (p : Plain) (xs ys : List Plain) → p ∷ cond b xs ys ≡ cond b (p ∷ xs) (p ∷ ys)
put_in true p xs ys = refl
put_in false p xs ys = refl

-- what was kept from number n on, and x if it is the next number
abbrev kept_with : ℕ → ℕ → List Plain → Plain → List Plain
kept_with lane n xs x = cond (is_ticket_of lane (n + length xs) x) (xs ++ x ∷ []) xs

-- what is kept of one more, behind a first item that is kept if b is so
at_last : (b : Bool) (lane n : ℕ) (p : Plain) (ps : List Plain) (x : Plain)
    → kept lane (suc n) (ps ++ x ∷ []) ≡ kept_with lane (suc n) (kept lane (suc n) ps) x
    → kept lane n (ps ++ x ∷ []) ≡ kept_with lane n (kept lane n ps) x
    → cond b (p ∷ kept lane (suc n) (ps ++ x ∷ [])) (kept lane n (ps ++ x ∷ [])) ≡ kept_with lane n (cond b (p ∷ kept lane (suc n) ps) (kept lane n ps)) x
at_last true lane n p ps x is _ =
    let rest = kept lane (suc n) ps in
    let e : suc n + length rest ≡ n + suc (length rest) = omega arith in
    ap (λ l. p ∷ l) is ∙ (put_in (is_ticket_of lane (suc n + length rest) x) p (rest ++ x ∷ []) rest
    ∙ ap (λ m. cond (is_ticket_of lane m x) (p ∷ (rest ++ x ∷ [])) (p ∷ rest)) e)
at_last false lane n p ps x _ is = is

-- what is kept of one more: it too, if it is the lane's next number
kept_more : (lane n : ℕ) (ps : List Plain) (x : Plain) → kept lane n (ps ++ x ∷ []) ≡ kept_with lane n (kept lane n ps) x
kept_more lane n [] x = let e : n ≡ n + 0 = omega arith in ap (λ m. cond (is_ticket_of lane m x) (x ∷ []) []) e
kept_more lane n (p ∷ ps) x = at_last (is_ticket_of lane n p) lane n p ps x (kept_more lane (suc n) ps x) (kept_more lane n ps x)

-- what is polled, by whether the delivery is the lane's next
pub polled_more : (lane k : ℕ) (old new : List Plain) (x : Plain) (b : Bool) → new ≡ old ++ x ∷ [] → k ≡ length (kept lane 0 old) → is_ticket_of lane k x ≡ b
    → kept lane 0 new ≡ cond b (kept lane 0 old ++ x ∷ []) (kept lane 0 old)
polled_more lane k old new x b is count test =
    let e : 0 + length (kept lane 0 old) ≡ k = omega arith in
    ap (kept lane 0) is ∙ (kept_more lane 0 old x ∙ (ap (λ m. cond (is_ticket_of lane m x) (kept lane 0 old ++ x ∷ []) (kept lane 0 old)) e
    ∙ ap (λ c. cond c (kept lane 0 old ++ x ∷ []) (kept lane 0 old)) test))

-- what `poll` asks of the ticket is `is_ticket_of` of the delivery
pub test_of : (tl tn xl xn lane k : ℕ) (r b : Bool) → r ≡ ((tl == lane) && (tn == k)) → tl ≡ xl → tn ≡ xn → r ≡ b → ((xl == lane) && (xn == k)) ≡ b
test_of tl tn xl xn lane k r b is l n at = (λ i. (sym l i == lane) && (sym n i == k)) ∙ (sym is ∙ at)

-- what a lane's seat keeps of what it has polled, after it polled x
pub polls_more : (lane k : ℕ) (old new : List Plain) (x : Plain) → new ≡ old ++ x ∷ [] → k ≡ length (kept lane 0 old) → numbered lane 0 (kept lane 0 old) ≡ true
    → is_ticket_of lane k x ≡ true
    → (kept lane 0 new ≡ kept lane 0 old ++ x ∷ []) × (k + 1 ≡ length (kept lane 0 new)) × (numbered lane 0 (kept lane 0 new) ≡ true)
polls_more lane k old new x is count order test =
    let e = polled_more lane k old new x true is count test in
    let p = ticket_parts lane k x test in (
      e,
      omega (arith, ap length e, length-append (kept lane 0 old) (x ∷ [])),
      ap (numbered lane 0) e
          ∙ numbered_more lane 0 (kept lane 0 old) x order p.0 (omega (arith, p.1)),
    )
