-- The rows of each lane as records come: one more goes to its lane, which has no more rows than there are records.
use Rattle.std.proofs.Common.{◌==◌, ◌++◌, ◌<◌, ◌≤◌, ◌≡◌, ◌≢◌, ◌∙◌, ◌∷◌, inl, inr, List, [], ap, arith, false, get_or, length, map, not, refl, set, sym, true, ℕ}
use Rattle.std.specs.List.{filter}
use Rattle.std.proofs.lemmas.Bool.{eq-eqb, ne_eqb, cases_eq}
use Rattle.std.proofs.lemmas.List.{append-nil, get_or-set_other, get_or-set_same, length-map, length-set, map-append}
use Rattle.std.proofs.lemmas.List.Filters.{length-filter_both}
use Rattle.std.proofs.lemmas.List.FromFn.{fill_by_all, get_or-map-range_with_len, length-map-range_with_len}
use Rattle.std.proofs.lemmas.List.Elements.{filter-append}
use Rattle.csv_records.specs.lanes.Feeds.{LaneRow, feed_of, feeds_of}

-- a record of the lane adds its row
feed_same : (lane : ℕ) (rows : List LaneRow) (r : LaneRow) → r.0 ≡ lane → feed_of lane (rows ++ r ∷ []) ≡ feed_of lane rows ++ r.1 ∷ []
feed_same lane rows r is =
    let test : (r.0 == lane) ≡ true = eq-eqb (r.0) lane is in
    ap (map (λ x. x.1)) (filter-append (λ x. x.0 == lane) rows (r ∷ [])) ∙ rw test (map-append (λ x. x.1) (filter (λ x. x.0 == lane) rows) (r ∷ []))

-- and one of another lane adds nothing
feed_other : (lane : ℕ) (rows : List LaneRow) (r : LaneRow) → r.0 ≢ lane → feed_of lane (rows ++ r ∷ []) ≡ feed_of lane rows
feed_other lane rows r is =
    let test : (r.0 == lane) ≡ false = ne_eqb (r.0) lane is in
    ap (map (λ x. x.1)) (filter-append (λ x. x.0 == lane) rows (r ∷ [])) ∙ rw test (ap (map (λ x. x.1)) (append-nil (filter (λ x. x.0 == lane) rows)))

-- the feed at a place after one more record
feed_after : (lanes : ℕ) (rows : List LaneRow) (r : LaneRow) (k : ℕ) → r.0 < lanes → k < lanes
    → get_or (set (feeds_of lanes rows) (r.0) (feed_of (r.0) rows ++ r.1 ∷ [])) k [] ≡ feed_of k (rows ++ r ∷ [])
feed_after lanes rows r k low small =
    let long : length (feeds_of lanes rows) ≡ lanes = length-map-range_with_len (λ lane. feed_of lane rows) 0 lanes in
    let added = feed_of (r.0) rows ++ r.1 ∷ [] in
    elim (cases_eq (r.0) k) [
      | inl is ↦ rw (← is) (get_or-set_same (feeds_of lanes rows) (r.0) added [] (omega (arith, long)) ∙ sym (feed_same (r.0) rows r refl))
      | inr other ↦ get_or-set_other (feeds_of lanes rows) (r.0) k added [] (λ e. other (sym e))
          ∙ get_or-map-range_with_len (λ lane. feed_of lane rows) 0 lanes k k [] small (omega arith) ∙ sym (feed_other k rows r other)
    ]

-- the row of one more record goes to the end of the feed of its lane
pub feeds_more : (lanes : ℕ) (rows : List LaneRow) (r : LaneRow) → r.0 < lanes
    → set (feeds_of lanes rows) (r.0) (feed_of (r.0) rows ++ r.1 ∷ []) ≡ feeds_of lanes (rows ++ r ∷ [])
feeds_more lanes rows r low =
    let long : length (feeds_of lanes rows) ≡ lanes = length-map-range_with_len (λ lane. feed_of lane rows) 0 lanes in
    let added = feed_of (r.0) rows ++ r.1 ∷ [] in
    fill_by_all (λ lane. feed_of lane (rows ++ r ∷ [])) (set (feeds_of lanes rows) (r.0) added) lanes []
    (length-set (feeds_of lanes rows) (r.0) added ∙ long) (λ k small. feed_after lanes rows r k low small)

-- a lane has as many rows as there are records at most
pub feed_short : (rows : List LaneRow) (lane : ℕ) → length (feed_of lane rows) ≤ length rows
feed_short rows lane =
    let both = length-filter_both (λ (r : LaneRow). r.0 == lane) (λ r. not (r.0 == lane)) (λ r. refl) rows in
    omega (arith, both, length-map (filter (λ (r : LaneRow). r.0 == lane) rows) (λ x. x.1))
