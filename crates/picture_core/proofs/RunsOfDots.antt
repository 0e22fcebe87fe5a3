-- The runs of a row's dots, dot by dot.
use Rattle.std.proofs.Common.{◌≡◌, ◌∙◌, ℕ, ◌+◌, ◌<◌, ◌≤◌, Bool, true, false, not, List, [], ◌∷◌, ◌++◌, length, drop, get_or, set, take, replicate, ap, append_assoc, arith, refl, sym, subst}
use Rattle.std.specs.Prelude.{nat_lt}
use Rattle.std.specs.List.{AllByRecursion}
use Rattle.std.proofs.lemmas.List.{length-append, length-set, map-append, replicate_more, take_all, take_more, take_more_set}
use Rattle.std.proofs.lemmas.List.Sums.{sum_by_push}
use Rattle.scan_core.specs.Row.{dots_from}
use Rattle.scan_core.specs.inner.Cutting.{Cut, IsRowOf, colour}
use Rattle.scan_core.proofs.RunsCutOfDots.{end_dark, end_light}
use mathlib.Core.Bool.{beq}
use Rattle.scan_core.proofs.DotFacts.{colour_more, dots_from-push}
use Rattle.scan_core.proofs.RowFacts.{each-push}
use Rattle.picture_core.specs.Rows.{dark_dots}

-- one dot more of the run that the last dot is in
same_run : (widths : List ℕ) (run : ℕ) (dark : Bool) (n : ℕ) (dots : List Bool) → Cut widths run dark n dots
    → Cut widths (run + 1) dark (n + 1) (dots ++ dark ∷ [])
same_run widths run dark n dots h = record {
  joined =
      ap (λ ds. dots_from false widths ++ ds) (sym (replicate_more run dark))
      ∙ sym (append_assoc (dots_from false widths) (replicate run dark) (dark ∷ []))
      ∙ ap (λ ds. ds ++ dark ∷ []) h.joined;
  dark_is = h.dark_is;
  each = h.each;
  begun = λ some. omega arith;
  total = let t = h.total in omega arith;
}

each_more : (widths : List ℕ) (run : ℕ) → AllByRecursion (λ w. 1 ≤ w) (drop 1 widths) → (0 < length widths → 0 < run)
    → AllByRecursion (λ w. 1 ≤ w) (drop 1 (widths ++ run ∷ []))
each_more [] run each begun = tt
each_more (w ∷ ws) run each begun = each-push (λ w. 1 ≤ w) ws run each (begun (omega arith))

-- the first dot of the next run
next_run : (widths : List ℕ) (run : ℕ) (dark : Bool) (n : ℕ) (dots : List Bool) → Cut widths run dark n dots
    → Cut (widths ++ run ∷ []) 1 (not dark) (n + 1) (dots ++ not dark ∷ [])
next_run widths run dark n dots h =
    let count = length-append widths (run ∷ []) in
    let finished : dots_from false (widths ++ run ∷ []) ≡ dots =
    dots_from-push false widths run ∙ ap (λ d. dots_from false widths ++ replicate run d) (sym h.dark_is) ∙ h.joined in
    record {
      joined = ap (λ ds. ds ++ not dark ∷ []) finished;
      dark_is = ap not h.dark_is ∙ sym (colour_more false (length widths)) ∙ ap (colour false) (sym count);
      each = each_more widths run h.each h.begun;
      begun = λ some. omega arith;
      total = let t = h.total in omega (arith, sum_by_push (λ x. x) widths run);
    }

-- the dots of a row up to the next one
dots_more : (level : ℕ) (row : List ℕ) (n : ℕ) → n < length row
    → dark_dots level (take (n + 1) row) ≡ dark_dots level (take n row) ++ nat_lt (get_or row n 0) level ∷ []
dots_more level row n within =
    ap (dark_dots level) (take_more row n 0 within) ∙ map-append (λ grey. nat_lt grey level) (take n row) (get_or row n 0 ∷ [])

-- the runs of the dots so far, with a dot as the one before it
pub goes_on : (level : ℕ) (row widths : List ℕ) (run : ℕ) (dark : Bool) (n : ℕ) → n < length row → nat_lt (get_or row n 0) level ≡ dark
    → Cut widths run dark n (dark_dots level (take n row)) → Cut widths (run + 1) dark (n + 1) (dark_dots level (take (n + 1) row))
goes_on level row widths run dark n within same h =
    rw (dots_more level row n within, same) (same_run widths run dark n (dark_dots level (take n row)) h)

-- the same with a dot of the other colour
pub turns : (level : ℕ) (row widths all : List ℕ) (run : ℕ) (dark : Bool) (n : ℕ) → n < length row → nat_lt (get_or row n 0) level ≡ not dark
    → all ≡ widths ++ run ∷ []
    → Cut widths run dark n (dark_dots level (take n row)) → Cut all 1 (not dark) (n + 1) (dark_dots level (take (n + 1) row))
turns level row widths all run dark n within other same h =
    rw (same, dots_more level row n within, other) (next_run widths run dark n (dark_dots level (take n row)) h)

-- no dot yet
pub none_yet : (level : ℕ) (row : List ℕ) → Cut [] 0 false 0 (dark_dots level (take 0 row))
none_yet level row = record { joined = refl; dark_is = refl; each = tt; begun = λ some. absurd (omega arith); total = refl }

beq_same : (a b : Bool) → beq a b ≡ true → a ≡ b
beq_same true true e = refl
beq_same true false e = cc
beq_same false true e = cc
beq_same false false e = refl

beq_other : (a b : Bool) → beq a b ≡ false → a ≡ not b
beq_other true true e = cc
beq_other true false e = refl
beq_other false true e = refl
beq_other false false e = cc

-- the runs so far, in the room for them
pub record SoFar (level : ℕ) (row widths : List ℕ) (count run : ℕ) (dark : Bool) (n : ℕ) : Type 0 where
  pub cut : Cut (take count widths) run dark n (dark_dots level (take n row))
  pub few : count ≤ n
  pub narrow : run ≤ n

pub so_far_same : (level : ℕ) (row widths : List ℕ) (count run : ℕ) (dark : Bool) (n : ℕ) → n < length row
    → beq (nat_lt (get_or row n 0) level) dark ≡ true → SoFar level row widths count run dark n → SoFar level row widths count (run + 1) dark (n + 1)
so_far_same level row widths count run dark n within same h =
    let few = h.few in
    let narrow = h.narrow in
    record {
      cut = goes_on level row (take count widths) run dark n within (beq_same _ dark same) h.cut;
      few = omega arith;
      narrow = omega arith;
    }

pub so_far_other : (level : ℕ) (row widths : List ℕ) (count run : ℕ) (dark : Bool) (n : ℕ) → n < length row → count < length widths
    → beq (nat_lt (get_or row n 0) level) dark ≡ false → SoFar level row widths count run dark n
    → SoFar level row (set widths count run) (count + 1) 1 (not dark) (n + 1)
so_far_other level row widths count run dark n within room other h =
    let few = h.few in
    record {
      cut = turns level row (take count widths) _ run dark n within (beq_other _ dark other) (take_more_set widths count run room) h.cut;
      few = omega arith;
      narrow = omega arith;
    }

pub so_far_none : (level : ℕ) (row widths : List ℕ) → SoFar level row widths 0 0 false 0
so_far_none level row widths = record { cut = none_yet level row; few = omega arith; narrow = omega arith }

whole : (level : ℕ) (row ws : List ℕ) (run : ℕ) (dark : Bool) (n : ℕ) → length row ≤ n → Cut ws run dark n (dark_dots level (take n row))
    → Cut ws run dark n (dark_dots level row)
whole level row ws run dark n all h = subst (λ r. Cut ws run dark n (dark_dots level r)) (take_all n row all) h

-- the runs of a row that ends light, and of one that ends dark
pub row_light : (level : ℕ) (row widths : List ℕ) (count run : ℕ) (dark : Bool) (n : ℕ) → length row ≤ n → n ≤ 65535 → count < length widths
    → dark ≡ false → SoFar level row widths count run dark n
    → IsRowOf (take (count + 1) (set widths count run)) (dark_dots level row)
row_light level row widths count run dark n all few room light h =
    end_light (take count widths) _ run dark n (dark_dots level row) (whole level row (take count widths) run dark n all h.cut) light few
    (take_more_set widths count run room)

pub row_dark : (level : ℕ) (row widths : List ℕ) (count run : ℕ) (dark : Bool) (n : ℕ) → length row ≤ n → n ≤ 65535 → count + 1 < length widths
    → dark ≡ true → SoFar level row widths count run dark n
    → IsRowOf (take (count + 1 + 1) (set (set widths count run) (count + 1) 0)) (dark_dots level row)
row_dark level row widths count run dark n all few room ends h =
    let less : count < length widths = omega arith in
    let long = length-set widths count run in
    let within : count + 1 < length (set widths count run) = omega arith in
    end_dark (take count widths) _ _ run dark n (dark_dots level row) (whole level row (take count widths) run dark n all h.cut) ends few
    (take_more_set widths count run less) (take_more_set (set widths count run) (count + 1) 0 within)
