-- A row for each list of dots.
use Rattle.std.proofs.Common.{◌≡◌, ℕ, zero, suc, ◌+◌, ◌-◌, ◌%◌, ◌≤◌, Bool, true, false, not, List, [], ◌∷◌, length, take, sum, replicate, refl, sym, ap, ap₂, subst, ◌∙◌, lit≤, arith}
use Rattle.std.specs.List.{AllByRecursion}
use Rattle.std.proofs.lemmas.List.{length-append, length-replicate}
use Rattle.std.proofs.lemmas.List.Sums.{sum_by-cons}
use Rattle.scan_core.specs.Laws.{DotsMakeRow}
use Rattle.scan_core.specs.Row.{IsRow, dots_from, dots_of}
use Rattle.scan_core.specs.DotRuns.{dark_before, light_before, runs_of_dots}
use Rattle.scan_core.proofs.DotFacts.{HaveDots, rest_have}

pub length-dots_from : (dark : Bool) (ws : List ℕ) → length (dots_from dark ws) ≡ sum ws
length-dots_from dark [] = refl
length-dots_from dark (w ∷ ws) =
    length-append (replicate w dark) (dots_from (not dark) ws) ∙ ap₂ (λ a b. a + b) (length-replicate w dark) (length-dots_from (not dark) ws)
    ∙ sym (sum_by-cons (λ x. x) w ws)

have_more : (w x : ℕ) (ws : List ℕ) → 1 ≤ w → HaveDots (x ∷ ws) → HaveDots (w ∷ x ∷ ws)
have_more w x ws some rest =
    let n : suc (length ws) ≡ length (w ∷ x ∷ ws) - 1 = omega arith in
    let m : length (x ∷ ws) - 1 ≡ length ws = omega arith in
    let kept : AllByRecursion (λ w. 1 ≤ w) (take (length ws) (x ∷ ws)) = subst (λ k. AllByRecursion (λ w. 1 ≤ w) (take k (x ∷ ws))) m rest in
    subst (λ k. AllByRecursion (λ w. 1 ≤ w) (take k (w ∷ x ∷ ws))) n (some, kept)

-- the runs of these dots
record Made (dots : List Bool) : Type 0 where
  first : ℕ
  rest : List ℕ
  shown : dots_of (first ∷ rest) ≡ dots
  even : length rest % 2 ≡ 0
  have : HaveDots rest

-- one more dot before the first run
before : (dots : List Bool) (w : ℕ) (ws : List ℕ) → dots_of (w ∷ ws) ≡ dots → length ws % 2 ≡ 0 → HaveDots ws → Made (true ∷ dots)
before dots zero [] e even h = record { first = 0; rest = 1 ∷ 0 ∷ []; shown = ap (λ ds. true ∷ ds) e; even = refl; have = (lit≤ tt, tt) }
before dots zero (x ∷ []) e even h = absurd (omega arith)
before dots zero (x ∷ y ∷ ws) e even h =
    let r = rest_have x y ws h in
    record { first = 0; rest = suc x ∷ y ∷ ws; shown = ap (λ ds. true ∷ ds) e; even = even; have = have_more (suc x) y ws (omega arith) r.1 }
before dots (suc w) [] e even h = record { first = 0; rest = 1 ∷ suc w ∷ []; shown = ap (λ ds. true ∷ ds) e; even = refl; have = (lit≤ tt, tt) }
before dots (suc w) (x ∷ ws) e even h = record {
  first = 0;
  rest = 1 ∷ suc w ∷ x ∷ ws;
  shown = ap (λ ds. true ∷ ds) e;
  even = omega arith;
  have = have_more 1 (suc w) (x ∷ ws) (lit≤ tt) (have_more (suc w) x ws (omega arith) h);
}

made : (dots : List Bool) → Made dots
made [] = record { first = 0; rest = []; shown = refl; even = refl; have = tt }
made (false ∷ dots) =
    let m = made dots in record { first = suc m.first; rest = m.rest; shown = ap (λ ds. false ∷ ds) m.shown; even = m.even; have = m.have }
made (true ∷ dots) = let m = made dots in before dots m.first m.rest m.shown m.even m.have

pub dots_make_row : DotsMakeRow
dots_make_row dots few =
    let m = made dots in
    let even = m.even in
    let same : length m.rest - 1 ≡ length (m.first ∷ m.rest) - 2 = omega arith in
    let long = length-dots_from false (m.first ∷ m.rest) in
    let all = ap length m.shown in
    let row : IsRow (m.first ∷ m.rest) = record {
      odd_number = omega arith;
      each_inner = subst (λ n. AllByRecursion (λ w. 1 ≤ w) (take n m.rest)) same m.have;
      at_most = omega arith;
    } in
    (m.first ∷ m.rest, row, m.shown)

-- ---- the runs of dots, as a function

same_before : (dots : List Bool) (w : ℕ) (ws : List ℕ) (e : dots_of (w ∷ ws) ≡ dots) (even : length ws % 2 ≡ 0) (h : HaveDots ws)
    → dark_before (w ∷ ws) ≡ (before dots w ws e even h).first ∷ (before dots w ws e even h).rest
unfolding before
same_before dots zero [] e even h = refl
same_before dots zero (x ∷ []) e even h = absurd (omega arith)
same_before dots zero (x ∷ y ∷ ws) e even h = refl
same_before dots (suc w) [] e even h = refl
same_before dots (suc w) (x ∷ ws) e even h = refl

made_runs : (dots : List Bool) → runs_of_dots dots ≡ (made dots).first ∷ (made dots).rest
unfolding made
made_runs [] = refl
made_runs (false ∷ dots) = ap light_before (made_runs dots)
made_runs (true ∷ dots) =
    let m = made dots in ap dark_before (made_runs dots) ∙ same_before dots m.first m.rest m.shown m.even m.have

-- they are a row with these dots
pub runs_of_row : (dots : List Bool) → length dots ≤ 65535 → IsRow (runs_of_dots dots) × (dots_of (runs_of_dots dots) ≡ dots)
unfolding dots_make_row
runs_of_row dots few = let r = dots_make_row dots few in subst (λ ws. IsRow ws × (dots_of ws ≡ dots)) (sym (made_runs dots)) (r.1, r.2)
