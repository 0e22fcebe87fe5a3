-- Runs that are cut out of dots, one after the other.
use Rattle.std.proofs.Common.{◌≡◌, ◌⊎◌, ℕ, zero, suc, ◌+◌, ◌-◌, ◌%◌, ◌<◌, ◌≤◌, Bool, true, false, not, List, [], ◌∷◌, ◌++◌, length, drop, sum, replicate, inl, inr, refl, sym, ap, ap₂, add-zero, subst, ◌∙◌, arith}
use Rattle.std.specs.List.{AllByRecursion}
use Rattle.std.proofs.lemmas.List.{append-nil, append_assoc, length-append, replicate-append-replicate, replicate_more, take_at}
use Rattle.std.proofs.lemmas.List.FromFn.{map-range_with_len_more}
use Rattle.std.proofs.lemmas.List.Sums.{sum_by_push}
use Rattle.scan_core.specs.Bits.{dot_at, dots_at}
use Rattle.scan_core.specs.Row.{IsRow, dots_from, dots_of, inner}
use Rattle.scan_core.specs.inner.Cutting.{Cut, IsFrontOf, IsRowOf, colour}
use Rattle.scan_core.proofs.DotFacts.{colour_more, dots_from-push}
use Rattle.scan_core.proofs.RowFacts.{each-push}

-- each run has a dot
abbrev Each : List ℕ → Type 0
Each ws = AllByRecursion (λ w. 1 ≤ w) ws

-- more dots of one colour behind others
dots_more : (bits : List ℕ) (from n more : ℕ) (dark : Bool) → ((k : ℕ) → n ≤ k → k < n + more → dot_at bits (from + k) ≡ dark)
    → dots_at bits from (n + more) ≡ dots_at bits from n ++ replicate more dark
dots_more bits from n zero dark h = ap (dots_at bits from) (add-zero n) ∙ sym (append-nil (dots_at bits from n))
dots_more bits from n (suc more) dark h =
    let last : n + suc more ≡ n + more + 1 = omega arith in
    let again = dots_more bits from n more dark (λ k some lt. h k some (omega arith)) in
    let one : more + 1 ≡ suc more = omega arith in
    ap (dots_at bits from) last
    ∙ map-range_with_len_more (dot_at bits) from (n + more) (from + (n + more)) refl
    ∙ ap₂ (λ ds d. ds ++ d ∷ []) again (h (n + more) (omega arith) (omega arith))
    ∙ append_assoc (dots_at bits from n) (replicate more dark) (dark ∷ [])
    ∙ ap (λ ds. dots_at bits from n ++ ds) (replicate_more more dark ∙ ap (λ k. replicate k dark) one)

each_more : (widths : List ℕ) (run : ℕ) → Each (drop 1 widths) → (0 < length widths → 0 < run) → Each (drop 1 (widths ++ run ∷ []))
each_more [] run each begun = tt
each_more (w ∷ ws) run each begun = each-push (λ w. 1 ≤ w) ws run each (begun (omega arith))

-- the dots with the run finished
finished : (widths : List ℕ) (run : ℕ) (dark : Bool) (n : ℕ) (dots : List Bool) → Cut widths run dark n dots → dots_of (widths ++ run ∷ []) ≡ dots
finished widths run dark n dots h =
    dots_from-push false widths run ∙ ap (λ d. dots_from false widths ++ replicate run d) (sym h.dark_is) ∙ h.joined

-- no dot of a row
pub nothing_cut : (bits : List ℕ) (from : ℕ) → Cut [] 0 false 0 (dots_at bits from 0)
nothing_cut bits from = record { joined = refl; dark_is = refl; each = tt; begun = λ k. absurd (omega arith); total = refl }

-- runs as in `Cut`, of which the last may have no dot yet
pub record Open (widths : List ℕ) (run : ℕ) (dark : Bool) (n : ℕ) (dots : List Bool) : Type 0 where
  pub joined : dots_from false widths ++ replicate run dark ≡ dots
  pub dark_is : dark ≡ colour false (length widths)
  pub each : Each (drop 1 widths)
  pub total : sum widths + run ≡ n

pub opened : (widths : List ℕ) (run : ℕ) (dark : Bool) (n : ℕ) (dots : List Bool) → Cut widths run dark n dots → Open widths run dark n dots
opened widths run dark n dots h = record { joined = h.joined; dark_is = h.dark_is; each = h.each; total = h.total }

pub closed : (widths : List ℕ) (run : ℕ) (dark : Bool) (n : ℕ) (dots : List Bool) → Open widths run dark n dots → (0 < length widths → 0 < run)
    → Cut widths run dark n dots
closed widths run dark n dots h begun = record { joined = h.joined; dark_is = h.dark_is; each = h.each; begun = begun; total = h.total }

-- more dots of the last run
pub goes_on : (bits : List ℕ) (from n more : ℕ) (widths : List ℕ) (run : ℕ) (dark : Bool) → Open widths run dark n (dots_at bits from n)
    → ((k : ℕ) → n ≤ k → k < n + more → dot_at bits (from + k) ≡ dark) → Open widths (run + more) dark (n + more) (dots_at bits from (n + more))
goes_on bits from n more widths run dark h alike = record {
  joined =
      ap (λ ds. dots_from false widths ++ ds) (sym (replicate-append-replicate run more dark))
      ∙ sym (append_assoc (dots_from false widths) (replicate run dark) (replicate more dark))
      ∙ ap (λ ds. ds ++ replicate more dark) h.joined
      ∙ sym (dots_more bits from n more dark alike);
  dark_is = h.dark_is;
  each = h.each;
  total = let t = h.total in omega arith;
}

-- the last run ends
pub run_ends : (widths all : List ℕ) (run : ℕ) (dark : Bool) (n : ℕ) (dots : List Bool) → Cut widths run dark n dots → all ≡ widths ++ run ∷ []
    → Open all 0 (not dark) n dots
run_ends widths all run dark n dots h same =
    let count = length-append widths (run ∷ []) in
    rw same (record {
      joined = append-nil (dots_from false (widths ++ run ∷ [])) ∙ finished widths run dark n dots h;
      dark_is = ap not h.dark_is ∙ sym (colour_more false (length widths)) ∙ ap (colour false) (sym count);
      each = each_more widths run h.each h.begun;
      total = let t = h.total in omega (arith, sum_by_push (λ x. x) widths run);
    })

-- ---- the whole row

odd_dark : (n : ℕ) → colour false n ≡ true → n % 2 ≡ 1
odd_dark zero e = cc
odd_dark (suc zero) e = refl
odd_dark (suc (suc n)) e = let less = odd_dark n e in omega arith

even_light : (n : ℕ) → colour false n ≡ false → n % 2 ≡ 0
even_light zero e = refl
even_light (suc zero) e = cc
even_light (suc (suc n)) e = let less = even_light n e in omega arith

-- the runs between the ends, where the last stands behind the others
inner_before : (ws : List ℕ) (last : ℕ) → inner (ws ++ last ∷ []) ≡ drop 1 ws
inner_before [] last = refl
inner_before (w ∷ ws) last =
    let n = length-append ws (last ∷ []) in take_at ws (last ∷ []) (length (w ∷ (ws ++ last ∷ [])) - 2) (omega arith)

ends_light : (widths : List ℕ) (run n : ℕ) (dots : List Bool) → Cut widths run false n dots → n ≤ 65535 → IsRowOf (widths ++ run ∷ []) dots
ends_light widths run n dots h few =
    let count = length-append widths (run ∷ []) in
    let even = even_light (length widths) (sym h.dark_is) in
    let row : IsRow (widths ++ run ∷ []) = record {
      odd_number = omega arith;
      each_inner = rw (inner_before widths run) h.each;
      at_most = let t = h.total in omega (arith, sum_by_push (λ x. x) widths run);
    } in
    (row, finished widths run false n dots h)

ends_dark : (widths : List ℕ) (run n : ℕ) (dots : List Bool) → Cut widths run true n dots → n ≤ 65535
    → IsRowOf ((widths ++ run ∷ []) ++ 0 ∷ []) dots
ends_dark widths run n dots h few =
    let all : List ℕ = widths ++ run ∷ [] in
    let count = length-append widths (run ∷ []) in
    let more = length-append all (0 ∷ []) in
    let odd = odd_dark (length widths) (sym h.dark_is) in
    let row : IsRow (all ++ 0 ∷ []) = record {
      odd_number = omega arith;
      each_inner = rw (inner_before all 0) (each_more widths run h.each h.begun);
      at_most = let t = h.total in omega (arith, sum_by_push (λ x. x) widths run, sum_by_push (λ x. x) all 0);
    } in
    (row, dots_from-push false all 0 ∙ append-nil (dots_from false all) ∙ finished widths run true n dots h)

pub end_light : (widths all : List ℕ) (run : ℕ) (dark : Bool) (n : ℕ) (dots : List Bool) → Cut widths run dark n dots → dark ≡ false → n ≤ 65535
    → all ≡ widths ++ run ∷ [] → IsRowOf all dots
end_light widths all run dark n dots h e few same = rw same (ends_light widths run n dots (subst (λ d. Cut widths run d n dots) e h) few)

pub end_dark : (widths some all : List ℕ) (run : ℕ) (dark : Bool) (n : ℕ) (dots : List Bool) → Cut widths run dark n dots → dark ≡ true → n ≤ 65535
    → some ≡ widths ++ run ∷ [] → all ≡ some ++ 0 ∷ [] → IsRowOf all dots
end_dark widths some all run dark n dots h e few same more = rw (more, same) (ends_dark widths run n dots (subst (λ d. Cut widths run d n dots) e h) few)

-- ---- runs that are cut no further

same_or_not : (a b : Bool) → (a ≡ b) ⊎ (a ≡ not b)
same_or_not true true = inl refl
same_or_not true false = inr refl
same_or_not false true = inr refl
same_or_not false false = inl refl

finish_now : (widths : List ℕ) (run : ℕ) (dark : Bool) (n : ℕ) (dots : List Bool) → n ≤ 65535 → Cut widths run dark n dots → IsFrontOf widths dots
finish_now widths run true n dots few h =
    (run ∷ 0 ∷ [], omega arith, subst (λ ws. IsRowOf ws dots) (append_assoc widths (run ∷ []) (0 ∷ [])) (ends_dark widths run n dots h few))
finish_now widths run false n dots few h = (run ∷ [], omega arith, ends_light widths run n dots h few)

-- whatever dots come behind
pub finish : (bits : List ℕ) (from more n : ℕ) (widths : List ℕ) (run : ℕ) (dark : Bool) → n + more ≤ 65535 → Cut widths run dark n (dots_at bits from n)
    → IsFrontOf widths (dots_at bits from (n + more))
finish bits from zero n widths run dark few h =
    let e : n ≡ n + zero = omega arith in
    subst (λ k. IsFrontOf widths (dots_at bits from k)) e (finish_now widths run dark n (dots_at bits from n) (omega arith) h)
finish bits from (suc more) n widths run dark few h =
    let e : n + 1 + more ≡ n + suc more = omega arith in
    subst (λ k. IsFrontOf widths (dots_at bits from k)) e (elim (same_or_not (dot_at bits (from + n)) dark) [
      | inl same ↦
          let on = goes_on bits from n 1 widths run dark (opened widths run dark n (dots_at bits from n) h)
          (λ k some lt. let here : k ≡ n = omega arith in ap (λ i. dot_at bits (from + i)) here ∙ same) in
          finish bits from more (n + 1) widths (run + 1) dark (omega arith) (closed widths (run + 1) dark (n + 1) (dots_at bits from (n + 1)) on (λ some. omega arith))
      | inr other ↦
          let all : List ℕ = widths ++ run ∷ [] in
          let on = goes_on bits from n 1 all 0 (not dark) (run_ends widths all run dark n (dots_at bits from n) h refl)
          (λ k some lt. let here : k ≡ n = omega arith in ap (λ i. dot_at bits (from + i)) here ∙ other) in
          let r = finish bits from more (n + 1) all (0 + 1) (not dark) (omega arith)
          (closed all (0 + 1) (not dark) (n + 1) (dots_at bits from (n + 1)) on (λ some. omega arith)) in
          (run ∷ r.0, omega arith, subst (λ ws. IsRowOf ws (dots_at bits from (n + 1 + more))) (append_assoc widths (run ∷ []) r.0) r.2)
    ])

-- the finished runs are the first of the row
pub front : (bits : List ℕ) (from n width : ℕ) (widths now : List ℕ) (run : ℕ) (dark : Bool) → n ≤ width → width ≤ 65535
    → Cut widths run dark n (dots_at bits from n) → now ≡ widths → IsFrontOf now (dots_at bits from width)
front bits from n width widths now run dark in_row few h same =
    let whole : n + (width - n) ≡ width = omega arith in
    rw same (subst (λ k. IsFrontOf widths (dots_at bits from k)) whole (finish bits from (width - n) n widths run dark (omega arith) h))
