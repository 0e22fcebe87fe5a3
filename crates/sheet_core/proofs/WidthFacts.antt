-- The widths of symbols are 1 to 4 modules.
use Rattle.std.proofs.Common.{◌≡◌, ℕ, ◌*◌, ◌<◌, ◌≤◌, true, List, [], ◌∷◌, ◌++◌, length, sum, refl, sym, subst, arith}
use Rattle.std.specs.List.{flat_map, AllByRecursion}
use Rattle.std.proofs.lemmas.List.Sums.{sum_by-cons}
use Rattle.ean_code.specs.Widths.{AreWidths}
use Rattle.ean_code.proofs.Widths.{AreWidths-from, are_widths}
pub use Rattle.ean_code.proofs.Cells.{AllByRecursion-append, AllByRecursion-drop, AllByRecursion-take, all_below, all_below-at}
use Rattle.code128_code.specs.Characters.{pattern, patterns, stop}
use Rattle.code128_code.specs.Symbols.{IsCode128Symbol, characters_of}

-- cells of widths, joined
each : {X : Type 0} (P : X → Type 0) (cell : X → List ℕ) → ((x : X) → P x → AreWidths (cell x)) → (xs : List X) → AllByRecursion P xs
    → AreWidths (flat_map cell xs)
each P cell one [] h = tt
each P cell one (x ∷ xs) h = AllByRecursion-append _ (cell x) (flat_map cell xs) (one x h.0) (each P cell one xs h.1)

joined : (xs ys : List ℕ) → AreWidths xs → AreWidths ys → AreWidths (xs ++ ys)
joined xs ys h k = AllByRecursion-append _ xs ys h k

-- ---- Code 128

pattern_tested : all_below (λ v. are_widths (pattern v)) 106 ≡ true
unfolding patterns
pattern_tested = refl

pattern_one : (v : ℕ) → v < 106 → AreWidths (pattern v)
pattern_one v h = AreWidths-from (pattern v) (all_below-at (λ v. are_widths (pattern v)) 106 pattern_tested v h)

values_below : (vs : List ℕ) → AllByRecursion (λ v. v ≤ 102) vs → AllByRecursion (λ v. v < 106) vs
values_below [] h = tt
values_below (v ∷ vs) h = ((let low = h.0 in omega arith), values_below vs h.1)

pub code128_widths : (start check : ℕ) (values ms : List ℕ) → IsCode128Symbol start values check ms → AreWidths ms
code128_widths start check values ms e =
    let high = e.start_greatest in
    let last = e.check_valid in
    let valid : AllByRecursion (λ v. v < 106) (characters_of start values check) =
    ((omega arith), AllByRecursion-append _ values (check ∷ []) (values_below values e.valid) ((omega arith), tt)) in
    subst AreWidths (sym e.widths) (joined (flat_map pattern (characters_of start values check)) stop
    (each (λ v. v < 106) pattern pattern_one (characters_of start values check) valid) (AreWidths-from stop refl))

-- widths are at most four modules each
pub sum_most : (ms : List ℕ) → AreWidths ms → sum ms ≤ 4 * length ms
sum_most [] h = omega arith
sum_most (m ∷ ms) h = let more = sum_most ms h.1 in let w = h.0.1 in let e = sum_by-cons (λ x. x) m ms in omega arith
