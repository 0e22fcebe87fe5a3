-- Rows of drawn labels.
use Rattle.std.proofs.Common.{◌≡◌, ◌∙◌, ◌&&◌, ◌||◌, ◌+◌, ℕ, zero, suc, Bool, true, false, List, [], ◌∷◌, map, refl, ap₂, subst, sym, inl, inr, arith, nat_le, nat_lt}
use Rattle.std.specs.Prelude.{Contains}
use Rattle.std.specs.List.{list_any, range_with_len}
use Rattle.std.proofs.lemmas.Bool.{cases_lt}
use Rattle.std.proofs.lemmas.Bool.Decides.{nat_tests}
use Rattle.element_core.specs.Terms.{Terms}
use Rattle.scan_core.specs.Row.{IsRow, dots_of}
use Rattle.scan_core.specs.Windows.{IsNextWindow, IsOver, IsLeft, SymbolsAreTold, search_after, search_of}
use Rattle.scan_core.specs.declared.window.Window.{Window}
use Rattle.scan_core.specs.Laws.{DotsDetermine}
use Rattle.shop_core.specs.declared.part.Part.{Part}
use Rattle.sheet_core.specs.declared.label.Label.{Label}
use Rattle.shop_core.specs.Drawings.{IsOf, RowAnswers, SaysAlone, has_dot, has_row, row_dots}
use Rattle.shop_core.specs.inner.Edges.{begins_or_ends}

-- ---- one symbol alone

the_one : (v w : Window) → Contains (v ∷ []) w → w ≡ v
the_one v w (zero, low, same) = sym same
the_one v w (suc k, low, same) = absurd (omega (arith, low))

is_left : (runs : List ℕ) (year : Terms) (w : Window) → IsLeft (search_of runs year) w
is_left runs year w = elim (cases_lt 0 w.first) [
  | inl more ↦ inl more
  | inr none ↦ inr ((let e : 0 ≡ w.first = omega arith in e), (omega arith))
]

pub none_alone : (runs : List ℕ) (year : Terms) (label : Label) → IsOver (search_of runs year) → SaysAlone runs year label → ⊥
none_alone runs year label over (w, symbols, says) = over w symbols.each.0 (is_left runs year w)

pub one_alone : SymbolsAreTold → (runs : List ℕ) (year : Terms) (label : Label) (w : Window) → IsRow runs → IsNextWindow (search_of runs year) w
    → IsOver (search_after (search_of runs year) w) → IsOf label year w → SaysAlone runs year label
one_alone told runs year label w row next over says = (w, told runs year (w ∷ []) row (next, over), says)

pub first_says : (runs : List ℕ) (year : Terms) (label : Label) (w : Window) → IsNextWindow (search_of runs year) w → SaysAlone runs year label → IsOf label year w
first_says runs year label w next (v, symbols, says) = subst (IsOf label year) (sym (the_one v w (symbols.every_one w next.symbol))) says

pub no_second : (runs : List ℕ) (year : Terms) (label : Label) (w u : Window) → IsNextWindow (search_of runs year) w
    → IsNextWindow (search_after (search_of runs year) w) u → SaysAlone runs year label → ⊥
no_second runs year label w u next after (v, symbols, says) =
    let same : u ≡ w = the_one v u (symbols.every_one u after.symbol) ∙ sym (the_one v w (symbols.every_one w next.symbol)) in
    elim (subst (IsLeft (search_after (search_of runs year) w)) same after.left) [
      | inl less ↦ omega (arith, less)
      | inr both ↦ omega (arith, both.1)
    ]

-- ---- rows

pub same_dots : {X : Type 0} {Y : Type 0} (f g : X → Y) → ((x : X) → f x ≡ g x) → (xs : List X) → map f xs ≡ map g xs
same_dots f g same [] = refl
same_dots f g same (x ∷ xs) = ap₂ (λ a b. a ∷ b) (same x) (same_dots f g same xs)

same_row : (p : Part) (y : ℕ) → begins_or_ends (y + 1) p ≡ false → has_row p (y + 1) ≡ has_row p y
same_row p y stays = grind (arith, nat_tests)

neither : (a b : Bool) → (a || b) ≡ false → (a ≡ false) × (b ≡ false)
neither true b e = absurd (cc)
neither false b e = (refl, e)

same_any : (parts : List Part) (x y : ℕ) → list_any (begins_or_ends (y + 1)) parts ≡ false
    → list_any (has_dot x (y + 1)) parts ≡ list_any (has_dot x y) parts
same_any [] x y stays = refl
same_any (p ∷ ps) x y stays =
    let both = neither (begins_or_ends (y + 1) p) (list_any (begins_or_ends (y + 1)) ps) stays in
    ap₂ (λ a b. (a && (nat_le p.left x && nat_lt x (p.left + p.width))) || b) (same_row p y both.0) (same_any ps x y both.1)

-- where no part begins or ends, a row answers as the one above it
pub row_below : (parts : List Part) (width above y : ℕ) (label : Label) (year : Terms) → above + 1 ≡ y → list_any (begins_or_ends y) parts ≡ false
    → RowAnswers parts width above label year → RowAnswers parts width y label year
row_below parts width above y label year next stays answers =
    let here : list_any (begins_or_ends (above + 1)) parts ≡ false = subst (λ (n : ℕ). list_any (begins_or_ends n) parts ≡ false) (sym next) stays in
    let dots : row_dots parts width (above + 1) ≡ row_dots parts width above =
    same_dots (λ x. list_any (has_dot x (above + 1)) parts) (λ x. list_any (has_dot x above) parts) (λ x. same_any parts x above here)
    (range_with_len 0 width) in
    subst (λ (n : ℕ). RowAnswers parts width n label year) next (record {
      runs = answers.runs;
      row = answers.row;
      dots = answers.dots ∙ sym dots;
      alone = answers.alone;
    })

-- the runs of a row's dots say what it answers
pub runs_say : DotsDetermine → (parts : List Part) (width y : ℕ) (label : Label) (year : Terms) (runs : List ℕ) → IsRow runs
    → dots_of runs ≡ row_dots parts width y → RowAnswers parts width y label year → SaysAlone runs year label
runs_say law parts width y label year runs row dots answers =
    subst (λ (r : List ℕ). SaysAlone r year label) (law answers.runs runs answers.row row (answers.dots ∙ sym dots)) answers.alone
