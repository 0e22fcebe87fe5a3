-- A bar row, symbol by symbol.
use Rattle.std.proofs.Common.{◌≡◌, ℕ, zero, suc, ◌+◌, ◌-◌, ◌*◌, ◌/◌, ◌%◌, ◌<◌, ◌≤◌, ◌&&◌, ◌||◌, ◌==◌, nat_le, nat_lt, Bool, true, false, Some, None, List, [], ◌∷◌, length, map, sum, replicate, refl, sym, ap, ap₂, subst, ◌∙◌, inl, inr, get_or, arith}
use Rattle.std.specs.Prelude.{slice_get}
use Rattle.std.specs.List.{AllByRecursion, AllZip}
use Rattle.std.proofs.lemmas.Bool.{cases_lt, lt-ltb, le-ltb, le-leb, lt-leb}
use Rattle.std.proofs.lemmas.Nat.Bits.{bit_at-zero}
use Rattle.std.proofs.lemmas.Nat.{div-mul-add, mod-mul-add, le-div}
use Rattle.std.proofs.lemmas.List.{get_or_past, get_or-replicate, length-replicate}
use Rattle.std.specs.Int.{bit_at}
use Rattle.scan_core.specs.Bits.{dot_at}
use Rattle.scan_core.specs.Row.{dots_from}
use Rattle.sheet_core.specs.Bitmaps.{stride}
use Rattle.sheet_core.specs.Drawing.{bar_dot}
use Rattle.sheet_core.specs.Grids.{Cells, IsGrid}
use Rattle.sheet_core.specs.declared.label.Label.{Label}
use Rattle.sheet_core.specs.Labels.{Drawn, FitsCell, IsDrawn}
use Rattle.sheet_core.specs.inner.Lines.{line_dot, line_dot_of}
use Rattle.sheet_core.proofs.OneLabelSymbol.{all_at, drawn_at, same_drawn}
use Rattle.sheet_core.proofs.CellFacts.{wider, sum-wider, length-dots_from, reach}

-- the first i symbols are drawn, and nothing else
pub record Lined (g : Cells) (symbols : List Drawn) (i : ℕ) (line : List ℕ) : Type 0 where
  pub at : (x : ℕ) → dot_at line x ≡ (nat_lt x (i * g.width) && line_dot g symbols x)

-- the dots that a symbol adds
abbrev pub added : Cells → Drawn → ℕ → ℕ → Bool
added g s at x = nat_le (at + s.quiet_left * g.dots) x && get_or (dots_from true (map (λ m. g.dots * m) s.modules)) (x - (at + s.quiet_left * g.dots)) false

pub next : (g : Cells) (symbols : List Drawn) (i : ℕ) (s : Drawn) (line new : List ℕ) → 0 < g.dots → 0 < g.width → FitsCell g s → slice_get symbols i ≡ Some s
    → Lined g symbols i line
    → ((x : ℕ) → dot_at new x ≡ (added g s (i * g.width) x || dot_at line x)) → Lined g symbols (i + 1) new
next g symbols i s line new pos wide fits label h more = record {
  at = λ x.
      let start : ℕ = i * g.width + s.quiet_left * g.dots in
      let bars : List Bool = dots_from true (map (λ m. g.dots * m) s.modules) in
      let long : length bars ≡ g.dots * sum s.modules = length-dots_from true (map (λ m. g.dots * m) s.modules) ∙ sum-wider g.dots s.modules in
      let end : (i + 1) * g.width ≡ i * g.width + g.width = grind arith in
      let r = (reach g s fits).0 in
      more x ∙ elim (cases_lt x (i * g.width)) [
        | inl before ↦
            ap₂ (λ a b. (a && get_or bars (x - start) false) || b) (lt-leb start x (omega arith))
            (h.at x ∙ ap (λ b. b && line_dot g symbols x) (lt-ltb x (i * g.width) before))
            ∙ sym (ap (λ b. b && line_dot g symbols x) (lt-ltb x ((i + 1) * g.width) (omega arith)))
        | inr from ↦
            let light : dot_at line x ≡ false = h.at x ∙ ap (λ b. b && line_dot g symbols x) (le-ltb x (i * g.width) from) in
            ap (λ b. added g s (i * g.width) x || b) light ∙ or_false (added g s (i * g.width) x)
            ∙ elim (cases_lt x ((i + 1) * g.width)) [
              | inl inside ↦
                  let j : ℕ = x - i * g.width in
                  let is : i * g.width + j ≡ x = omega arith in
                  let low : j < g.width = omega arith in
                  let quotient : x / g.width ≡ i = ap (λ n. n / g.width) (sym is) ∙ div-mul-add i g.width j low in
                  let rest : x % g.width ≡ j = ap (λ n. n % g.width) (sym is) ∙ mod-mul-add i g.width j low in
                  let dot : line_dot g symbols x ≡ bar_dot g s j =
                  ap₂ (λ q r. line_dot_of g (slice_get symbols q) r) quotient rest ∙ ap (λ o. line_dot_of g o j) label in
                  ap₂ (λ a b. a && b) (leb_shift (i * g.width) (s.quiet_left * g.dots) x j is)
                  (ap (λ n. get_or bars n false) (let e : x - start ≡ j - s.quiet_left * g.dots = omega arith in e)
                  ∙ wider g.dots pos true s.modules (j - s.quiet_left * g.dots))
                  ∙ sym (ap₂ (λ a b. a && b) (lt-ltb x ((i + 1) * g.width) inside) dot)
              | inr past ↦
                  ap₂ (λ a b. a && b) (le-leb start x (omega arith)) (get_or_past bars (x - start) false (omega arith))
                  ∙ sym (ap (λ b. b && line_dot g symbols x) (le-ltb x ((i + 1) * g.width) past))
            ]
      ];
}
  where
    or_false : (b : Bool) → (b || false) ≡ b
    or_false true = refl
    or_false false = refl

    leb_shift : (a q x j : ℕ) → a + j ≡ x → nat_le (a + q) x ≡ nat_le q j
    leb_shift a q x j e =
        elim (cases_lt j q) [
          | inl low ↦ lt-leb (a + q) x (omega arith) ∙ sym (lt-leb q j low)
          | inr high ↦ le-leb (a + q) x (omega arith) ∙ sym (le-leb q j high)
        ]

-- a line of light dots
pub light_line : (g : Cells) (symbols : List Drawn) (line : List ℕ) → ((x : ℕ) → dot_at line x ≡ false) → Lined g symbols 0 line
light_line g symbols line h = record { at = λ x. h x ∙ sym (ap (λ b. b && line_dot g symbols x) (le-ltb x (0 * g.width) (omega arith))) }

-- behind the last symbol nothing is dark
pub all_lined : (g : Cells) (symbols : List Drawn) (line : List ℕ) → 0 < g.width → Lined g symbols (length symbols) line → (x : ℕ) → dot_at line x
    ≡ line_dot g symbols x
all_lined g symbols line pos h x =
    h.at x ∙ elim (cases_lt x (length symbols * g.width)) [
      | inl low ↦ ap (λ b. b && line_dot g symbols x) (lt-ltb x (length symbols * g.width) low)
      | inr high ↦
          ap (λ b. b && line_dot g symbols x) (le-ltb x (length symbols * g.width) high)
          ∙ sym (ap (λ o. line_dot_of g o (x % g.width)) (none symbols (x / g.width) (le-div (length symbols) x g.width pos high)))
    ]
  where
    none : (xs : List Drawn) (i : ℕ) → length xs ≤ i → slice_get xs i ≡ None
    none [] i h = refl
    none (x ∷ xs) zero h = absurd (omega arith)
    none (x ∷ xs) (suc i) h = none xs i (omega arith)

-- an element by its index
pub some_at : (xs : List Drawn) (i : ℕ) (s d : Drawn) → i < length xs → s ≡ get_or xs i d → slice_get xs i ≡ Some s
some_at [] i s d h e = absurd (omega arith)
some_at (x ∷ xs) zero s d h e = ap (λ y. Some y) (sym e)
some_at (x ∷ xs) (suc i) s d h e = some_at xs i s d (omega arith) e

-- where a symbol ends in its line
pub room : (g : Cells) (s : Drawn) (i n : ℕ) → FitsCell g s → IsGrid g → i < n → n ≤ g.columns
    → (i * g.width + s.quiet_left * g.dots + g.dots * sum s.modules ≤ g.columns * g.width) × (i * g.width + g.width ≤ g.columns * g.width)
room g s i n fits grid low few =
    let r = (reach g s fits).0 in
    let next : i * g.width + g.width ≤ g.columns * g.width = times i g.columns g.width (omega arith) in
    (omega arith, next)
  where
    times : (a b w : ℕ) → a + 1 ≤ b → a * w + w ≤ b * w
    times a b w h = grind arith

-- a symbol's place, by the numbers of the code
pub place : (g : Cells) (s : Drawn) (i n at fw q k len : ℕ) (ws : List ℕ) → IsGrid g → FitsCell g s → i < n → n ≤ g.columns → at ≡ i * fw → fw ≡ g.width → q
    ≡ s.quiet_left → k ≡ g.dots → ws ≡ s.modules
    → len ≡ stride (g.columns * g.width) → (at + q * k + k * sum ws ≤ 8 * len) × (at + q * k + k * sum ws ≤ 16384) × (at + fw ≤ 16384)
    × (at + q * k ≡ i * g.width + s.quiet_left * g.dots)
place g s i n at fw q k len ws grid fits low few a f qe ke we l =
    let r = room g s i n fits grid low few in
    let most = grid.wide_most in
    let at_is : at ≡ i * g.width = a ∙ ap (λ w. i * w) f in
    let quiet : q * k ≡ s.quiet_left * g.dots = ap₂ (λ x y. x * y) qe ke in
    let bars : k * sum ws ≡ g.dots * sum s.modules = ap₂ (λ x y. x * sum y) ke we in
    let n1 = r.0 in let n2 = r.1 in
    (omega arith, omega arith, omega arith, omega arith)

pub added_by : (g : Cells) (s : Drawn) (i start k : ℕ) (ws line new : List ℕ) → start ≡ i * g.width + s.quiet_left * g.dots → k ≡ g.dots → ws ≡ s.modules
    → ((x : ℕ) → dot_at new x ≡ ((nat_le start x && get_or (dots_from true (map (λ m. k * m) ws)) (x - start) false) || dot_at line x))
    → (x : ℕ) → dot_at new x ≡ (added g s (i * g.width) x || dot_at line x)
added_by g s i start k ws line new a b c h x =
    h x
    ∙ ap (λ n. (nat_le n x && get_or (dots_from true (map (λ m. k * m) ws)) (x - n) false) || dot_at line x) a
    ∙ ap₂ (λ (n : ℕ) (ms : List ℕ). (nat_le (i * g.width + s.quiet_left * g.dots) x && get_or (dots_from true (map (λ m. n * m) ms))
    (x - (i * g.width + s.quiet_left * g.dots)) false) || dot_at line x) b c

-- bytes that are 0 are light dots
pub light_dots : (n x : ℕ) → dot_at (replicate n 0) x ≡ false
light_dots n x = ap (λ (b : ℕ). bit_at b (7 - x % 8) == 1) (zero_at n (x / 8)) ∙ ap (λ (b : ℕ). b == 1) (bit_at-zero (7 - x % 8))
  where
    zero_at : (n i : ℕ) → get_or {A = ℕ} (replicate n 0) i 0 ≡ 0
    zero_at n i = elim (cases_lt i n) [
      | inl low ↦ get_or-replicate {A = ℕ} n i 0 0 low
      | inr high ↦ get_or_past (replicate {A = ℕ} n 0) i 0
          (let l = length-replicate {A = ℕ} n 0 in omega arith)
    ]

-- what is drawn in a turn of the loop
pub record Turn (g : Cells) (symbols : List Drawn) (i : ℕ) (s : Drawn) : Type 0 where
  pub here : slice_get symbols i ≡ Some s
  pub fits : FitsCell g s

pub turn : (g : Cells) (labels : List Label) (symbols others : List Drawn) (i : ℕ) (label : Label) (s : Drawn) → AllZip IsDrawn labels symbols
    → AllByRecursion (FitsCell g) symbols → AllZip IsDrawn labels others
    → i < length labels → label ≡ get_or labels i label → IsDrawn label s → Turn g others i s
turn g labels symbols others i label s all fit rest low is drawn =
    let one = drawn_at labels symbols i label all low is in
    let other = drawn_at labels others i label rest low is in
    let a : one.s ≡ s = same_drawn label one.s s one.drawn drawn in
    let b : other.s ≡ s = same_drawn label other.s s other.drawn drawn in
    record {
      here = other.here ∙ ap (λ d. Some d) b;
      fits = subst (FitsCell g) a (all_at (FitsCell g) symbols i one.s fit one.here);
    }
