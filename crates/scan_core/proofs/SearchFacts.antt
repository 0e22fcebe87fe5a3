-- Searches that go on.
use Rattle.std.proofs.Common.{◌≡◌, ◌⊎◌, ◌+◌, ◌<◌, ◌≤◌, ℕ, IfNone, Option, Some, None, arith, inl, inr, sym}
use Rattle.std.proofs.lemmas.Bool.{cases_lt}
use Rattle.scan_core.specs.Windows.{IsLeft, IsNextWindow, IsOver, IsSymbolOf, Search}
use Rattle.scan_core.specs.declared.symbols.Span.{Span}
use Rattle.scan_core.specs.declared.window.Window.{Window}
use Rattle.scan_core.specs.inner.Searches.{IsNextPlace}

pub none_then : {X : Type 0} (r : Option X) {P Q : Type 0} → IfNone r P → (P → Q) → IfNone r Q
none_then None p f = f p
none_then (Some x) p f = tt

-- the next symbol of what is left now is that of what was left
pub earlier : (s : Search) (first least : ℕ) (w : Window) → (s.first < first) ⊎ ((s.first ≡ first) × (s.least ≤ least))
    → ((v : Window) → IsSymbolOf s.runs s.year v → IsLeft s v → IsLeft (record { runs = s.runs; year = s.year; first = first; least = least }) v)
    → IsNextWindow (record { runs = s.runs; year = s.year; first = first; least = least }) w → IsNextWindow s w
earlier s first least w behind passed next = record {
  symbol = next.symbol;
  left = elim behind [
    | inl less ↦ elim next.left [
      | inl more ↦ inl (omega arith)
      | inr same ↦ let here = same.0 in inl (omega arith)
    ]
    | inr at ↦
        let start = at.0 in
        let fewer = at.1 in
        elim next.left [
          | inl more ↦ inl (omega arith)
          | inr same ↦ let here = same.0 in let many = same.1 in inr (omega arith, omega arith)
        ]
  ];
  none_before = λ v s' left before. next.none_before v s' (passed v s' left) before;
}

-- where none is left, none is further right
pub over_behind : (s : Search) (first : ℕ) → s.first ≤ first → IsOver s → IsOver (record { runs = s.runs; year = s.year; first = first; least = s.least })
over_behind s first behind over = λ v symbol left. over v symbol (elim left [
  | inl more ↦ inl (omega arith)
  | inr at ↦
      let here = at.0 in
      elim (cases_lt s.first v.first) [
        | inl more ↦ inl more
        | inr most ↦ inr (omega arith, at.1)
      ]
])

-- what is left is no window before the next that may be a symbol
pub at_place : (s : Search) (p : Span) → IsNextPlace s p → (v : Window) → IsSymbolOf s.runs s.year v → IsLeft s v
    → IsLeft (record { runs = s.runs; year = s.year; first = p.first; least = p.count }) v
at_place s p next v symbol left =
    elim (cases_lt v.first p.first) [
      | inl less ↦ absurd (next.none_before v symbol left (inl less))
      | inr from ↦ elim (cases_lt p.first v.first) [
        | inl more ↦ inl more
        | inr to ↦ elim (cases_lt v.count p.count) [
          | inl less ↦ absurd (next.none_before v symbol left (inr (omega arith, less)))
          | inr least ↦ inr (omega arith, least)
        ]
      ]
    ]

-- and where that is none, a longer one
pub behind_here : (s : Search) (v : Window) → IsLeft s v → (v.first ≡ s.first → v.count ≡ s.least → ⊥)
    → IsLeft (record { runs = s.runs; year = s.year; first = s.first; least = s.least + 1 }) v
behind_here s v left other =
    elim left [
      | inl more ↦ inl more
      | inr at ↦
          let here = at.0 in
          let many = at.1 in
          elim (cases_lt s.least v.count) [
            | inl more ↦ inr (omega arith, omega arith)
            | inr most ↦ absurd (other (sym at.0) (omega arith))
          ]
    ]
