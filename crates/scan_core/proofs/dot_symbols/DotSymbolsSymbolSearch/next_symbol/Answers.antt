use Rattle.std.proofs.Common.{◌≡◌, ◌∙◌, ◌+◌, ◌*◌, ◌≤◌, ℕ, IfNone, IfSome, List, None, Option, Some, ap, arith, length, refl, subst, sym}
use Rattle.scan_core.specs.Bits.{dots_at}
use Rattle.scan_core.specs.DotRuns.{runs_of_dots}
use Rattle.scan_core.specs.Searches.{search_in_dots}
use Rattle.scan_core.specs.Windows.{IsNextWindow, IsOver, Search, search_after}
use Rattle.scan_core.specs.declared.window.Window.{Window}
use Rattle.scan_core.specs.inner.Parts.{IsPart, shifted}
use Rattle.scan_core.proofs.RowParts.{row_of_dots}
use Rattle.scan_core.proofs.RowFacts.{row_short}
use Rattle.scan_core.proofs.SearchFacts.{none_then, over_behind}
use Rattle.scan_core.proofs.dot_symbols.DotSymbolsSymbolSearch.next_symbol.Goals as goal

-- what is found is told
told : {T : Type 0} (P : T → Type 0) (found : Option T) (x : T) → found ≡ Some x → IfSome found P → P x
told P found x is p = subst (λ o. IfSome o P) is p

-- and so is that nothing is
untold : {T : Type 0} (P : Type 0) (found : Option T) → found ≡ None → IfNone found P → P
untold P found is p = subst (λ o. IfNone o P) is p

pub next_in_parts-found-requires-clause-enough : goal.next_in_parts-found-requires-clause-enough
next_in_parts-found-requires-clause-enough c =
    let s = c.self.inside in
    subst (λ n. n ≤ 8 * length s.bits.now) (sym c.from.ensures) c.self.invariant.enough

pub next_in_parts-found-requires-clause-part : goal.next_in_parts-found-requires-clause-part
next_in_parts-found-requires-clause-part c =
    let s = c.self.inside in
    subst (λ n. IsPart (dots_at s.bits.now 0 n) s.part) (sym c.from.ensures) c.self.invariant.part

pub next_in_parts-found-requires-clause-light : goal.next_in_parts-found-requires-clause-light
next_in_parts-found-requires-clause-light c = c.self.invariant.light

pub next_in_parts-found-requires-clause-early : goal.next_in_parts-found-requires-clause-early
next_in_parts-found-requires-clause-early c = c.self.invariant.early

-- a window lies in the row, and so has few runs
few_runs : (bits : List ℕ) (n : ℕ) (s : Search) (w : Window) (before : ℕ) → n ≤ 65535 → s.runs ≡ runs_of_dots (dots_at bits 0 n)
    → IsNextWindow s (shifted before w) → before + w.first + w.count ≤ 65537
few_runs bits n s w before few is next =
    let row = row_of_dots bits n few in
    let short = row_short (runs_of_dots (dots_at bits 0 n)) row.0 in
    let within = next.symbol.within in
    let long = ap length is in
    omega arith

pub overflow_add-self : goal.overflow_add-self
overflow_add-self c =
    let s = c.self.inside in
    let few : c.from.result ≤ 65535 = let fits = c.self.ranges.0 in let e = c.from.ensures in omega arith in
    let next = told _ c.next_in_parts-found.result c.in-Some.window c.in-Some.is c.next_in_parts-found.ensures.next in
    let most = few_runs s.bits.now c.from.result _ c.in-Some.window c.next_in_parts-found.new.part.before few refl next in
    omega (arith, most)

pub overflow_add-window : goal.overflow_add-window
overflow_add-window c =
    let s = c.self.inside in
    let few : c.from.result ≤ 65535 = let fits = c.self.ranges.0 in let e = c.from.ensures in omega arith in
    let next = told _ c.next_in_parts-found.result c.in-Some.window c.in-Some.is c.next_in_parts-found.ensures.next in
    let most = few_runs s.bits.now c.from.result _ c.in-Some.window c.next_in_parts-found.new.part.before few refl next in
    omega (arith, most)

pub invariant_of-self : goal.invariant_of-self
invariant_of-self c =
    let s = c.self.inside in
    let e = c.next_in_parts-found.ensures in
    record {
      enough = c.self.invariant.enough;
      part = subst (λ n. IsPart (dots_at s.bits.now 0 n) c.next_in_parts-found.new.part) c.from.ensures e.part;
      light = told _ c.next_in_parts-found.result c.in-Some.window c.in-Some.is e.light;
      early = λ more. told _ c.next_in_parts-found.result c.in-Some.window c.in-Some.is (e.early more);
    }

pub invariant_of-self-in_default : goal.invariant_of-self-in_default
invariant_of-self-in_default c =
    let s = c.self.inside in
    let e = c.next_in_parts-found.ensures in
    record {
      enough = c.self.invariant.enough;
      part = subst (λ n. IsPart (dots_at s.bits.now 0 n) c.next_in_parts-found.new.part) c.from.ensures e.part;
      light = c.self.invariant.light;
      early = λ more. absurd (untold ⊥ c.next_in_parts-found.result c.in_default.is (e.last more));
    }

pub returns-in-Some-clause-next : goal.returns-in-Some-clause-next
returns-in-Some-clause-next c =
    let s = c.self.inside in
    let w = c.in-Some.window in
    let before = c.next_in_parts-found.new.part.before in
    let same : before + w.first ≡ w.first + before = omega arith in
    let next = told _ c.next_in_parts-found.result w c.in-Some.is c.next_in_parts-found.ensures.next in
    let here = subst (λ n. IsNextWindow (record { runs = runs_of_dots (dots_at s.bits.now 0 n); year = s.year; first = s.part.before + s.first; least = s.least })
    (shifted before w)) c.from.ensures next in
    let there = subst (λ r. IsNextWindow r (shifted before w)) c.self.view_is here in
    subst (λ n. IsNextWindow c.args.self.now (record { first = n; count = w.count; carrier = w.carrier; elements = w.elements })) same there

pub returns-in-Some-clause-after : goal.returns-in-Some-clause-after
returns-in-Some-clause-after c =
    let w = c.in-Some.window in
    let before = c.next_in_parts-found.new.part.before in
    let there : Window = record { first = w.first + before; count = w.count; carrier = w.carrier; elements = w.elements } in
    let s = search_in_dots c.self.inside in
    let same : before + w.first ≡ w.first + before = omega arith in
    ap (λ n. record { runs = s.runs; year = s.year; first = n; least = w.count + 1 }) same ∙ ap (λ s. search_after s there) c.self.view_is

pub returns-in_default-clause-next : goal.returns-in_default-clause-next
returns-in_default-clause-next c = rw c.in_default.is tt

pub returns-in_default-clause-after : goal.returns-in_default-clause-after
returns-in_default-clause-after c = rw c.in_default.is tt

pub returns-in_default-clause-over : goal.returns-in_default-clause-over
returns-in_default-clause-over c =
    let s = c.self.inside in
    none_then c.next_in_parts-found.result c.next_in_parts-found.ensures.over (λ over.
    let here = subst (λ n. IsOver (record { runs = runs_of_dots (dots_at s.bits.now 0 n); year = s.year; first = s.part.before + s.first; least = s.least }))
    c.from.ensures over in
    subst IsOver c.self.view_is here)

pub returns-in_default-clause-stays : goal.returns-in_default-clause-stays
returns-in_default-clause-stays c =
    let s = c.self.inside in
    none_then c.next_in_parts-found.result c.next_in_parts-found.ensures.over (λ over.
    let here = subst (λ n. IsOver (record { runs = runs_of_dots (dots_at s.bits.now 0 n); year = s.year; first = s.part.before + s.first; least = s.least }))
    c.from.ensures over in
    over_behind (search_in_dots s) (c.next_in_parts-found.new.part.before + s.first) (let behind = c.next_in_parts-found.ensures.behind in omega arith) here)

pub returns-in_default-clause-same : goal.returns-in_default-clause-same
returns-in_default-clause-same c =
    none_then c.next_in_parts-found.result c.next_in_parts-found.ensures.over (λ over. ap (λ s. s.runs) c.self.view_is)
