-- The ends of symbols: a bar of two modules at most, and then a space of one.
use Rattle.std.proofs.Common.{◌≡◌, ◌⊎◌, ℕ, ◌*◌, ◌<◌, ◌≤◌, List, [], ◌∷◌, ◌++◌, length, reverse, Option, Some, None, arith, get_or, inl, inr, refl, subst, sym, suc, zero}
use Rattle.std.proofs.Math.Nat.{le_of_mul-le-mul_right, mul-le-mul_right, mul_assoc}
use Rattle.std.proofs.lemmas.Bool.{cases_eq}
use Rattle.std.proofs.lemmas.List.{get_or_append_left, length-reverse, reverse-append, reverse-reverse}
use Rattle.std.specs.List.{flat_map}
use Rattle.ean_code.specs.declared.kind.Kind.{Kind}
use Rattle.code128_code.specs.Characters.{pattern, patterns, stop}
use Rattle.code128_code.specs.Symbols.{characters_of}
use Rattle.scan_core.specs.Showing.{IsRun, IsSymbol, Way, along}
use Rattle.scan_core.specs.Showing.Way.{Forwards, Backwards}
use Rattle.scan_core.specs.inner.Searches.{MayEnd}
use Rattle.scan_core.proofs.KindFacts.{EndsNarrow, narrow_ends}

-- the widths that a symbol begins with
pub record BeginsNarrow (ms : List ℕ) : Type 0 where
  pub bar : get_or ms 0 0 ≤ 2
  pub space : get_or ms 1 0 ≤ 1

-- what a list ends with, its end ends with
ends_with : (xs ys : List ℕ) → 1 < length ys → BeginsNarrow (reverse ys) → BeginsNarrow (reverse (xs ++ ys))
ends_with xs ys long b =
    let n = length-reverse ys in
    let same = reverse-append xs ys in
    let bar = b.bar in
    let space = b.space in
    let at0 = get_or_append_left (reverse ys) (reverse xs) 0 0 (omega arith) in
    let at1 = get_or_append_left (reverse ys) (reverse xs) 0 1 (omega arith) in
    subst BeginsNarrow (sym same) (record { bar = omega arith; space = omega arith })

-- each start character of Code 128 begins so

start_of_code : (s : ℕ) (rest : List ℕ) → (s ≡ 103) ⊎ ((s ≡ 104) ⊎ (s ≡ 105))
    → (get_or ((pattern s ++ rest) ++ stop) 0 0 ≡ 2) × (get_or ((pattern s ++ rest) ++ stop) 1 0 ≡ 1)
unfolding patterns
start_of_code s rest (inl e) = rw e (refl, refl)
start_of_code s rest (inr (inl e)) = rw e (refl, refl)
start_of_code s rest (inr (inr e)) = rw e (refl, refl)

start_narrow : (s : ℕ) (rest : List ℕ) → 103 ≤ s → s ≤ 105 → BeginsNarrow ((pattern s ++ rest) ++ stop)
start_narrow s rest low high =
    let one : (s ≡ 103) ⊎ ((s ≡ 104) ⊎ (s ≡ 105)) = elim (cases_eq s 103) [
      | inl e ↦ inl e
      | inr n ↦ elim (cases_eq s 104) [
        | inl e ↦ inr (inl e)
        | inr m ↦ inr (inr (omega arith))
      ]
    ] in
    let both = start_of_code s rest one in
    let bar = both.0 in
    let space = both.1 in record { bar = omega arith; space = omega arith }

-- each symbol begins and ends so
each_symbol : (kind : Option Kind) (ms : List ℕ) → IsSymbol kind ms → BeginsNarrow ms × BeginsNarrow (reverse ms)
each_symbol (Some kind) ms f = let ends = narrow_ends kind ms f.0 f.1 in (narrow ms ends.0, narrow (reverse ms) ends.1)
  where
    narrow : (ws : List ℕ) → EndsNarrow ws → BeginsNarrow ws
    narrow ws e = let bar = e.bar in let space = e.space in record { bar = omega arith; space = omega arith }
each_symbol None ms f =
    let e = f.3 in
    let long : 1 < length stop = omega arith in
    let narrow : BeginsNarrow (reverse stop) = record { bar = omega arith; space = omega arith } in (
      subst BeginsNarrow (sym e.widths) (start_narrow f.0 (flat_map pattern (f.1 ++ f.2 ∷ [])) e.start_least e.start_greatest),
      subst (λ ws. BeginsNarrow (reverse ws)) (sym e.widths) (ends_with (flat_map pattern (characters_of f.0 f.1 f.2)) stop long narrow),
    )

-- and in a row, whichever way it is read
pub lying_narrow : (way : Way) (kind : Option Kind) (ms : List ℕ) → IsSymbol kind ms → BeginsNarrow (along way ms) × BeginsNarrow (reverse (along way ms))
lying_narrow Forwards kind ms f = each_symbol kind ms f
lying_narrow Backwards kind ms f =
    let both = each_symbol kind ms f in (both.1, subst BeginsNarrow (sym (reverse-reverse ms)) both.0)

-- ---- light ends

-- a run of two modules at most, to within a third, beside an end of five
two_modules : (N W w m end : ℕ) → 0 < N → IsRun N W w m → m ≤ 2 → 5 * W ≤ end * N → 15 * w ≤ 7 * end
two_modules N W w m end some run few quiet =
    let near = run.near in
    let wide = mul-le-mul_right W few in
    let first = mul_assoc 15 w N in
    let second = mul_assoc 7 end N in
    let scaled : 15 * w * N ≤ 7 * end * N = omega arith in le_of_mul-le-mul_right scaled some

-- a run of a single module, to within a third, beside an end of five
one_module : (N W w m end : ℕ) → 0 < N → IsRun N W w m → m ≤ 1 → 5 * W ≤ end * N → 15 * w ≤ 4 * end
one_module N W w m end some run few quiet =
    let near = run.near in
    let wide = mul-le-mul_right W few in
    let first = mul_assoc 15 w N in
    let second = mul_assoc 4 end N in
    let scaled : 15 * w * N ≤ 4 * end * N = omega arith in le_of_mul-le-mul_right scaled some

modules_some : (N W end : ℕ) → 0 < W → 5 * W ≤ end * N → 0 < N
modules_some zero W end some quiet = absurd (omega arith)
modules_some (suc N) W end some quiet = omega arith

pub may_end : (N W end dark light bar space : ℕ) → 0 < W → 5 * W ≤ end * N → IsRun N W dark bar → IsRun N W light space → bar ≤ 2 → space ≤ 1
    → MayEnd end dark light
may_end N W end dark light bar space some quiet b s two one = record {
  narrow_dark = two_modules N W dark bar end (modules_some N W end some quiet) b two quiet;
  narrow_light = one_module N W light space end (modules_some N W end some quiet) s one quiet;
}
