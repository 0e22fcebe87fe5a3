-- An ITF-14 drawn in each ratio of 2.25 to 3 is read.
use Rattle.std.proofs.Common.{◌≡◌, ◌⊎◌, inl, inr, ℕ, ◌+◌, ◌-◌, ◌*◌, ◌/◌, ◌≤◌, List, [], ◌∷◌, ◌++◌, length, map, sum, codes, replicate, refl, sym, ap, subst, ◌∙◌, arith, get_or}
use Rattle.std.specs.List.{AllByRecursion, AllZip}
use Rattle.std.proofs.lemmas.List.{get_or_push, length-append, length-map, take_at}
use Rattle.std.proofs.lemmas.List.Sums.{sum_by-cons}
use Rattle.digits_core.specs.Digits.{AreDigits, IsChecked, ascii_of, padded}
use Rattle.element_core.specs.Elements.{GtinReads, gtin_entry}
use Rattle.ean_code.specs.Laws.{MeasuresOfKind, TwoWidths}
use Rattle.ean_code.specs.Spelling.{IsGtinSymbol}
use Rattle.ean_code.specs.declared.kind.Kind.TheVariants.{Itf14 as KindItf14}
use Rattle.ean_code.specs.TwoOfFive.{AreTwoWidths}
use Rattle.scan_core.specs.declared.carrier.Carrier.TheVariants.{Itf14}
use Rattle.scan_core.specs.declared.answer.Answer.TheVariants.{Read}
use Rattle.scan_core.specs.Row.{IsRow, inner}
use Rattle.scan_core.specs.Showing.{IsQuiet, IsRun, Rounds, Shows}
use Rattle.scan_core.specs.Showing.Way.{Forwards, Backwards}
use Rattle.scan_core.specs.Answers.{IsAnswer, checked_text}
use Rattle.scan_core.proofs.ContentFacts.{checked_right}
use Rattle.scan_core.specs.Ratios.{AreInRatio, EachRatioIsRead, drawn_row, element_dots}
use Rattle.element_core.specs.Terms.{Terms}
use Rattle.scan_core.proofs.TurnedFacts.{IsRow-reverse, turned_row}

-- how many are wide
abbrev wide : List ℕ → ℕ
wide [] = 0
wide (m ∷ ms) = (m - 1) / 2 + wide ms

wide_sum : (ms : List ℕ) → AreTwoWidths ms → sum ms ≡ length ms + 2 * wide ms
wide_sum [] h = refl
wide_sum (m ∷ ms) h =
    let first = sum_by-cons (λ x. x) m ms in
    let rest = wide_sum ms h.1 in
    elim h.0 [ inl one ↦ omega arith | inr three ↦ omega arith ]

module _ (n w : ℕ) where
  narrow_dots : (m : ℕ) → m ≡ 1 → element_dots n w m ≡ n
  narrow_dots m e = ap (element_dots n w) e

  wide_dots : (m : ℕ) → m ≡ 3 → element_dots n w m ≡ w
  wide_dots m e = ap (element_dots n w) e

  bars_sum : (ms : List ℕ) → AreTwoWidths ms → sum (map (element_dots n w) ms) + wide ms * n ≡ length ms * n + wide ms * w
  bars_sum [] h = omega arith
  bars_sum (m ∷ ms) h =
      let first = sum_by-cons (λ x. x) (element_dots n w m) (map (element_dots n w) ms) in
      let rest = bars_sum ms h.1 in
      elim h.0 [
        | inl one ↦
            let d = narrow_dots m one in
            let k : wide (m ∷ ms) ≡ wide ms = omega arith in
            rw k (grind arith)
        | inr three ↦
            let d = wide_dots m three in
            let k : wide (m ∷ ms) ≡ 1 + wide ms = omega arith in
            rw k (grind arith)
      ]

  module _ (least : 9 * n ≤ 4 * w) (most : 4 * w ≤ 12 * n) (some : 1 ≤ n) where
    run : (m : ℕ) → (m ≡ 1) ⊎ (m ≡ 3) → IsRun 135 (48 * n + 29 * w) (element_dots n w m) m
    run m h =
        elim h [
          | inl one ↦ subst (λ k. IsRun 135 (48 * n + 29 * w) (element_dots n w k) k) (sym one)
              (record { least = omega arith; most = omega arith; near = omega arith })
          | inr three ↦ subst (λ k. IsRun 135 (48 * n + 29 * w) (element_dots n w k) k) (sym three)
              (record { least = omega arith; most = omega arith; near = omega arith })
        ]

    rounds_each : (ms : List ℕ) → AreTwoWidths ms → AllZip (IsRun 135 (48 * n + 29 * w)) (map (element_dots n w) ms) ms
    rounds_each [] h = tt
    rounds_each (m ∷ ms) h = (run m h.0, rounds_each ms h.1)

    have_dots : (ms : List ℕ) → AreTwoWidths ms → AllByRecursion (λ d. 1 ≤ d) (map (element_dots n w) ms)
    have_dots [] h = tt
    have_dots (m ∷ ms) h = (
      elim h.0 [ inl one ↦ let d = narrow_dots m one in omega arith | inr three ↦ let d = wide_dots m three in omega arith ],
      have_dots ms h.1,
    )

inner-drawn : (n w left right : ℕ) (ms : List ℕ) → inner (drawn_row n w left right ms) ≡ map (element_dots n w) ms
inner-drawn n w left right ms =
    let bars : List ℕ = map (element_dots n w) ms in
    let long = length-append bars (right ∷ []) in take_at bars (right ∷ []) (length (drawn_row n w left right ms) - 2) (omega arith)

padded_gtin : (ds gtin : List ℕ) → length ds ≡ 14 → AreDigits ds → gtin ≡ padded ds → (length gtin ≡ 14) × AreDigits gtin
padded_gtin ds gtin long valid e =
    let none : 14 - length ds ≡ 0 = omega arith in
    let same : ds ≡ gtin = sym (e ∙ ap (λ k. replicate k 0 ++ ds) none) in
    (subst (λ g. length g ≡ 14) same long, subst AreDigits same valid)

module _ (two : TwoWidths) (measures : MeasuresOfKind) (reads : GtinReads) where
  pub forwards : (gtin modules : List ℕ) (n w left right : ℕ) (year : Terms) → IsGtinSymbol KindItf14 gtin modules → IsChecked gtin → AreInRatio n w left right
      → sum (drawn_row n w left right modules) ≤ 65535
      → IsRow (drawn_row n w left right modules)
      × IsAnswer (drawn_row n w left right modules) year (Read Itf14 (record { year = year; list = gtin_entry gtin ∷ [] }))
  forwards gtin ms n w left right year symbol checked ratio narrow =
      let ds : List ℕ = symbol.0 in
      let row : List ℕ = drawn_row n w left right ms in
      let bars : List ℕ = map (element_dots n w) ms in
      let widths : AreTwoWidths ms = two ms ds symbol.1 in
      let m = measures KindItf14 ms ds symbol.1 in
      let count = m.count in
      let total = m.total in
      let inside = inner-drawn n w left right ms in
      let many = length-map ms (element_dots n w) in
      let long = length-append bars (right ∷ []) in
      let all = wide_sum ms widths in
      let wides : wide ms ≡ 29 = omega arith in
      let whole : sum bars + 29 * n ≡ 77 * n + 29 * w =
      subst (λ k. sum bars + k * n ≡ 77 * n + k * w) wides (subst (λ k. sum bars + wide ms * n ≡ k * n + wide ms * w) count (bars_sum n w ms widths)) in
      let dots : sum bars ≡ 48 * n + 29 * w = omega arith in
      let least = ratio.least in
      let most = ratio.most in
      let some = ratio.some in
      let a = ratio.quiet_left in
      let b = ratio.quiet_right in
      let is_row : IsRow row = record {
        odd_number = omega arith;
        each_inner = subst (AllByRecursion (λ d. 1 ≤ d)) (sym inside) (have_dots n w least most some ms widths);
        at_most = narrow;
      } in
      let last : get_or row (length row - 1) 0 ≡ right = get_or_push (left ∷ bars) right 0 (length row - 1) (omega arith) in
      let inner_dots : sum (inner row) ≡ 48 * n + 29 * w = ap sum inside ∙ dots in
      let quiet : IsQuiet row 135 = record { left = omega arith; right = rw last (omega arith) } in
      let runs : Rounds (inner row) 135 ms =
      subst (λ xs. AllZip (IsRun 135 (sum xs)) xs ms) (sym inside)
      (subst (λ k. AllZip (IsRun 135 k) bars ms) (sym dots) (rounds_each n w least most some ms widths)) in
      let shows : Shows row Itf14 Forwards ms = record {
        N = 135;
        candidate = (ap length inside ∙ many ∙ count, refl);
        quiet = quiet;
        rounds = runs;
        form = (ds, symbol.1);
      } in
      let g = padded_gtin ds gtin symbol.1.count symbol.1.valid symbol.2 in (
        is_row,
        (
          codes "01" ++ ascii_of gtin,
          (Forwards, ms, shows, (ds, symbol.1, checked_right gtin checked ∙ ap checked_text symbol.2)),
          refl,
          reads gtin year g.0 g.1 checked,
        ),
      )

  pub each_ratio_is_read : EachRatioIsRead
  each_ratio_is_read gtin ms n w left right year Forwards symbol checked ratio narrow = forwards gtin ms n w left right year symbol checked ratio narrow
  each_ratio_is_read gtin ms n w left right year Backwards symbol checked ratio narrow =
      let f = forwards gtin ms n w left right year symbol checked ratio narrow in (
        IsRow-reverse (drawn_row n w left right ms) f.0,
        turned_row (drawn_row n w left right ms) f.0 year
            (Read Itf14 (record { year = year; list = gtin_entry gtin ∷ [] })) f.1,
      )
