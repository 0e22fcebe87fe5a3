use Rattle.std.proofs.Common.{◌≡◌, ◌∙◌, ◌+◌, ◌-◌, ◌*◌, ◌%◌, ◌<◌, ℕ, List, length, length-drop, get_or, drop, ap, refl, sym, arith}
use Rattle.std.proofs.lemmas.List.{drop_more, length-map}
use Rattle.digits_core.specs.Digits.{digits_of, weighted}
use Rattle.element_core.proofs.checks.weighted_sum.Goals as goal
use Rattle.element_core.proofs.checks.weighted_sum.Goals.{then-bytes-i-eq0, else-bytes-i-eq0}

weighted_at : (bytes : List ℕ) (i : ℕ) → i < length bytes
    → weighted (digits_of (drop i bytes)) ≡ (1 + 2 * ((length bytes - i - 1) % 2)) * (get_or bytes i 0 - 48) + weighted (digits_of (drop (i + 1) bytes))
weighted_at bytes i lt =
    let after : length (digits_of (drop (i + 1) bytes)) ≡ length bytes - i - 1 =
    omega (arith, length-map (drop (i + 1) bytes) (λ (b : ℕ). b - 48), length-drop (i + 1) bytes) in
    rw (drop_more bytes i 0 lt, after) refl

told : (bytes : List ℕ) (i sum add : ℕ) → i < length bytes → sum + weighted (digits_of (drop i bytes)) ≡ weighted (digits_of bytes)
    → add ≡ (1 + 2 * ((length bytes - i - 1) % 2)) * (get_or bytes i 0 - 48)
    → sum + add + weighted (digits_of (drop (i + 1) bytes)) ≡ weighted (digits_of bytes)
told bytes i sum add lt so_far add_is =
    let here : weighted (digits_of (drop i bytes)) ≡ add + weighted (digits_of (drop (i + 1) bytes)) =
    weighted_at bytes i lt ∙ ap (λ (p : ℕ). p + weighted (digits_of (drop (i + 1) bytes))) (sym add_is) in
    omega arith

once : (n d : ℕ) → n % 2 ≡ 0 → d ≡ (1 + 2 * (n % 2)) * d
once n d even = rw even (omega arith)

thrice : (n d : ℕ) → (n % 2 ≡ 0 → ⊥) → 3 * d ≡ (1 + 2 * (n % 2)) * d
thrice n d odd = let one : n % 2 ≡ 1 = omega arith in rw one (omega arith)

pub loop-i-preserved : goal.loop-i-preserved
loop-i-preserved c =
    let bytes = c.args.bytes.now in
    let i = c.loop-i.i in
    let digit = c.from-digit.ensures ∙ c.saturating_sub.ensures in
    let before = c.loop-i.invariant.small in
    let fits = c.saturating_sub.type_inv in
    elim c.if-bytes-i-eq0.branch [
      | then-bytes-i-eq0 w ↦ record {
        told = told bytes i c.loop-i.sum c.if-bytes-i-eq0.sum c.loop-i-test.true c.loop-i.invariant.told
            (w.sum-is ∙ digit ∙ once (length bytes - i - 1) (get_or bytes i 0 - 48) w.if-bytes-i-eq0.true);
        small = omega (arith, w.sum-is, c.from-digit.ensures);
      }
      | else-bytes-i-eq0 w ↦ record {
        told = told bytes i c.loop-i.sum c.if-bytes-i-eq0.sum c.loop-i-test.true c.loop-i.invariant.told
            (w.sum-is ∙ ap (λ (d : ℕ). 3 * d) digit ∙ thrice (length bytes - i - 1) (get_or bytes i 0 - 48) w.if-bytes-i-eq0.false);
        small = omega (arith, w.sum-is, c.from-digit.ensures);
      }
    ]
