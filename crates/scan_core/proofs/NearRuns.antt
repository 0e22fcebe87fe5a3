-- The modules that the limits give a run are its modules, or it has none.
use Rattle.std.proofs.Common.{◌≡◌, ◌==◌, ◌&&◌, ◌⊎◌, ◌+◌, ◌*◌, ◌<◌, ◌≤◌, ◌∷◌, ◌∙◌, Bool, List, [], ap, arith, cond, false, inl, inr, map, nat_le, not, refl, subst, sym, true, ℕ}
use Rattle.std.specs.List.{AllZip}
use Rattle.std.proofs.lemmas.Bool.{and_parts, cases_lt, eqb-true, le-leb, leb-true, lt-leb, ne_eqb}
use Rattle.scan_core.specs.Showing.{IsRun}
use Rattle.scan_core.specs.declared.rounding.Limits.{Limits}
use Rattle.scan_core.specs.inner.Limits.{AreLimits, IsLeast, IsPast}
use Rattle.scan_core.specs.inner.RunLanes.{AreSmall, above_one, are_near, modules_or_none, passed, reaches}
use Rattle.scan_core.proofs.RoundingFacts.{Reaches, counts, is_run, no_run, not_both}

-- the limits of a row
abbrev pub AreLimitsOf : ℕ → ℕ → Limits → Type 0
AreLimitsOf N W l = AreLimits N W l.one l.two l.three l.four l.past_one l.past_two l.past_three l.past_four

times : (k m W : ℕ) → k ≤ m → k * W ≤ m * W
times k m W le = grind arith

-- if the last limit is a byte, each is
lower : (N W k p l : ℕ) → IsPast N W 13 p → IsLeast N W k l → k ≤ 13 → l ≤ p
lower N W k p l past least few =
    elim (cases_lt p l) [
      | inl less ↦
          let low = (least p).1 less in
          let high = (past p).0 (omega arith) in
          let more : k * W ≤ 13 * W = times k 13 W few in absurd (omega (arith, low, high, more))
      | inr rest ↦ rest
    ]

lower_past : (N W k p l : ℕ) → IsPast N W 13 p → IsPast N W k l → k ≤ 13 → l ≤ p
lower_past N W k p l past least few =
    elim (cases_lt p l) [
      | inl less ↦
          let low = (least p).1 less in
          let high = (past p).0 (omega arith) in
          let more : k * W ≤ 13 * W = times k 13 W few in absurd (omega (arith, low, high, more))
      | inr rest ↦ rest
    ]

pub all_small : (N W : ℕ) (l : Limits) → AreLimitsOf N W l → l.past_four ≤ 255 → AreSmall l
all_small N W l is few =
    let p = is.past_four in (
      omega (arith, lower N W 2 l.past_four l.one p is.one (omega arith), few),
      omega (arith, lower N W 5 l.past_four l.two p is.two (omega arith), few),
      omega (arith, lower N W 8 l.past_four l.three p is.three (omega arith), few),
      omega (arith, lower N W 11 l.past_four l.four p is.four (omega arith), few),
      omega (arith, lower_past N W 4 l.past_four l.past_one p is.past_one (omega arith), few),
      omega (arith, lower_past N W 7 l.past_four l.past_two p is.past_two (omega arith), few),
      omega (arith, lower_past N W 10 l.past_four l.past_three p is.past_three (omega arith), few),
      few,
    )

-- what is said of a width and of the modules that it is given
abbrev pub Told : ℕ → ℕ → ℕ → ℕ → Type 0
Told N W w m = (IsRun N W w m × ((m == 0) ≡ false)) ⊎ (((m == 0) ≡ true) × ((k : ℕ) → IsRun N W w k → ⊥))

reaches_counts : (w limit : ℕ) → Reaches w limit (reaches limit w)
reaches_counts w limit = counts w limit (reaches limit w) (λ up. ap (λ b. cond b 1 0) (le-leb limit w up)) (λ low. ap (λ b. cond b 1 0) (lt-leb limit w low))

module _ (N W : ℕ) (pos : 0 < W) (l : Limits) (is : AreLimitsOf N W l) (w : ℕ) where
  by_counts : (near : Bool) → nat_le l.one w && above_one l w == passed l w ≡ near → Told N W w (cond near (above_one l w + 1) 0)
  by_counts true all =
      let both = and_parts _ _ all in
      let run = is_run N W w l.one l.two l.three l.four l.past_one l.past_two l.past_three l.past_four _ _ _ _ _ _ _ pos is
      (reaches_counts w l.two) (reaches_counts w l.three) (reaches_counts w l.four) (reaches_counts w l.past_one) (reaches_counts w l.past_two)
      (reaches_counts w l.past_three) (reaches_counts w l.past_four) (leb-true _ _ both.0) (eqb-true _ _ both.1) in
      inl (subst (IsRun N W w) (omega arith) run, ne_eqb (above_one l w + 1) 0 (λ none. omega (arith, none)))
  by_counts false far = inr (
    refl,
    λ k run.
        let both = no_run N W w l.one l.two l.three l.four l.past_one l.past_two l.past_three l.past_four _ _ _ _ _ _ _ pos is
        (reaches_counts w l.two) (reaches_counts w l.three) (reaches_counts w l.four) (reaches_counts w l.past_one) (reaches_counts w l.past_two)
        (reaches_counts w l.past_three) (reaches_counts w l.past_four) k run in
        not_both l.one w _ _ far both.0 both.1,
  )

  pub told : Told N W w (modules_or_none l w)
  told = by_counts _ refl

-- each run is near to its modules
pub all_near : (N W : ℕ) → 0 < W → (l : Limits) → AreLimitsOf N W l → (ws : List ℕ) → are_near (map (modules_or_none l) ws) ≡ true
    → AllZip (IsRun N W) ws (map (modules_or_none l) ws)
all_near N W pos l is [] e = tt
all_near N W pos l is (w ∷ ws) e =
    let parts = and_parts (not (modules_or_none l w == 0)) (are_near (map (modules_or_none l) ws)) e in
    (here (told N W pos l is w) parts.0, all_near N W pos l is ws parts.1)
  where
    here : Told N W w (modules_or_none l w) → not (modules_or_none l w == 0) ≡ true → IsRun N W w (modules_or_none l w)
    here (inl run) near = run.0
    here (inr far) near = cc (far.0, near)

-- or else one is near to none
pub some_far : (N W : ℕ) → 0 < W → (l : Limits) → AreLimitsOf N W l → (ws : List ℕ) → are_near (map (modules_or_none l) ws) ≡ false
    → (ms : List ℕ) → AllZip (IsRun N W) ws ms → ⊥
some_far N W pos l is [] e ms a = cc e
some_far N W pos l is (w ∷ ws) e [] a = absurd a
some_far N W pos l is (w ∷ ws) e (m ∷ ms) a = by_told (told N W pos l is w) (λ rest. some_far N W pos l is ws rest ms a.1)
  where
    by_told : Told N W w (modules_or_none l w) → (are_near (map (modules_or_none l) ws) ≡ false → ⊥) → ⊥
    by_told (inl run) others = others (ap (λ b. not b && are_near (map (modules_or_none l) ws)) (sym run.1) ∙ e)
    by_told (inr far) others = far.1 m a.0
