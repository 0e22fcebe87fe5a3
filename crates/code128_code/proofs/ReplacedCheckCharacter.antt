-- One character replaced by another leaves a wrong check character.
use Rattle.std.proofs.Common.{◌≡◌, ◌≢◌, ℕ, zero, suc, ◌+◌, ◌-◌, ◌*◌, ◌%◌, ◌<◌, ◌≤◌, true, not, ◌==◌, List, [], ◌∷◌, ◌++◌, add-one, length, set, take, refl, sym, ap, ap₂, subst, ◌∙◌, add_assoc, arith, get_or, inl, inr}
use Rattle.std.proofs.lemmas.Bool.{cases_lt}
use Rattle.std.proofs.lemmas.List.{get_or-set_same, get_or_append_left, length-append, length-set, length-take, set-append_left}
use Rattle.std.proofs.Math.Seq.{get_or-append_seam, set-append_seam, take-suc}
use Rattle.ean_code.proofs.Cells.{all_below, all_below-at}
use Rattle.code128_code.specs.Laws.{ReplacedIsUnchecked}
use Rattle.code128_code.specs.Symbols.{by_place, mod103}
use Rattle.code128_code.proofs.OneCharacterList.{last_same, valid_at}

-- 103 is prime
prime_tested : all_below (λ a. all_below (λ d. not ((suc a * suc d) % 103 == 0)) 102) 102 ≡ true
prime_tested = refl

no_product : (a d : ℕ) → a < 102 → d < 102 → (suc a * suc d) % 103 ≡ 0 → ⊥
no_product a d h k e =
    let ok = all_below-at (λ d. not ((suc a * suc d) % 103 == 0)) 102
    (all_below-at (λ a. all_below (λ d. not ((suc a * suc d) % 103 == 0)) 102) 102 prime_tested a h) d k in
    let hit : ((suc a * suc d) % 103 == 0) ≡ true = ap (λ n. n == 0) e in let miss = ap not hit in cc

-- one value more
pub by_place-push : (p : ℕ) (vs : List ℕ) (x : ℕ) → by_place p (vs ++ x ∷ []) ≡ by_place p vs + (p + length vs) * x
by_place-push p [] x = let e : p + 0 ≡ p = omega arith in rw e (omega arith)
by_place-push p (v ∷ vs) x =
    let more = by_place-push (p + 1) vs x in
    let e : (p + 1) + length vs ≡ p + suc (length vs) = omega arith in
    let moved = subst (λ n. by_place (p + 1) (vs ++ x ∷ []) ≡ by_place (p + 1) vs + n * x) e more in omega arith

-- the sum with the value at k replaced
replaced : (i : ℕ) (vs : List ℕ) (k v : ℕ) → k < length vs → by_place i (set vs k v) + (i + k) * get_or vs k 0 ≡ by_place i vs + (i + k) * v
replaced i [] k v h = absurd (omega arith)
replaced i (x ∷ vs) zero v h = let e : i + zero ≡ i = omega arith in rw e (omega arith)
replaced i (x ∷ vs) (suc k) v h =
    let rest = replaced (i + 1) vs k v (omega arith) in
    let e : (i + 1) + k ≡ i + suc k = omega arith in
    let moved = subst (λ n. by_place (i + 1) (set vs k v) + n * get_or vs k 0 ≡ by_place (i + 1) vs + n * v) e rest in omega arith

apart_mod : (t p : ℕ) → t % 103 ≡ (t + p) % 103 → p % 103 ≡ 0
apart_mod t p e = omega arith

-- sums that differ by a times a gap
noticed : (s m n a x g : ℕ) → m + a * (x + g) ≡ n + a * x → (s + m) % 103 ≡ (s + n) % 103 → 0 < a → a ≤ 102 → 0 < g → g ≤ 102 → ⊥
noticed s m n a x g r e pos le some high =
    let shift : n ≡ m + a * g = omega arith in
    let gap : (a * g) % 103 ≡ 0 = apart_mod (s + m) (a * g) (e ∙ ap (λ k. (s + k) % 103) shift ∙ ap (λ k. k % 103) (sym (add_assoc s m (a * g)))) in
    let p : suc (a - 1) ≡ a = omega arith in let q : suc (g - 1) ≡ g = omega arith in
    no_product (a - 1) (g - 1) (omega arith) (omega arith) (ap₂ (λ m n. (m * n) % 103) p q ∙ gap)

value_noticed : (s : ℕ) (vs : List ℕ) (k v : ℕ) → k < length vs → length vs ≤ 96 → get_or vs k 0 ≤ 102 → v ≤ 102 → v ≢ get_or vs k 0
    → mod103 s (set vs k v) ≢ mod103 s vs
value_noticed s vs k v h few old new ne e =
    let r = replaced 1 vs k v h in
    let m = by_place 1 (set vs k v) in
    let n = by_place 1 vs in
    let o = get_or vs k 0 in
    elim (cases_lt v o) [
      | inl less ↦
          let same : v + (o - v) ≡ o = omega arith in
          noticed s m n (1 + k) v (o - v) (subst (λ z. m + (1 + k) * z ≡ n + (1 + k) * v) (sym same) r) e (omega arith) (omega arith) (omega arith)
          (omega arith)
      | inr rest ↦
          let same : o + (v - o) ≡ v = omega arith in
          noticed s n m (1 + k) o (v - o) (subst (λ z. n + (1 + k) * z ≡ m + (1 + k) * o) (sym same) (sym r)) (sym e) (omega arith) (omega arith) (omega arith)
          (omega arith)
    ]

start_noticed : (s t : ℕ) (vs : List ℕ) → 103 ≤ s → s ≤ 105 → 103 ≤ t → t ≤ 105 → t ≢ s → mod103 s vs ≢ mod103 t vs
start_noticed s t vs a b c d ne e = omega arith

pub replaced_law : ReplacedIsUnchecked
replaced_law s t c d zero v vs ws ms rs e f right lt ne same wrong =
    let head : t ≡ v = cc in
    let tail : ws ++ d ∷ [] ≡ vs ++ c ∷ [] = cc in
    let both = last_same ws vs d c tail in
    let apart : t ≢ s = λ eq. ne (sym head ∙ eq) in
    start_noticed s t vs e.start_least e.start_greatest f.start_least f.start_greatest apart
    (sym right ∙ sym both.1 ∙ wrong ∙ ap (mod103 t) both.0)
replaced_law s t c d (suc k) v vs ws ms rs e f right lt ne same wrong =
    let head : t ≡ s = cc in
    let tail : ws ++ d ∷ [] ≡ set (vs ++ c ∷ []) k v = cc in
    let count = length-append vs (c ∷ []) in
    elim (cases_lt k (length vs)) [
      | inl less ↦
          let both = last_same ws (set vs k v) d c (tail ∙ set-append_left vs (c ∷ []) k v less) in
          let at : get_or ws k 0 ≡ v = ap (λ xs. get_or xs k 0) both.0 ∙ get_or-set_same vs k v 0 less in
          let long : length ws ≡ length vs = ap length both.0 ∙ length-set vs k v in
          let under : k < length ws = omega arith in
          let new : v ≤ 102 = subst (λ n. n ≤ 102) at (valid_at ws k f.valid under) in
          let apart : v ≢ get_or vs k 0 = λ eq. ne (eq ∙ sym (get_or_append_left vs (c ∷ []) 0 k less)) in
          value_noticed s vs k v less e.few (valid_at vs k e.valid less) new apart
          (sym (ap₂ mod103 head both.0) ∙ sym wrong ∙ both.1 ∙ right)
      | inr more ↦
          let here : k ≡ length vs = omega arith in
          let seam : set (vs ++ c ∷ []) k v ≡ vs ++ v ∷ [] = ap (λ n. set (vs ++ c ∷ []) n v) here ∙ set-append_seam vs c [] v in
          let both = last_same ws vs d v (tail ∙ seam) in
          let old : get_or (vs ++ c ∷ []) k 0 ≡ c = ap (λ n. get_or (vs ++ c ∷ []) n 0) here ∙ get_or-append_seam vs c [] 0 in
          ne (sym both.1 ∙ wrong ∙ ap₂ mod103 head both.0 ∙ sym right ∙ sym old)
    ]

-- the sum of one value more
pub by_place-more : (vs : List ℕ) (i : ℕ) → i < length vs → by_place 1 (take (i + 1) vs) ≡ by_place 1 (take i vs) + (i + 1) * get_or vs i 0
by_place-more vs i h =
    let more : take (i + 1) vs ≡ take i vs ++ get_or vs i 0 ∷ [] = ap (λ n. take n vs) (add-one i) ∙ take-suc vs i 0 h in
    let count = length-take i vs in
    let place : 1 + length (take i vs) ≡ i + 1 = omega arith in
    ap (by_place 1) more ∙ by_place-push 1 (take i vs) (get_or vs i 0) ∙ ap (λ n. by_place 1 (take i vs) + n * get_or vs i 0) place
