-- Buffers that words are put in.
use Rattle.std.proofs.Common.{◌≡◌, ◌∙◌, ◌+◌, ◌-◌, ◌<◌, ◌≤◌, ℕ, List, [], ◌∷◌, ◌++◌, ap, append_assoc, arith, drop, get_or, length, length-append, refl, slice_set, sym}
use Rattle.std.proofs.lemmas.List.{drop-drop, drop_at, drop_more, set_at, take_at}
use borrow.Rule.Slice.PartMut.{put_mid}

-- a word, a space and what stood behind them
spaced : (first out : List ℕ) → length first < length out
    → slice_set (first ++ drop (length first) out) (length first) 32 ≡ (first ++ 32 ∷ []) ++ drop (length first + 1) out
spaced first out room =
    ap (λ rest. slice_set (first ++ rest) (length first) 32) (drop_more out (length first) 0 room)
    ∙ set_at first (get_or out (length first) 0) (drop (length first + 1) out) 32 (length first) refl
    ∙ sym (append_assoc first (32 ∷ []) (drop (length first + 1) out))

-- two words with a space between them, and what stood behind them
pub two_words : (first second out : List ℕ) → length first + 1 + length second ≤ length out
    → put_mid (length first + 1) (length first + 1 + length second - (length first + 1)) (slice_set (first ++ drop (length first) out) (length first) 32) second
    ≡ (first ++ 32 ∷ second) ++ drop (length (first ++ 32 ∷ second)) out
two_words first second out room =
    let front : List ℕ = first ++ 32 ∷ [] in
    let a : ℕ = length first + 1 in
    let rest : List ℕ = drop a out in
    let long : length front ≡ a = omega (arith, length-append first (32 ∷ [])) in
    let count : a + length second - a ≡ length second = omega arith in
    let whole : length (first ++ 32 ∷ second) ≡ a + length second = omega (arith, length-append first (32 ∷ second)) in
    rw (
      spaced first out (omega arith),
      count,
      whole,
      take_at front rest a long,
      drop_at front rest a long,
      drop-drop (length second) a out,
      append_assoc first
          (32 ∷ []) (second ++ drop (a + length second) out),
      append_assoc first (32 ∷ second) (drop (a + length second) out),
    ) refl
