-- The first line of what is held ends at the first line feed, 10, behind its start; it is the last one if there is none (for `next_line`).
use Rattle.std.proofs.Common.{Bool, subst, cond, length-take, suc, zero, true, get_or, ◌≡◌, ◌<◌, ◌+◌, ◌-◌, ◌==◌, ◌∙◌, ◌∷◌, sym, List, None, Some, [], ap, arith, drop, false, length, map, refl, take, ℕ}
use Rattle.std.specs.List.{filter}
use Rattle.std.proofs.lemmas.Bool.{eqb-true, true≢false}
use Rattle.std.proofs.Math.Seq.{drop-cons}
use Rattle.std.proofs.lemmas.List.{get_or-drop, get_or-take, take_rest}
use Rattle.std.proofs.lemmas.List.Splits.{slice_split_none}
use Rattle.memchr.specs.Find.{IsFirstByte, is_byte}
use Rattle.wire_core.specs.Lines.{is_feed}
use Rattle.command_runs.specs.inner.Lines.{IsLastLine, IsLineTo, line_start, with_line}
use Rattle.command_runs.specs.live.Laws.{has_byte, record_lines}
use Rattle.command_runs.specs.live.Text.{without_return}
use Rattle.command_runs.proofs.answers.PlainBytes.{no_byte}

-- no line feed is found
last_line : (xs : List ℕ) → IsFirstByte (is_byte 10) xs None → record_lines xs ≡ with_line (without_return xs) (record_lines [])
last_line xs none = ap (λ ls. filter has_byte (map without_return ls)) (slice_split_none is_feed xs (no_byte 10 xs none))

-- a line feed is found: the line before it is the only one up to there
front_line : (xs : List ℕ) (k : ℕ) → IsFirstByte (is_byte 10) xs (Some k) → record_lines (take k xs) ≡ with_line (without_return (take k xs)) []
front_line xs k found = last_line (take k xs) (λ j least below is.
    let low : j < k = omega (arith, below, length-take k xs) in
    found.0.before j least low (ap (λ b. b == 10) (sym (get_or-take k xs j 0 low)) ∙ is))

-- the line from a start on, behind the line feed of the line before it, is the only one up to the line feed that was found k bytes after the start
abbrev LineEndsAt : List ℕ → ℕ → ℕ → Type 0
LineEndsAt xs start k = (record_lines (take (start + k) xs) ≡ with_line (without_return (take k (drop start xs))) []) × (0 < start + k) × (start + k < length xs)

-- so is the line from `line_start` on, whether the first byte is a line feed or begins the line
line_from_start : (xs : List ℕ) (k : ℕ) → IsFirstByte (is_byte 10) (drop (line_start xs) xs) (Some k) → LineEndsAt xs (line_start xs) k
line_from_start [] k found = let high = found.0.high in absurd (omega (arith, high))
line_from_start (b ∷ xs) k found = by (b == 10) refl found
  where
    by : (feed : Bool) → (b == 10) ≡ feed → IsFirstByte (is_byte 10) (drop (cond feed 1 0) (b ∷ xs)) (Some k) → LineEndsAt (b ∷ xs) (cond feed 1 0) k
    by true is found =
        let high = found.0.high in
        let ten : b ≡ 10 = eqb-true b 10 is in
        let here : suc k ≡ 1 + k = omega arith in (
          subst (λ n. record_lines (take n (b ∷ xs)) ≡ with_line (without_return (take k xs)) []) here
              (ap (λ c. record_lines (c ∷ take k xs)) ten ∙ front_line xs k found),
          omega arith,
          omega (arith, high),
        )
    by false is found =
        let high = found.0.high in
        let here : k ≡ 0 + k = omega arith in (
          subst (λ n. record_lines (take n (b ∷ xs)) ≡ with_line (without_return (take k (b ∷ xs))) []) here (front_line (b ∷ xs) k found),
          omega (arith, some k found),
          omega (arith, high),
        )
      where
        some : (k : ℕ) → IsFirstByte (is_byte 10) (b ∷ xs) (Some k) → 0 < k
        some zero found = absurd (true≢false (sym found.1 ∙ is))
        some (suc k) found = omega arith

-- the line feed that was found ends the line (`IsLineTo`)
line_to : (xs : List ℕ) (start k : ℕ) → start ≡ line_start xs → IsFirstByte (is_byte 10) (drop start xs) (Some k)
    → IsLineTo xs (without_return (take k (drop start xs))) (start + k)
line_to xs start k from found =
    let at : LineEndsAt xs start k = subst (λ n. LineEndsAt xs n k) (sym from) (line_from_start xs k (subst (λ n. IsFirstByte (is_byte 10) (drop n xs) (Some k)) from found)) in
    let ten : get_or xs (start + k) 0 ≡ 10 = sym (get_or-drop start xs k 0) ∙ eqb-true _ 10 found.1 in
    let next : suc (start + k) ≡ start + k + 1 = omega arith in
    let feed : drop (start + k) xs ≡ 10 ∷ drop (start + k + 1) xs =
    drop-cons xs (start + k) 0 at.2 ∙ ap (λ n. get_or xs (start + k) 0 ∷ drop n xs) next ∙ ap (λ b. b ∷ drop (start + k + 1) xs) ten in
    record { cut = at.0; feed = feed; some = at.1; low = at.2 }

-- no line feed is found from `line_start` on: the line is the last one
line_at_end : (xs : List ℕ) → IsFirstByte (is_byte 10) (drop (line_start xs) xs) None → IsLastLine xs
line_at_end [] none = refl
line_at_end (b ∷ xs) none = by (b == 10) refl none
  where
    by : (feed : Bool) → (b == 10) ≡ feed → IsFirstByte (is_byte 10) (drop (cond feed 1 0) (b ∷ xs)) None
        → record_lines (b ∷ xs) ≡ with_line (without_return (drop (cond feed 1 0) (b ∷ xs))) []
    by true is none = ap (λ c. record_lines (c ∷ xs)) (eqb-true b 10 is) ∙ last_line xs none
    by false is none = last_line (b ∷ xs) none

-- `line_to` and `line_at_end` in the terms of the slice that `next_line` searches
pub line_found : (bytes held line : List ℕ) (start k : ℕ) → bytes ≡ held → start ≡ line_start bytes
    → IsFirstByte (is_byte 10) (take (length bytes - start) (drop start bytes)) (Some k) → line ≡ without_return (take (start + k - start) (drop start bytes))
    → IsLineTo held line (start + k)
line_found bytes held line start k same from found of_line =
    let long : start + k - start ≡ k = omega arith in
    subst (λ h. IsLineTo h line (start + k)) same (subst (λ l. IsLineTo bytes l (start + k)) (sym (of_line ∙ ap (λ n. without_return (take n (drop start bytes))) long))
    (line_to bytes start k from (subst (λ hay. IsFirstByte (is_byte 10) hay (Some k)) (take_rest bytes start) found)))

pub no_feed_found : (bytes held : List ℕ) (start : ℕ) → bytes ≡ held → start ≡ line_start bytes
    → IsFirstByte (is_byte 10) (take (length bytes - start) (drop start bytes)) None → IsLastLine held
no_feed_found bytes held start same from none =
    let all = subst (λ hay. IsFirstByte (is_byte 10) hay None) (take_rest bytes start) none in
    subst IsLastLine same (line_at_end bytes (subst (λ n. IsFirstByte (is_byte 10) (drop n bytes) None) from all))
