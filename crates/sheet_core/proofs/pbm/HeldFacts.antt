-- What is held of bytes, after more are read behind it or some are given up (for `pbm/held.rt`).
use Rattle.std.proofs.Common.{List, [], ap, arith, drop, length, refl, sym, take, ℕ, ◌+◌, ◌++◌, ◌-◌, ◌∙◌, ◌≡◌, ◌≤◌}
use Rattle.std.specs.Prelude.{slice_range}
use Rattle.std.proofs.lemmas.List.{drop-append-le, drop-drop, drop-take, drop_at, length-drop, length-take-le, take-append-le, take_at}
use lib.Seq.{take-add}
use borrow.Rule.Slice.PartMut.{post_of, put_mid}

pub grown : (xs ys : List ℕ) (start end k n : ℕ) → start ≤ end → end ≤ length xs → n ≤ length ys
    → slice_range (put_mid end k xs ys) start (end + n) ≡ slice_range xs start end ++ take n ys
grown xs ys start end k n ordered within fits =
    let front = length-take-le end xs within in
    let held = drop start (take end xs) in
    let len : length held ≡ end - start = omega (arith, length-drop start (take end xs), front) in
    let sum : end + n - start ≡ (end - start) + n = omega (arith, ordered) in
    let parts : end ≡ start + (end - start) = omega (arith, ordered) in
    let same : held ≡ take (end - start) (drop start xs) = ap (λ j. drop start (take j xs)) parts ∙ drop-take start (end - start) xs in
    let after = ys ++ post_of end k xs in
    ap (take (end + n - start)) (drop-append-le start (take end xs) after (omega (arith, front, ordered)))
    ∙ ap (λ j. take j (held ++ after)) sum ∙ take-add (end - start) n (held ++ after)
    ∙ (rw (take_at held after _ len, drop_at held after _ len, take-append-le n ys (post_of end k xs) fits, same) refl)

pub given_up : (xs : List ℕ) (start end count : ℕ) → start ≤ end → end ≤ length xs → count ≤ length (slice_range xs start end)
    → slice_range xs (start + count) end ≡ drop count (slice_range xs start end)
given_up xs start end count ordered within few =
    let held = length-take-le (end - start) (drop start xs) (omega (arith, length-drop start xs, within)) in
    let parts : end - start ≡ count + (end - (start + count)) = omega (arith, held, few, ordered) in
    sym (ap (λ j. drop count (take j (drop start xs))) parts ∙ drop-take count _ (drop start xs)
    ∙ ap (take (end - (start + count))) (drop-drop count start xs))
