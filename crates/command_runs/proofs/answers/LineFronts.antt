-- A lane and a number in front of a line.
use Rattle.std.proofs.Common.{◌≡◌, rules, ℕ, suc, ◌+◌, ◌-◌, ◌<◌, ◌≤◌, ◌^◌, List, [], ◌∷◌, ◌++◌, ◌∙◌, ap, arith, drop, drop-cons, get_or, length, length-drop, replicate, sym, take, take_all}
use Rattle.std.specs.Fmt.{decimal}
use Rattle.std.specs.Str.{IsAscii}
use Rattle.std.proofs.lemmas.Fmt.{IsAscii-decimal}
use Rattle.std.proofs.lemmas.List.{get_or-replicate, get_or-take}
use Rattle.std.proofs.lemmas.Str.{IsAscii-append}

-- a byte that was not written is the space that it was
space_at : (xs : List ℕ) (m k : ℕ) → k < m → m ≤ 15 → take m xs ≡ take m (replicate 15 32) → get_or xs k 0 ≡ 32
space_at xs m k lt few same =
    sym (get_or-take m xs k 0 lt) ∙ ap (λ (t : List ℕ). get_or t k 0) same ∙ get_or-take m (replicate 15 32) k 0 lt ∙ get_or-replicate 15 k 32 0 (omega arith)

-- the space before what was written
pub space_before : (xs ys : List ℕ) (m k : ℕ) → m ≡ suc k → m ≤ 15 → k < length xs → take m xs ≡ take m (replicate 15 32) → drop m xs ≡ ys
    → drop k xs ≡ 32 ∷ ys
space_before xs ys m k next few inside same behind =
    let end : drop (suc k) xs ≡ ys = ap (λ j. drop j xs) (sym next) ∙ behind in
    drop-cons xs k 0 inside ∙ ap (λ b. b ∷ drop (suc k) xs) (space_at xs m k (omega arith) few same) ∙ ap (λ (t : List ℕ). 32 ∷ t) end

space : IsAscii (32 ∷ [])
space = search rules

-- it is ASCII
pub front_ascii : (l n : ℕ) → l < 2 ^ 64 → n < 2 ^ 64 → IsAscii (decimal l ++ (32 ∷ (decimal n ++ (32 ∷ []))))
front_ascii l n small few =
    IsAscii-append (decimal l) _ (IsAscii-decimal l small) (IsAscii-append (32 ∷ []) _ (space) (IsAscii-append (decimal n) (32 ∷ []) (IsAscii-decimal n few) space))

-- what is written from the right is the lane and the number, each with a space behind it
pub front_is : (first second : List ℕ) (l n middle start : ℕ) → length first ≡ 15 → length second ≡ 15 → middle + length (decimal n) ≡ 14
    → 1 ≤ middle → start + length (decimal l) ≡ middle - 1 → drop middle first ≡ decimal n ++ (32 ∷ []) → take middle first ≡ take middle (replicate 15 32)
    → drop start second ≡ decimal l ++ drop (middle - 1) first
    → take (15 - start) (drop start second) ≡ decimal l ++ (32 ∷ (decimal n ++ (32 ∷ [])))
front_is first second l n middle start long_first long_second ends some before number same lane =
    take_all (15 - start) (drop start second) (omega (arith, length-drop start second)) ∙ lane
    ∙ ap (λ (t : List ℕ). decimal l ++ t)
    (space_before first (decimal n ++ (32 ∷ [])) middle (middle - 1) (omega arith) (omega arith) (omega arith) same number)
