use Rattle.std.proofs.Common.{◌≡◌, ◌∙◌, ℕ, ◌+◌, ◌-◌, ◌<◌, List, [], ◌∷◌, ◌++◌, length, get_or, drop, sym, ap, arith, length-append}
use Rattle.std.proofs.Math.ListN.{get_or-map, get_or-append}
use Rattle.std.proofs.lemmas.List.{length-map, drop_at}
use Rattle.digits_core.specs.Digits.{digits_of, weighted}
use Rattle.digits_core.proofs.DigitTexts.{digit_at}
use Rattle.digits_core.proofs.Weights.{weighted_more, weighted-last, weighs_little}
use Rattle.digits_core.proofs.payload.payload_sum.Goals as goal

-- the digits before a last one
length-payload : (text : List ℕ) (last : ℕ) → length (digits_of text ++ last ∷ []) ≡ length text + 1
length-payload text last = length-append (digits_of text) (last ∷ []) ∙ ap (λ n. n + 1) (length-map text _)

digit-payload : (text : List ℕ) (last i : ℕ) → i < length text → get_or (digits_of text ++ last ∷ []) i 0 ≡ get_or text i 0 - 48
digit-payload text last i h =
    let long = length-map text (λ b. b - 48) in
    get_or-append (digits_of text) (last ∷ []) 0 i (omega arith) ∙ get_or-map (λ b. b - 48) text i 0

pub returns : goal.returns
returns c = λ last.
    let text = c.args.payload.now in
    let rest : weighted (drop c.loop-byte.byte-index (digits_of text ++ 0 ∷ [])) ≡ 0 =
    ap weighted (drop_at (digits_of text) (0 ∷ []) c.loop-byte.byte-index (let long = length-map text (λ b. b - 48) in omega arith)) in
    let whole = c.loop-byte.invariant.sum_is in
    weighted-last (digits_of text) last ∙ (omega arith)

pub loop-byte-preserved : goal.loop-byte-preserved
loop-byte-preserved c =
    let text = c.args.payload.now in
    let i = c.loop-byte.byte-index in
    let inv = c.loop-byte.invariant in
    let long = length-payload text 0 in
    let more = weighted_more (digits_of text ++ 0 ∷ []) i c.loop-byte.weight (omega arith) (let w = inv.weight_is in omega arith) in
    let here : get_or (digits_of text ++ 0 ∷ []) i 0 ≡ c.from.result = digit-payload text 0 i (omega arith) ∙ sym c.from.ensures in
    let digit = digit_at text i c.requires.digits (omega arith) in
    let low : c.from.result < 10 = let is = c.from.ensures in omega arith in
    let small = weighs_little c.loop-byte.weight c.from.result (length text + i) inv.weight_is low in
    let step = rw here at more in
    record {
      weight_is = let w = inv.weight_is in omega arith;
      sum_is = let s = inv.sum_is in omega arith;
      small = let s = inv.small in omega arith;
    }
