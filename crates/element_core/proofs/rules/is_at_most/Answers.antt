use Rattle.std.proofs.Common.{◌≡◌, ◌+◌, ◌-◌, ◌*◌, ◌<◌, ◌≤◌, ℕ, List, [], ◌∷◌, length, get_or, drop, ap, sym, arith}
use Rattle.std.proofs.lemmas.Bool.{lt-leb}
use Rattle.std.proofs.lemmas.List.{drop_more}
use Rattle.element_core.specs.Rules.{number_after}
use Rattle.element_core.proofs.rules.is_at_most.Goals as goal

-- a number does not fall by digits behind it
grows : (number : ℕ) (text : List ℕ) → number ≤ number_after number text
grows number [] = omega arith
grows number (b ∷ text) = omega (arith, grows (10 * number + (b - 48)) text)

one_more : (number : ℕ) (text : List ℕ) (i : ℕ) → i < length text
    → number_after number (drop i text) ≡ number_after (10 * number + (get_or text i 0 - 48)) (drop (i + 1) text)
one_more number text i lt = ap (number_after number) (drop_more text i 0 lt)

pub returns-then-greatest-number : goal.returns-then-greatest-number
returns-then-greatest-number c =
    let text = c.args.text.now in
    let i = c.loop-byte.byte-index in
    let step = one_more c.loop-byte.number text i c.loop-byte-test.true in
    let more = grows (10 * c.loop-byte.number + (get_or text i 0 - 48)) (drop (i + 1) text) in
    sym (lt-leb (number_after 0 text) c.args.greatest (omega arith))
