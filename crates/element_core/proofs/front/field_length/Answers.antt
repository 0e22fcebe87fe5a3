use Rattle.std.proofs.Common.{◌≡◌, ◌≢◌, ◌+◌, ◌<◌, ◌≤◌, ℕ, suc, List, length, get_or, drop, refl, arith}
use Rattle.std.proofs.lemmas.Bool.{ne_eqb}
use Rattle.std.proofs.lemmas.List.{drop_all, drop_more}
use Rattle.element_core.specs.Elements.{field_of}
use Rattle.element_core.proofs.front.field_length.Goals as goal

more : (text : List ℕ) (i : ℕ) → i < length text → get_or text i 0 ≢ 29 → i + length (field_of (drop i text)) ≡ length (field_of text)
    → (i + 1) + length (field_of (drop (i + 1) text)) ≡ length (field_of text)
more text i lt other is =
    let longer : length (field_of (drop i text)) ≡ suc (length (field_of (drop (i + 1) text))) =
    rw (drop_more text i 0 lt, ne_eqb (get_or text i 0) 29 other) refl in
    omega arith

stopped : (text : List ℕ) (i : ℕ) → i < length text → get_or text i 0 ≡ 29 → i + length (field_of (drop i text)) ≡ length (field_of text)
    → i ≡ length (field_of text)
stopped text i lt here is = let none : length (field_of (drop i text)) ≡ 0 = rw (drop_more text i 0 lt, here) refl in omega arith

ended : (text : List ℕ) (i : ℕ) → length text ≤ i → i ≤ length text → i + length (field_of (drop i text)) ≡ length (field_of text)
    → length text ≡ length (field_of text)
ended text i past within is = let none : length (field_of (drop i text)) ≡ 0 = rw (drop_all i text past) refl in omega arith

pub loop-i-preserved : goal.loop-i-preserved
loop-i-preserved c = more c.args.text.now c.loop-i.i c.loop-i-test.true c.if-b-eq-SEPARATOR.false c.loop-i.invariant

pub returns-then-b-eq-SEPARATOR : goal.returns-then-b-eq-SEPARATOR
returns-then-b-eq-SEPARATOR c = stopped c.args.text.now c.loop-i.i c.loop-i-test.true c.if-b-eq-SEPARATOR.true c.loop-i.invariant

pub returns : goal.returns
returns c = ended c.args.text.now c.loop-i.i c.loop-i-test.false c.loop-i.auto.i-end c.loop-i.invariant
