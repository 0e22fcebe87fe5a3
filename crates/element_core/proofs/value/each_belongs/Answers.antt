use Rattle.std.proofs.Common.{◌≡◌, ◌∙◌, ◌+◌, ◌<◌, ◌≤◌, ℕ, Bool, List, true, ◌&&◌, length, get_or, drop, refl, sym}
use Rattle.std.specs.List.{list_all}
use Rattle.std.proofs.lemmas.List.{drop_all, drop_more}
use Rattle.element_core.specs.Elements.{belongs}
use Rattle.element_core.proofs.value.each_belongs.Goals as goal

first : (p : ℕ → Bool) (bytes : List ℕ) (i : ℕ) → i < length bytes → (p (get_or bytes i 0) && list_all p (drop (i + 1) bytes)) ≡ list_all p (drop i bytes)
first p bytes i lt = rw (drop_more bytes i 0 lt) refl

none : (p : ℕ → Bool) (bytes : List ℕ) (i : ℕ) → length bytes ≤ i → true ≡ list_all p (drop i bytes)
none p bytes i past = rw (drop_all i bytes past) refl

pub loop-b-preserved : goal.loop-b-preserved
loop-b-preserved c =
    let step = first (belongs c.args.format) c.args.bytes.now c.loop-b.b-index c.loop-b-test.true in
    (rw (sym c.if-not-belongs.ensures) at step) ∙ c.loop-b.invariant

pub returns-then-not-belongs : goal.returns-then-not-belongs
returns-then-not-belongs c =
    let step = first (belongs c.args.format) c.args.bytes.now c.loop-b.b-index c.loop-b-test.true in
    (rw (sym c.if-not-belongs.ensures) at step) ∙ c.loop-b.invariant

pub returns : goal.returns
returns c = none (belongs c.args.format) c.args.bytes.now c.loop-b.b-index c.loop-b-test.false ∙ c.loop-b.invariant
