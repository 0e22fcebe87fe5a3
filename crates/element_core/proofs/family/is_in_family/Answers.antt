use Rattle.std.proofs.Common.{◌≡◌, ◌+◌, ◌<◌, ◌≤◌, ℕ, List, true, length, get_or, drop, refl, sym, ◌∙◌, inl, inr}
use Rattle.std.proofs.lemmas.Bool.{le-leb}
use Rattle.std.proofs.lemmas.List.{drop_all, drop_more}
use Rattle.element_core.specs.inner.Families.{is_in_family}
use Rattle.element_core.proofs.FamilyLemmas.{not_in_at}
use Rattle.element_core.proofs.family.is_in_family.Goals as goal
use Rattle.element_core.proofs.family.is_in_family.Goals.{then-i-greatest-via-then-i-greatest, then-i-greatest-via-else-i-greatest+then-i-text, then-i-greatest-via-else-i-greatest+else-i-text+then-text-i, then-i-greatest-via-else-i-greatest+else-i-text+else-text-i+then-greatest-i}

pub returns-then-i-greatest : goal.returns-then-i-greatest
returns-then-i-greatest c =
    let at = not_in_at c.args.least.now c.args.greatest.now c.args.text.now c.loop-i.i c.loop-i-test.true in
    elim c.then-i-greatest.branch [
      | then-i-greatest-via-then-i-greatest w ↦ sym (at (inl w.if-i-greatest.true)) ∙ c.loop-i.invariant
      | then-i-greatest-via-else-i-greatest+then-i-text w ↦ sym (at (inr (inl w.if-i-text.true))) ∙ c.loop-i.invariant
      | then-i-greatest-via-else-i-greatest+else-i-text+then-text-i w ↦ sym (at (inr (inr (inl w.if-text-i.true)))) ∙ c.loop-i.invariant
      | then-i-greatest-via-else-i-greatest+else-i-text+else-text-i+then-greatest-i w ↦ sym (at (inr (inr (inr w.if-greatest-i.true)))) ∙ c.loop-i.invariant
    ]

between : (l g t : List ℕ) (i : ℕ) → i < length l → i < length g → i < length t → get_or l i 0 ≤ get_or t i 0 → get_or t i 0 ≤ get_or g i 0
    → is_in_family (drop (i + 1) l) (drop (i + 1) g) (drop (i + 1) t) ≡ is_in_family (drop i l) (drop i g) (drop i t)
between l g t i in_l in_g in_t low high =
    rw (
      drop_more l i 0 in_l,
      drop_more g i 0 in_g,
      drop_more t i 0 in_t,
      le-leb (get_or l i 0) (get_or t i 0) low,
      le-leb (get_or t i 0) (get_or g i 0) high,
    ) refl

ended : (l g t : List ℕ) (i : ℕ) → length l ≤ i → true ≡ is_in_family (drop i l) (drop i g) (drop i t)
ended l g t i past = rw (drop_all i l past) refl

pub loop-i-preserved : goal.loop-i-preserved
loop-i-preserved c =
    between c.args.least.now c.args.greatest.now c.args.text.now c.loop-i.i c.loop-i-test.true c.if-i-greatest.false c.if-i-text.false
    c.if-text-i.false c.if-greatest-i.false ∙ c.loop-i.invariant

pub returns : goal.returns
returns c = ended c.args.least.now c.args.greatest.now c.args.text.now c.loop-i.i c.loop-i-test.false ∙ c.loop-i.invariant
