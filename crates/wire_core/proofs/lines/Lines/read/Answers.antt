use Rattle.std.proofs.Common.{◌≡◌, ◌∙◌, ◌==◌, ◌++◌, [], Bool, List, ap, arith, drop, if◌then◌else◌, length, length-take, refl, take, ℕ}
use Rattle.std.proofs.lemmas.Bool.{eqb-true}
use Rattle.std.proofs.lemmas.Grind.{common_steps}
use Rattle.wire_core.specs.Lines.{Held, arrived, is_too_long}
use Rattle.wire_core.proofs.lines.Lines.read.Goals as goal

-- what is held after a read of this many bytes
held_after : (h : Held) (cut : Bool) (kept more now : List ℕ) (count : ℕ) → cut ≡ is_too_long h → kept ≡ (if cut then [] else h.rest)
    → now ≡ kept ++ more → length more ≡ count → record { rest = now; is_cut = cut; has_ended = count == 0 } ≡ arrived h more
held_after h cut kept more now count c k n l = rw (n, k, c, ← l) refl

pub returns-clause-ok : goal.returns-clause-ok
returns-clause-ok g c =
    let was = c.self.inside in
    let held : Held = record { rest = drop was.start was.bytes.items; is_cut = was.is_cut; has_ended = was.has_ended } in
    let kept = c.keep_rest-self-inside.ensures in
    let more = take c.in_ok-count.count c.read.new.buf in
    let now : c.extend_from_slice.new.self.items ≡ c.keep_rest-self-inside.new.bytes.items ++ more =
    grind (arith, common_steps, kept.few, kept.capacity, c.self.invariant, c.as_mut_slice.ensures, c.read.auto.buf, c.in_ok-count.ensures.few, c.as_slice.ensures, c.extend_from_slice.ensures) in (
      more,
      held_after held _ _ more _ _ kept.cut kept.rest now (omega (arith, length-take c.in_ok-count.count c.read.new.buf, c.in_ok-count.ensures.few)) ∙ ap (λ h. arrived h more) c.self.view_is,
      (let e = c.in_ok-count.ensures.ends in record { done = e.done; nothing = tt; faults = record { ok = e.faults.ok; err = tt; other_side = e.faults.other_side } }),
    )

pub returns-clause-end : goal.returns-clause-end
returns-clause-end g c = λ none. c.in_ok-count.ensures.end (eqb-true _ 0 none) (omega (arith, c.as_mut_slice.ensures.len, c.read.auto.buf, c.self.invariant))
