-- After each write what the sink took and what waits is the same.
use Rattle.std.proofs.Common.{◌++◌, ◌==◌, ◌<◌, ◌≡◌, ◌≤◌, ◌∙◌, List, ap, arith, drop, false, length, length-drop, refl, rules, subst, sym, take, take-append-drop, ℕ}
use Rattle.std.specs.Io.KnownBytes.{Keeps, append_known}
use Rattle.std.proofs.lemmas.Bool.{eqb-false}
use Rattle.std.proofs.KnownBytes.{Keeps-refl, Keeps-trans, append_known-kept, append_known-moved}
use Rattle.command_runs.specs.inner.Buffers.{taken_and_waiting}
use Rattle.command_runs.proofs.buffered.Buffered.flush.Goals as goal

pub returns-then-self-clause-bytes : goal.returns-then-self-clause-bytes
returns-then-self-clause-bytes g c = Keeps-refl _

pub writes-init : goal.writes-init
writes-init g c =
    let s = c.self.inside in
    record {
      bytes =
          subst (λ v. Keeps (taken_and_waiting g.W.Sink.taken v) (append_known (g.W.Sink.taken s.sink) s.waiting)) c.self.view_is (Keeps-refl _);
      same = ap (λ v. g.W.Sink.failed v.sink) c.self.view_is;
      sound = c.self.invariant;
    }

pub drop_front-requires : goal.drop_front-requires
drop_front-requires g c = subst (λ bytes. c.in-Ok.count ≤ length bytes) c.as_slice.ensures.value c.in-Ok.ensures.bound

-- fewer bytes wait after a write that took some
fewer : (n : ℕ) (waiting sent rest : List ℕ) → sent ≡ waiting → false ≡ (length waiting == 0) → (0 < length sent → 0 < n) → n ≤ length sent
    → rest ≡ drop n waiting → length rest < length waiting
fewer n waiting sent rest is full some bound dropped =
    let none = eqb-false (length waiting) 0 (sym full) in
    let long = ap length is in
    let left = ap length dropped in
    omega (arith, length-drop n waiting)

pub writes-smaller : goal.writes-smaller
writes-smaller g c =
    fewer c.in-Ok.count c.writes.self-inside.waiting c.as_slice.result.now c.drop_front.new.self c.as_slice.ensures.value
    c.writes-test.ensures c.in-Ok.ensures.some c.in-Ok.ensures.bound c.drop_front.ensures

pub writes-preserved : goal.writes-preserved
writes-preserved g c =
    let inv = c.writes.invariant in
    let n = c.in-Ok.count in
    let waiting = c.writes.self-inside.waiting in
    let sent = c.as_slice.result.now in
    let rest = c.drop_front.new.self in
    let all : waiting ≡ take n sent ++ rest = sym (take-append-drop n waiting) ∙ ap (λ t. take n t ++ drop n waiting) (sym c.as_slice.ensures.value)
    ∙ ap (λ t. take n sent ++ t) (sym c.drop_front.ensures) in
    record {
      bytes = Keeps-trans _ _ _ inv.bytes (append_known-moved _ _ (take n sent) rest waiting c.in-Ok.ensures.bytes all);
      same = c.in-Ok.ensures.ok ∙ inv.same;
      sound = inv.sound ∙ sym c.in-Ok.ensures.ok;
    }

pub returns-in_default-clause-bytes : goal.returns-in_default-clause-bytes
returns-in_default-clause-bytes g c = Keeps-trans _ _ _ c.writes.invariant.bytes (append_known-kept _ _ _ c.in_default.ensures.bytes)

pub returns-in_default-clause-faults : goal.returns-in_default-clause-faults
returns-in_default-clause-faults g c = record { ok = tt; err = c.in_default.ensures.err; again = λ failed. refl }

pub returns-clause-bytes : goal.returns-clause-bytes
returns-clause-bytes g c = c.writes.invariant.bytes

pub returns-clause-faults : goal.returns-clause-faults
returns-clause-faults g c = record { ok = c.writes.invariant.same; err = tt; again = search rules }
