use Rattle.std.proofs.Common.{◌≡◌, ◌+◌, ◌-◌, ◌*◌, ◌^◌, ◌<◌, ◌≤◌, not, Result, Ok, Err, OnErr, sym, ap, subst, ◌∙◌, arith}
use Rattle.std.proofs.lemmas.Nat.{mod_below}
use Rattle.std.specs.Int.{bit_at}
use Rattle.scan_core.specs.Bits.{dots_at}
use Rattle.scan_core.specs.inner.Cutting.{Cut}
use Rattle.scan_core.proofs.RunsCutOfDots.{Open, front, run_ends}
use Rattle.scan_core.proofs.WordFacts.{begins, falls, known_on, not_both, run_on}
use Rattle.scan_core.proofs.cut.cut_word.Goals as goal

on_err : {T E P : Type 0} (r : Result T E) → P → OnErr r P
on_err (Ok x) p = tt
on_err (Err e) p = p

pub returns-in_err-put-clause-front : goal.returns-in_err-put-clause-front
returns-in_err-put-clause-front g c =
    let inv = c.runs.invariant in
    let e = c.zeros_before-same.ensures in
    let left = c.runs.left in
    let same = c.zeros_before-same.result in
    let end = c.args.at + c.min-left.result in
    let lt : same < left = let t = c.if-left-same.false in omega arith in
    let few : left ≤ 64 = inv.few in
    let inside : left ≤ end = inv.in_row in
    let one = e.one (omega arith) in
    let cut = run_on c.args.bits.now c.args.from (end - left) left c.runs.others same (g.R.RunList.runs c.runs.list) c.runs.run.width c.runs.run.dark inv.cut
    inv.begun inv.known (omega arith) e.zeros (λ none. ap (λ s. bit_at c.runs.others (63 - s)) (sym none) ∙ one) in
    on_err c.from_residual.result (front c.args.bits.now c.args.from (end - left + same) c.args.width _ _ (c.runs.run.width + same) c.runs.run.dark (omega arith)
    c.requires.few cut c.in_err-put.ensures.unchanged)

pub runs-smaller : goal.runs-smaller
runs-smaller g c =
    let inv = c.runs.invariant in
    let left = c.runs.left in
    let same = c.zeros_before-same.result in
    let lt : same < left = let t = c.if-left-same.false in omega arith in
    let few : left ≤ 64 = inv.few in
    let one = c.zeros_before-same.ensures.one (omega arith) in
    falls left same (bit_at c.runs.others 63) _ (begins c.runs.others same inv.word (omega arith) one) lt
    (λ none. ap (λ s. bit_at c.runs.others (63 - s)) (sym none) ∙ one)

pub runs-preserved : goal.runs-preserved
runs-preserved g c =
    let runs = g.R.RunList.runs in
    let inv = c.runs.invariant in
    let e = c.zeros_before-same.ensures in
    let left = c.runs.left in
    let same = c.zeros_before-same.result in
    let end = c.args.at + c.min-left.result in
    let run = c.runs.run.width + same in
    let dark = c.runs.run.dark in
    let lt : same < left = let t = c.if-left-same.false in omega arith in
    let few : left ≤ 64 = inv.few in
    let inside : left ≤ end = inv.in_row in
    let one = e.one (omega arith) in
    let cut = run_on c.args.bits.now c.args.from (end - left) left c.runs.others same (runs c.runs.list) c.runs.run.width dark inv.cut inv.begun inv.known
    (omega arith) e.zeros (λ none. ap (λ s. bit_at c.runs.others (63 - s)) (sym none) ∙ one) in
    let ended = run_ends (runs c.runs.list) (runs c.put.new.self) run dark (end - left + same) (dots_at c.args.bits.now c.args.from (end - left + same)) cut
    c.in_ok-put.ensures.put in
    let place : end - left + same ≡ end - (left - same) = omega arith in
    record {
      cut = subst (λ n. Open (runs c.put.new.self) 0 (not dark) n (dots_at c.args.bits.now c.args.from n)) place ended;
      begun = λ first some. absurd (not_both _ (begins c.runs.others same inv.word (omega arith) one) first);
      known = known_on c.args.bits.now c.args.from end left c.runs.others same dark inv.word few inside lt inv.known;
      word = mod_below ((18446744073709551615 - c.runs.others) * 2 ^ same) 18446744073709551616 (omega arith);
      some = omega arith;
      few = omega arith;
      in_row = omega arith;
    }

pub returns-clause-cut : goal.returns-clause-cut
returns-clause-cut g c =
    let inv = c.runs.invariant in
    let e = c.zeros_before-same.ensures in
    let left = c.runs.left in
    let end = c.args.at + c.min-left.result in
    let le : left ≤ c.zeros_before-same.result = c.if-left-same.true in
    let some : 0 < left = inv.some in
    let inside : left ≤ end = inv.in_row in
    let cut = run_on c.args.bits.now c.args.from (end - left) left c.runs.others left (g.R.RunList.runs c.runs.list) c.runs.run.width c.runs.run.dark inv.cut
    inv.begun inv.known (omega arith) (λ k lt. e.zeros k (omega arith)) (λ none. absurd (omega arith)) in
    let place : end - left + left ≡ end = omega arith in
    subst (λ n. Cut (g.R.RunList.runs c.runs.list) (c.runs.run.width + left) c.runs.run.dark n (dots_at c.args.bits.now c.args.from n)) place cut
