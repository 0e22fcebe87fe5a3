use Rattle.std.proofs.Common.{◌≡◌, ◌+◌, ◌-◌, ◌++◌, ◌∙◌, ℕ, suc, sym, ap, subst, arith}
use Rattle.std.specs.Prelude.{OnErr}
use Rattle.std.specs.Io.KnownBytes.{Appends}
use Rattle.std.proofs.lemmas.Bool.{false≢true}
use Rattle.std.proofs.KnownBytes.{Appends-trans}
use Rattle.digits_core.specs.Bytes.{TookFront}
use Rattle.sheet_core.specs.inner.Lines.{repeated_bytes}
use Rattle.sheet_core.proofs.BandFacts.{rows_more}
use Rattle.sheet_core.proofs.pbm.FileFacts.{still, took_after, took_more}
use Rattle.sheet_core.proofs.pbm.ImageFacts.{err_is}
use Rattle.sheet_core.proofs.pbm.PrintFacts.{rows_add}
use Rattle.sheet_core.proofs.pbm.print.write_rows.Goals as goal

pub loop-preserved : goal.loop-preserved
loop-preserved g c =
    let line = c.args.line.now in
    let a = g.W.Sink.taken c.args.sink.now in
    let b = g.W.Sink.taken c.loop.sink in
    let d = g.W.Sink.taken c.write_all.new.sink in
    record {
      wrote = subst (Appends a d) (sym (rows_more c.loop.counter line))
          (Appends-trans a b d (repeated_bytes c.loop.counter line) line c.loop.invariant.wrote c.in_ok-write_all.ensures.ok);
      same = λ sound. still (g.W.Sink.failed c.write_all.new.sink) (λ e. false≢true ((c.in_ok-write_all.ensures.fault (c.loop.invariant.same sound)).1 e));
    }

pub returns-in_err-write_all-clause-err : goal.returns-in_err-write_all-clause-err
returns-in_err-write_all-clause-err g c =
    let e = c.from_residual.ensures in
    let line = c.args.line.now in
    let a = g.W.Sink.taken c.args.sink.now in
    let b = g.W.Sink.taken c.loop.sink in
    let d = g.W.Sink.taken c.write_all.new.sink in
    let left : ℕ = c.args.count - (c.loop.counter + 1) in
    let split : repeated_bytes c.args.count line ≡ repeated_bytes c.loop.counter line ++ (line ++ repeated_bytes left line) =
    ap (λ n. repeated_bytes n line) (let e : c.args.count ≡ c.loop.counter + suc left = omega arith in e) ∙ rows_add c.loop.counter (suc left) line in
    subst (λ r. OnErr r (TookFront a d (repeated_bytes c.args.count line))) (sym (err_is c.from_residual.result c.in_err-write_all.field-0.0 e.0 e.1))
    (subst (TookFront a d) (sym split) (took_after a b d (repeated_bytes c.loop.counter line) (line ++ repeated_bytes left line) c.loop.invariant.wrote
    (took_more b d line (repeated_bytes left line) c.in_err-write_all.ensures.err)))
