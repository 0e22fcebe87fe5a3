use Rattle.std.proofs.Common.{rules, ◌≡◌, sym, subst, ◌∙◌, arith}
use Rattle.sheet_core.specs.declared.fault.PbmFault.TheVariants.{ReadFault}
use Rattle.sheet_core.specs.pbm.Images.{ReadsBytes}
use Rattle.sheet_core.proofs.pbm.ImageFacts.{err_is}
use Rattle.sheet_core.proofs.pbm.HeaderFacts.{At, at_none, at_some, begins, broken, done, ended, goes, refused, told, too_long}
use Rattle.sheet_core.proofs.pbm.read.read_header.Goals as goal

pub loop-k-init : goal.loop-k-init
loop-k-init g c = record { reached = search rules; same_failed = search rules; read = begins (g.R.Source.left c.args.reader.now) c.args.first }

pub returns-in-Done-clause-read : goal.returns-in-Done-clause-read
returns-in-Done-clause-read g c = done _ _ _ _ _ _ _ c.loop-k.invariant.read c.loop-k-test.true (sym c.in-Done.ensures.value)

pub returns-in-Refused-clause-read : goal.returns-in-Refused-clause-read
returns-in-Refused-clause-read g c = refused _ _ _ _ _ _ _ c.loop-k.invariant.read c.loop-k-test.true (sym c.in-Refused.ensures.value)
    c.in-Refused.ensures.reached

pub returns-in_err-next-clause-read : goal.returns-in_err-next-clause-read
returns-in_err-next-clause-read g c =
    let e = c.from_residual.ensures in
    subst (ReadsBytes (told c.args.first) (g.R.Source.left c.args.reader.now) (g.R.Source.left c.next.new.reader))
    (sym (err_is c.from_residual.result ReadFault e.0 e.1))
    (broken _ _ _ _ _ _ _ _ c.loop-k.invariant.read c.loop-k-test.true (sym c.in-Goes.ensures.value) c.in_err-next.ensures.byte.1)

pub returns-in-None-clause-read : goal.returns-in-None-clause-read
returns-in-None-clause-read g c =
    let end = at_none _ _ _ c.in-None.is c.in_ok-next.ensures.byte.1 in
    ended _ _ _ _ _ _ _ _ c.loop-k.invariant.read c.loop-k-test.true (sym c.in-Goes.ensures.value) end.0 end.1

pub loop-k-preserved : goal.loop-k-preserved
loop-k-preserved g c =
    let n = c.in_ok-next.ensures.byte in
    record {
      reached = c.in-Goes.ensures.reached;
      same_failed = n.0 ∙ c.loop-k.invariant.same_failed;
      read = goes _ _ _ _ _ _ _ _ _ c.loop-k.invariant.read c.loop-k-test.true (sym c.in-Goes.ensures.value) (at_some _ _ _ _ c.in-Some.is n.1);
    }

pub returns-clause-read : goal.returns-clause-read
returns-clause-read g c =
    let end : c.loop-k.k ≡ 4096 = omega arith in
    too_long _ _ _ _ _ (subst (λ k. At (g.R.Source.left c.args.reader.now) (g.R.Source.left c.loop-k.reader) c.args.first k c.loop-k.state c.loop-k.byte) end
    c.loop-k.invariant.read)
