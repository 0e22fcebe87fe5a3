-- If the run or the flush fails, the sink took a prefix of what the command wrote, and the refusal is one of the command.
use Rattle.std.proofs.Common.{◌≡◌, Err, [], append-nil, refl, rules, sym}
use Rattle.std.proofs.KnownBytes.{Keeps-refl}
use Rattle.digits_core.specs.Bytes.{TookFront}
use Rattle.command_runs.specs.inner.Buffers.{taken_and_waiting}
use Rattle.command_runs.specs.declared.fault.CommandFault.TheVariants as command
use Rattle.command_runs.proofs.BufferedIsTaken.{may_fail, took_front}
use Rattle.command_runs.proofs.ToldFaults.{refused_as}
use Rattle.command_runs.proofs.commands.run_and_flush.Goals as goal

pub returns-in_err-run : goal.returns-in_err-run
returns-in_err-run g c =
    let taken = g.W.Sink.taken in
    let before = c.args.sink.now in
    let after = c.run.new.sink in
    record {
      ok = search rules;
      cut = λ same.
          let failed : c.run.result ≡ Err command.WriteFault = search rules in
          let wrote = c.run.ensures.cut failed in (
            wrote.0,
            wrote.1,
            wrote.2,
            wrote.3,
            took_front (taken before.sink) (taken_and_waiting taken after) (taken after.sink) before.waiting after.waiting wrote.1 c.requires.fresh
                c.requires.empty wrote.4 (Keeps-refl (taken_and_waiting taken after)),
          );
      refused = search rules;
      unwritten = search rules;
      read = search rules;
      write = search rules;
    }

pub returns-in_err-flush : goal.returns-in_err-flush
returns-in_err-flush g c =
    let taken = g.W.Sink.taken in
    let left = g.S.Source.left in
    let before = c.args.sink.now in
    let middle = c.run.new.sink in
    let after = c.flush.new.self in
    let wrote = c.in_ok-run.ensures.ok in
    let result = c.from_residual-in_err-flush.result in
    let write = c.from_residual-in_err-flush.ensures.1 in
    let front : TookFront (taken before.sink) (taken after.sink) wrote.1 =
    took_front (taken before.sink) (taken_and_waiting taken middle) (taken after.sink) before.waiting after.waiting wrote.1 c.requires.fresh c.requires.empty
    (wrote.1, [], sym (append-nil wrote.1), wrote.4) c.flush.ensures.bytes in
    record {
      ok = search rules;
      cut = λ same. (wrote.0, wrote.1, wrote.2, wrote.3, front);
      refused = refused_as result command.WriteFault _ write
          (may_fail c.args.batch TookFront (left c.args.source.now) (left c.run.new.source) (taken before.sink) (taken after.sink)
          (wrote.0, wrote.1, wrote.2, wrote.3, front));
      unwritten = refused_as result command.WriteFault _ write (λ other. absurd (other refl));
      read = search rules;
      write = search rules;
    }
