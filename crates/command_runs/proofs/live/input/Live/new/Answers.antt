-- At first nothing has come and no reply is pending.
use Rattle.command_runs.proofs.live.Words.{Held, [], ap, refl, sym, ◌∙◌}
use Rattle.command_runs.proofs.live.BeginningAndEnd.{come_at_first}
use Rattle.command_runs.proofs.live.input.Live.new.Goals as goal

pub returns-clause-ok : goal.returns-clause-ok
returns-clause-ok g c = (
  refl,
  refl,
  refl,
  record {
    events = [];
    were_done = c.requires;
    come = come_at_first c.args.terms c.in-Ok.lanes.items c.new-4.result.items c.in-Ok-new.lines c.in-Ok.ensures c.new-4.ensures.items c.in-Ok-new.ensures;
    terms = refl;
    read = λ f. (λ is. absurd (cc is), λ is. absurd (cc (f, is)));
    write = λ f. (λ is. absurd (cc is), λ is. absurd (cc (f, is)));
    begun = λ is. cc is;
    ended = λ is. absurd (let never = sym (ap (λ (h : Held). h.has_ended) c.in-Ok-new.ensures) ∙ is in cc never);
  },
)
