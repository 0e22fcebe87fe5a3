-- The lines of the replies so far are in the text.
use Rattle.command_runs.proofs.live.Words.{AllZip, TellsPending, [], all_zipped_more, ap, append-nil, concat, concat-append, subst, sym, take_more, ◌++◌, ◌∙◌, ◌∷◌}
use Rattle.command_runs.proofs.live.pending.push_replies.Goals as goal

pub loop-reply-preserved : goal.loop-reply-preserved
loop-reply-preserved c =
    let old = c.loop-reply.invariant in
    let new = c.in_ok-push_reply.ensures in
    let S = TellsPending c.args.terms.now c.args.lanes.now in
    let item = c.reply-item.result in
    let says = subst (λ p. S p new.0) c.reply-item.is new.2 in (
      old.0 ++ new.0 ∷ [],
      subst (λ ps. AllZip S ps (old.0 ++ new.0 ∷ [])) (sym (take_more c.args.replies.now c.loop-reply.reply-index item c.loop-reply-test.true))
          (all_zipped_more S _ old.0 _ new.0 old.1 says),
      new.1 ∙ ap (λ t. t ++ new.0) old.2 ∙ ap (λ t. concat old.0 ++ t) (sym (append-nil new.0)) ∙ sym (concat-append old.0 (new.0 ∷ [])),
    )
