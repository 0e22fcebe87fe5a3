-- Each kind of record leaves its reply pending, if it has one; the replies before it stay, also if memory is refused.
use Rattle.command_runs.specs.declared.live.record.LineFault.TheVariants as line_fault
use Rattle.command_runs.specs.declared.live.record.Notice.TheVariants as notice
use Rattle.command_runs.specs.declared.live.pending.PendingReply.TheVariants as pending
use Rattle.command_runs.specs.declared.live.record.Record.TheVariants as read
use Rattle.command_runs.proofs.live.Words.{Some, [], ap, append-nil, refl, sym, turn_of, ◌++◌, ◌∙◌, ◌∷◌}
use Rattle.command_runs.proofs.live.LinesAndDeliveries.{came_plain, came_roomier, came_row, none_for, notice_for, spent_for}
use Rattle.command_runs.proofs.live.LivedOn.{refused_line, took_none, took_row}
use Rattle.command_runs.proofs.live.input.Live.keep.Goals as goal

pub returns-in-Blank-clause-takes : goal.returns-in-Blank-clause-takes
returns-in-Blank-clause-takes g c =
    let s = c.args.self.now in
    let found = rw c.in-Blank.is at c.requires in
    took_none s _ _ _ _ refl (λ p at. came_plain p (turn_of s) at _ [] found.0 read.Blank
    (c.in_ok-reserve.ensures.items ∙ sym (append-nil s.replies.items)) found.1 (none_for p s.lanes.items))

pub returns-in-Notice-clause-takes : goal.returns-in-Notice-clause-takes
returns-in-Notice-clause-takes g c =
    let s = c.args.self.now in
    let found = rw c.in-Notice.is at c.requires in
    let reply = pending.Notice c.in-Notice.notice in
    took_none s _ _ _ _ refl (λ p at. came_plain p (turn_of s) at _ (reply ∷ []) found.0 _
    (c.push_reserved.ensures.items ∙ ap (λ rs. rs ++ reply ∷ []) c.in_ok-reserve.ensures.items) found.1 (notice_for p s.lanes.items c.in-Notice.notice))

pub returns-in-Some-clause-takes : goal.returns-in-Some-clause-takes
returns-in-Some-clause-takes g c =
    let s = c.args.self.now in
    let found = rw c.in-Row.is at c.requires in
    let lane = c.in-Row.lane in
    let reply = pending.Row lane c.in-Some.number in
    let t = rw c.in-Some.is at c.in_ok-number-in-Row.ensures in
    took_row s _ _ _ _ refl (lane, c.in-Row.row) (λ p at. rw t.3 (came_row p (turn_of s) at lane t.0 t.1 t.2 _ found.0 c.in-Some.number c.in-Row.row
    (c.push_reserved-in-Some.ensures.items ∙ ap (λ rs. rs ++ reply ∷ []) c.in_ok-reserve.ensures.items) t.4 found.1))

pub returns-in-None-clause-takes : goal.returns-in-None-clause-takes
returns-in-None-clause-takes g c =
    let s = c.args.self.now in
    let found = rw c.in-Row.is at c.requires in
    let lane = c.in-Row.lane in
    let reply = pending.Notice (notice.Refused (Some lane) line_fault.Spent) in
    let t = rw c.in-None.is at c.in_ok-number-in-Row.ensures in
    took_none s _ _ _ _ refl (λ p at. rw t.3 (came_roomier p _ (came_plain p (turn_of s) at _ (reply ∷ []) found.0 _
    (c.push_reserved-in-None.ensures.items ∙ ap (λ rs. rs ++ reply ∷ []) c.in_ok-reserve.ensures.items) found.1
    (spent_for p s.lanes.items lane c.in-Row.row (sym (at.waiting.each lane t.0 t.2).next ∙ t.4.1))) lane t.0 t.1 t.2 t.4.0))

pub returns-in_err-reserve-clause-takes : goal.returns-in_err-reserve-clause-takes
returns-in_err-reserve-clause-takes g c =
    let s = c.args.self.now in
    refused_line _ c.from_residual.result s _ c.from_residual.ensures.0 (took_none s _ _ _ _ refl (λ p at. rw c.in_err-reserve.ensures.items at))

pub returns-in_err-number-in-Row-clause-takes : goal.returns-in_err-number-in-Row-clause-takes
returns-in_err-number-in-Row-clause-takes g c =
    let s = c.args.self.now in
    let r = c.from_residual-in_err-number-in-Row in
    let t = c.in_err-number-in-Row.ensures in
    refused_line _ r.result s _ r.ensures.0 (took_none s _ _ _ _ refl (λ p at.
    rw (c.in_ok-reserve.ensures.items, t.3) (came_roomier p (turn_of s) at c.in-Row.lane t.0 t.1 t.2 t.4)))
