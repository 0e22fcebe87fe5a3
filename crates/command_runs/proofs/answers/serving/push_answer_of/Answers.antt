-- The line goes to the end of the text of its lane.
use Rattle.std.proofs.Common.{◌∙◌, string_bytes}
use Rattle.command_runs.proofs.answers.LinesAsBrought.{lines_brought}
use Rattle.command_runs.proofs.answers.serving.push_answer_of.Goals as goal

pub returns : goal.returns
returns c =
    lines_brought string_bytes c.args.texts.now.items c.from-index.result c.index_mut.result.now c.push_line.new.text c.push_line.result c.args.delivery.now _ _
    (c.from-index.ensures ∙ c.ticket-ticket.ensures.lane) c.ticket-ticket.ensures.lane c.ticket-ticket.ensures.number c.index_mut.ensures.value
    c.push_line.ensures
