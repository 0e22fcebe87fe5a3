-- A delivery adds its line and changes no row; as in `cells/SheetRowsTraffic/bring`, of another traffic.
use Rattle.std.proofs.Common.{arith, string_bytes}
use Rattle.command_runs.proofs.answers.LinesAsBrought.{texts_long}
use Rattle.command_runs.proofs.answers.rows.RecordRowsTraffic.bring.Goals as goal

pub push_answer_of-requires : goal.push_answer_of-requires
push_answer_of-requires g c =
    omega (arith, c.requires.4.lane, texts_long string_bytes c.args.self.now.texts.items c.requires.2 c.requires.3.lines, c.args.self.now.texts.ok.0)

pub returns-clause-brings : goal.returns-clause-brings
returns-clause-brings g c = λ start given brought was next. record {
  items = was.items;
  gave = was.gave;
  fed = was.fed;
  lines = c.in_ok-push_answer_of.ensures brought next.lane next.number was.lines;
}
