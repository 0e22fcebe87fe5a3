-- A delivery adds its line and changes no row; as in `rows/RecordRowsTraffic/bring`, of another traffic.
use Rattle.std.proofs.Common.{arith, refl, string_bytes}
use Rattle.std.proofs.lemmas.Result.{IfOk-weaker}
use Rattle.lane_core.proofs.ResultFacts.{of_refusal}
use Rattle.command_runs.proofs.answers.LinesAsBrought.{texts_long}
use Rattle.command_runs.proofs.answers.cells.SheetRowsTraffic.bring.Goals as goal

pub push_answer_of-requires : goal.push_answer_of-requires
push_answer_of-requires g c =
    omega (arith, c.requires.4.lane, texts_long string_bytes c.args.self.now.texts.items c.requires.2 c.requires.3.lines, c.args.self.now.texts.ok.0)

pub returns-clause-brings : goal.returns-clause-brings
returns-clause-brings g c =
    IfOk-weaker c.push_answer_of.result _ _ (λ _ more start given brought was next. record {
      grid = was.grid;
      gave = was.gave;
      lines = more brought next.lane next.number was.lines;
    }) c.push_answer_of.ensures

pub returns-clause-leaves : goal.returns-clause-leaves
returns-clause-leaves g c = of_refusal _ _ refl
