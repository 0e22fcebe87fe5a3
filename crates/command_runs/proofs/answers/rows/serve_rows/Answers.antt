-- What the hub served is what the reader gave, all of it if it ended well.
use Rattle.std.proofs.Common.{[], ap, map, string_bytes, subst, sym, ◌∙◌}
use Rattle.std.specs.List.{concat}
use Rattle.hub_core.specs.Traffics.{IsKept}
use Rattle.command_runs.specs.answers.Reports.{IsReport}
use Rattle.command_runs.specs.inner.RowReaders.{GaveRows}
use Rattle.csv_records.specs.lanes.Feeds.{feeds_of}
use Rattle.command_runs.proofs.answers.LinesAsBrought.{no_lines}
use Rattle.command_runs.proofs.answers.RowsAsRead.{no_records_no_rows, reported, rows_of_end, same_source}
use Rattle.command_runs.proofs.answers.rows.serve_rows.Goals as goal

pub serve_traffic-requires-clause-fresh : goal.serve_traffic-requires-clause-fresh
serve_traffic-requires-clause-fresh g c κs within =
    let (gave, texts) = c.requires.fresh in
    let of_lanes = sym gave.1.of_lanes in
    record {
      items = [];
      gave = subst (λ n. GaveRows g.S.Source.left g.S.Source.failed n c.args.rows.input.source c.args.rows []) of_lanes gave;
      fed = no_records_no_rows c.args.lanes ∙ ap (λ n. feeds_of n []) of_lanes;
      lines = no_lines c.args.lanes (map string_bytes c.args.texts.items) texts;
    }

pub returns-in-Ok-default-Done-clause-answered : goal.returns-in-Ok-default-Done-clause-answered
returns-in-Ok-default-Done-clause-answered g c =
    let was = c.in-Ok-default-Done.ensures.served (subst IsKept (sym c.in-Ok-default-Done.field-0-1-is) tt) in
    let end = was.4 c.in-Ok-default-Done.field-0-1-is in
    let has = was.2 in
    let of_lanes = c.requires.fresh.0.1.of_lanes in
    let traffic = c.in-Ok-default-Done.traffic in (
      has.items,
      subst (λ n. GaveRows g.S.Source.left g.S.Source.failed n c.args.rows.input.source traffic.rows has.items) of_lanes has.gave,
      end.0,
      subst (λ n. IsReport c.args.year (feeds_of n has.items) (concat (map string_bytes traffic.texts.items))) of_lanes
          (reported c.args.year c.args.rows.lanes has.items was.0 was.1 (map string_bytes traffic.texts.items) c.answers_are_read.ensures has.fed has.lines end.1),
    )

pub returns-in-Ok-clause-answered : goal.returns-in-Ok-clause-answered
returns-in-Ok-clause-answered g c =
    let end = rows_of_end _ _ c.args.year _ c.in-Ok.traffic c.in-Ok.field-0-1 c.in-Ok.ensures.served c.in-Ok.ensures.lost in
    (end.0, subst (λ n. GaveRows g.S.Source.left g.S.Source.failed n c.args.rows.input.source c.in-Ok.traffic.rows end.0) c.requires.fresh.0.1.of_lanes end.1)

pub returns-in-Err-clause-answered : goal.returns-in-Err-clause-answered
returns-in-Err-clause-answered g c = (
  [],
  subst (λ t. GaveRows g.S.Source.left g.S.Source.failed c.args.lanes c.args.rows.input.source t.rows []) (sym c.in-Err.ensures.untouched) c.requires.fresh.0,
)

pub returns-in-Ok-default-Done-clause-same_reference : goal.returns-in-Ok-default-Done-clause-same_reference
returns-in-Ok-default-Done-clause-same_reference g c =
    let now = returns-in-Ok-default-Done-clause-answered g c in
    same_source _ _ c.args.lanes c.args.rows.input.source c.in-Ok-default-Done.traffic.rows now.0 now.1

pub returns-in-Ok-clause-same_reference : goal.returns-in-Ok-clause-same_reference
returns-in-Ok-clause-same_reference g c =
    let now = returns-in-Ok-clause-answered g c in
    same_source _ _ c.args.lanes c.args.rows.input.source c.in-Ok.traffic.rows now.0 now.1

pub returns-in-Err-clause-same_reference : goal.returns-in-Err-clause-same_reference
returns-in-Err-clause-same_reference g c =
    let now = returns-in-Err-clause-answered g c in
    same_source _ _ c.args.lanes c.args.rows.input.source c.in-Err.field-0.input.rows now.0 now.1
