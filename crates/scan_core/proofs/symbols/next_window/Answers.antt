use Rattle.std.proofs.lemmas.Option.{IfSome_then}
use Rattle.scan_core.specs.Windows.{Search}
use Rattle.scan_core.proofs.SearchFacts.{at_place, earlier, none_then}
use Rattle.scan_core.proofs.symbols.next_window.Goals as goal

pub first_read-requires-clause-begins_light : goal.first_read-requires-clause-begins_light
first_read-requires-clause-begins_light c = (c.in-Some.ensures.next c.args.year).begins_light

pub first_read-requires-clause-ends_light : goal.first_read-requires-clause-ends_light
first_read-requires-clause-ends_light c = (c.in-Some.ensures.next c.args.year).ends_light

pub first_read-requires-clause-within : goal.first_read-requires-clause-within
first_read-requires-clause-within c = (c.in-Some.ensures.next c.args.year).within

pub returns-clause-next : goal.returns-clause-next
returns-clause-next c =
    let s : Search = record { runs = c.args.widths.now; year = c.args.year; first = c.args.rest.now.first; least = c.args.rest.now.least } in
    let p = c.in-Some.place in
    let at = c.in-Some.ensures.next c.args.year in
    IfSome_then c.first_read.result c.first_read.ensures.next (λ w next. earlier s p.first p.count w at.left (at_place s p at) next)

pub returns-clause-over : goal.returns-clause-over
returns-clause-over c =
    let s : Search = record { runs = c.args.widths.now; year = c.args.year; first = c.args.rest.now.first; least = c.args.rest.now.least } in
    let p = c.in-Some.place in
    let at = c.in-Some.ensures.next c.args.year in
    none_then c.first_read.result c.first_read.ensures.over (λ over v symbol left. over v symbol (at_place s p at v symbol left))

pub returns-in_default-clause-over : goal.returns-in_default-clause-over
returns-in_default-clause-over c = c.in_default.ensures.over c.args.year
