use Rattle.std.proofs.Common.{◌∙◌, ap, rules, sum, sym}
use Rattle.scan_core.specs.Row.{inner}
use Rattle.scan_core.specs.Showing.{IsQuiet, IsSymbol, Rounds, Way, along, kind_of}
use Rattle.scan_core.proofs.CandidateFacts.{candidate_dots, least_modules, most_modules}
use Rattle.scan_core.proofs.CandidateShows.{fails_pattern, fails_rounding, found_shows, shown_found}
use Rattle.scan_core.proofs.answer.try_candidate.Goals as goal

pub round-requires-clause-sum : goal.round-requires-clause-sum
round-requires-clause-sum c = c.requires.sum ∙ ap sum (sym c.inner-inner.ensures)

pub round-requires-clause-short : goal.round-requires-clause-short
round-requires-clause-short c = most_modules c.args.candidate.carrier _ c.args.candidate.count c.requires.counted

pub round-requires-clause-dots : goal.round-requires-clause-dots
round-requires-clause-dots c = rw c.requires.sum (candidate_dots c.args.widths.now c.args.candidate.carrier c.args.candidate.count c.requires.row c.requires.counted)

pub round-requires-clause-long : goal.round-requires-clause-long
round-requires-clause-long c = least_modules c.args.candidate.carrier _ c.args.candidate.count c.requires.counted

pub returns-then-not-round-clause-fails : goal.returns-then-not-round-clause-fails
returns-then-not-round-clause-fails c =
    let runs = c.args.widths.now in
    let N = c.args.candidate.count in
    let quiet : IsQuiet runs N = search rules in
    fails_rounding runs c.args.candidate.carrier N quiet (λ modules h. c.round.ensures.none c.if-not-round.true modules (rw c.inner-inner.ensures h))

pub returns-then-not-read_some_way-clause-fails : goal.returns-then-not-read_some_way-clause-fails
returns-then-not-read_some_way-clause-fails c =
    let runs = c.args.widths.now in
    let N = c.args.candidate.count in
    let modules = c.round.new.modules in
    let rounds : Rounds (inner runs) N modules = rw c.inner-inner.ensures at (c.round.ensures.found c.if-not-round.false) in
    let quiet : IsQuiet runs N = search rules in
    let none : (way : Way) → IsSymbol (kind_of c.args.candidate.carrier) (along way modules) → ⊥ =
    c.read_some_way.ensures.none c.if-not-read_some_way.true in
    fails_pattern runs c.args.candidate.carrier N modules c.requires.counted quiet rounds c.requires.row none

pub returns-clause-found : goal.returns-clause-found
returns-clause-found c =
    let runs = c.args.widths.now in
    let carrier = c.args.candidate.carrier in
    let N = c.args.candidate.count in
    let modules = c.round.new.modules in
    let rounds : Rounds (inner runs) N modules = rw c.inner-inner.ensures at (c.round.ensures.found c.if-not-round.false) in
    let quiet : IsQuiet runs N = search rules in
    let found = c.read_some_way.ensures.found c.if-not-read_some_way.false in
    let symbol = found.1 in
    rw found.3 (shown_found runs carrier symbol
    (found_shows runs carrier N modules c.requires.counted quiet rounds symbol found.0 found.2))
