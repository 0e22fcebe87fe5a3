-- Matches of a command that lacks an option ask for nothing: the second letters of the names tell the commands apart.
use Rattle.std.proofs.Common.{◌≡◌, ◌∙◌, List, ap, arith, codes, slice_index, sym, ℕ}
use Rattle.clap.specs.Words.{Row, Text, found_of, rows_of}
use Rattle.element_core.specs.Terms.{Terms}
use Rattle.command_line.specs.Arguments.{HasTerms}
use Rattle.command_line.specs.commands.{AsksIn}
use Rattle.command_line.specs.commands.Lanes.{HasLanes}
use Rattle.command_line.specs.commands.Lives.{HasLive}
use Rattle.command_line.specs.commands.Scans.{HasScan}
use Rattle.command_line.specs.declared.commands.lanes.options.LaneOptions.{LaneOptions}
use Rattle.command_line.specs.declared.commands.live.options.LiveOptions.{LiveOptions}
use Rattle.command_line.specs.declared.commands.scan.options.ScanOptions.{ScanOptions}
use Rattle.command_line.specs.declared.commands.Asked.{Asked}
use Rattle.command_line.specs.declared.commands.Asked.TheVariants as asked
use Rattle.command_line.proofs.Matches.{none_after}
use Rattle.command_line.proofs.commands.asked_by.Goals as goal

abbrev second : Text → ℕ
second name = slice_index name 1

-- the second letter of the name of a command
abbrev letter : Asked → ℕ
letter (asked.Check year) = 104
letter (asked.Print o) = 114
letter (asked.Lanes o) = 97
letter (asked.Scan o) = 99
letter (asked.Live o) = 105

goes_on : (name : Text) (rows : List Row) (a : Asked) → AsksIn name rows a → second name ≡ letter a
goes_on name rows (asked.Check year) h = ap second h.0
goes_on name rows (asked.Print o) h = ap second h.0
goes_on name rows (asked.Lanes o) h = ap second h.0
goes_on name rows (asked.Scan o) h = ap second h.0
goes_on name rows (asked.Live o) h = ap second h.0

no_check : (name : Text) (rows : List Row) → name ≡ codes "check" → ((o : Terms) → HasTerms rows o → ⊥) → (a : Asked) → AsksIn name rows a → ⊥
no_check name rows is none a h = go a h (sym (ap second is) ∙ goes_on name rows a h)
  where
    go : (a : Asked) → AsksIn name rows a → 104 ≡ letter a → ⊥
    go (asked.Check year) h e = none year h.1
    go (asked.Print o) h e = omega (arith, e)
    go (asked.Lanes o) h e = omega (arith, e)
    go (asked.Scan o) h e = omega (arith, e)
    go (asked.Live o) h e = omega (arith, e)

no_lanes : (name : Text) (rows : List Row) → name ≡ codes "lanes" → ((o : LaneOptions) → HasLanes rows o → ⊥) → (a : Asked) → AsksIn name rows a → ⊥
no_lanes name rows is none a h = go a h (sym (ap second is) ∙ goes_on name rows a h)
  where
    go : (a : Asked) → AsksIn name rows a → 97 ≡ letter a → ⊥
    go (asked.Check year) h e = omega (arith, e)
    go (asked.Print o) h e = omega (arith, e)
    go (asked.Lanes o) h e = none o h.1
    go (asked.Scan o) h e = omega (arith, e)
    go (asked.Live o) h e = omega (arith, e)

no_scan : (name : Text) (rows : List Row) → name ≡ codes "scan" → ((o : ScanOptions) → HasScan rows o → ⊥) → (a : Asked) → AsksIn name rows a → ⊥
no_scan name rows is none a h = go a h (sym (ap second is) ∙ goes_on name rows a h)
  where
    go : (a : Asked) → AsksIn name rows a → 99 ≡ letter a → ⊥
    go (asked.Check year) h e = omega (arith, e)
    go (asked.Print o) h e = omega (arith, e)
    go (asked.Lanes o) h e = omega (arith, e)
    go (asked.Scan o) h e = none o h.1
    go (asked.Live o) h e = omega (arith, e)

no_live : (name : Text) (rows : List Row) → name ≡ codes "live" → ((o : LiveOptions) → HasLive rows o → ⊥) → (a : Asked) → AsksIn name rows a → ⊥
no_live name rows is none a h = go a h (sym (ap second is) ∙ goes_on name rows a h)
  where
    go : (a : Asked) → AsksIn name rows a → 105 ≡ letter a → ⊥
    go (asked.Check year) h e = omega (arith, e)
    go (asked.Print o) h e = omega (arith, e)
    go (asked.Lanes o) h e = omega (arith, e)
    go (asked.Scan o) h e = omega (arith, e)
    go (asked.Live o) h e = none o h.1

pub returns-in-check-clause-none : goal.returns-in-check-clause-none
returns-in-check-clause-none c = none_after c.terms_named.result c.map.result _ _ c.map.ensures.variant c.terms_named.ensures.none
    (no_check c.args.name.now (rows_of (found_of c.args.matches.now)) c.in-check.is)

pub returns-in-lanes-clause-none : goal.returns-in-lanes-clause-none
returns-in-lanes-clause-none c = none_after c.options_named-in-lanes.result c.map-in-lanes.result _ _ c.map-in-lanes.ensures.variant
    c.options_named-in-lanes.ensures.none (no_lanes c.args.name.now (rows_of (found_of c.args.matches.now)) c.in-lanes.is)

pub returns-in-scan-clause-none : goal.returns-in-scan-clause-none
returns-in-scan-clause-none c = none_after c.options_named-in-scan.result c.map-in-scan.result _ _ c.map-in-scan.ensures.variant
    c.options_named-in-scan.ensures.none (no_scan c.args.name.now (rows_of (found_of c.args.matches.now)) c.in-scan.is)

pub returns-in-live-clause-none : goal.returns-in-live-clause-none
returns-in-live-clause-none c = none_after c.options_named-in-live.result c.map-in-live.result _ _ c.map-in-live.ensures.variant
    c.options_named-in-live.ensures.none (no_live c.args.name.now (rows_of (found_of c.args.matches.now)) c.in-live.is)
