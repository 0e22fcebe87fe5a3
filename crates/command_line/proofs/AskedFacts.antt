-- Words that `clap` takes ask for a command with its options.
use Rattle.std.proofs.Common.{◌≡◌, ◌||◌, Bool, false, true, List, [], ◌∷◌, Some, ap, bytes_eq, codes, refl, subst, sym, ◌∙◌}
use Rattle.std.proofs.lemmas.Slice.Eq.{bytes_eq-Decides}
use Rattle.clap.specs.Faults.{fault_of}
use Rattle.clap.specs.Simple.{subcommand_of}
use Rattle.clap.specs.Walk.{Row, Text, rows_after}
use Rattle.element_core.specs.Terms.{Terms}
use Rattle.element_core.specs.declared.form.Form.{Form}
use Rattle.element_core.specs.declared.form.Form.TheVariants as form
use Rattle.command_line.specs.Numbers.{most_columns, most_dots, most_grid_rows, most_height, most_width}
use Rattle.command_line.specs.Arguments.{HasAis, HasFlag, HasGrid, HasTerms, ais_choices, ais_text, asks_elements, first_year, last_year, most_lanes, most_workers}
use Rattle.command_line.specs.commands.Lanes.{HasLanes}
use Rattle.command_line.specs.commands.Prints.{HasOutput}
use Rattle.command_line.specs.Asking.{Asks}
use Rattle.command_line.specs.Laws.{TakenAsk}
use Rattle.command_line.specs.commands.{AsksIn, hub_app}
use Rattle.command_line.specs.declared.commands.Asked.{Asked}
use Rattle.command_line.specs.declared.commands.Asked.TheVariants as asked
use Rattle.command_line.specs.declared.commands.lanes.options.LaneOptions.{LaneOptions}
use Rattle.command_line.specs.declared.commands.print.options.Output.{Output}
use Rattle.command_line.specs.declared.commands.print.options.Output.TheVariants as output
use Rattle.command_line.specs.declared.grid_options.GridOptions.{GridOptions}
use Rattle.command_line.proofs.OptionRows.{Has, Opt, Passed, choice, flag, number}
use Rattle.command_line.proofs.TakenWords.{HasAll, all_had, named, rules_of, shape}

-- what the rows of a command of this name ask for
AskedIn : Text → List Row → Type 0
AskedIn name rows = (a : Asked) × AsksIn name rows a

-- ---- the options that commands share

abbrev ais : Opt
ais = choice (codes "ais") ais_choices (ais_text false)

ais_asked : (rows : List Row) → Has ais rows → (every : Bool) × HasAis rows every
ais_asked rows (t, first, among) = go (bytes_eq (ais_text false) t) refl (bytes_eq (ais_text true) t) refl among
  where
    go : (a : Bool) → bytes_eq (ais_text false) t ≡ a → (b : Bool) → bytes_eq (ais_text true) t ≡ b → (a || (b || false)) ≡ true
        → (every : Bool) × HasAis rows every
    go true is b other e = (false, first ∙ ap (λ x. Some x) (sym ((bytes_eq-Decides (ais_text false) t).0 is)))
    go false other true is e = (true, first ∙ ap (λ x. Some x) (sym ((bytes_eq-Decides (ais_text true) t).0 is)))
    go false other false neither e = cc e

abbrev terms : List Opt → List Opt
terms more = number (codes "year") first_year last_year ∷ ais ∷ more

terms_asked : (more : List Opt) (rows : List Row) → HasAll (terms more) rows → (t : Terms) × HasTerms rows t
terms_asked more rows h =
    let y = h.0 in
    let a = ais_asked rows h.1.0 in
    (record { year = y.0; every = a.0 }, (y.1, a.1))

abbrev workers : Opt
workers = number (codes "workers") 1 most_workers

abbrev lane_rows : List Opt → List Opt
lane_rows more = number (codes "lanes") 1 most_lanes ∷ workers ∷ terms more

lanes_given : (more : List Opt) (rows : List Row) → HasAll (lane_rows more) rows → (o : LaneOptions) × HasLanes rows o
lanes_given more rows h =
    let n = h.0 in
    let k = h.1.0 in
    let t = terms_asked more rows h.1.1 in
    (record { lanes = n.0; workers = k.0; year = t.0; some_lanes = n.1.1; some_workers = k.1.1 }, (n.1.0, n.1.1, k.1, t.1))

abbrev grid : List Opt → List Opt
grid more = number (codes "module") 1 most_dots ∷ number (codes "width") 1 most_width ∷ number (codes "height") 1 most_height
    ∷ number (codes "columns") 1 most_columns ∷ number (codes "rows") 1 most_grid_rows ∷ more

grid_given : (more : List Opt) (rows : List Row) → HasAll (grid more) rows → (o : GridOptions) × HasGrid rows o
grid_given more rows h =
    let m = h.0 in
    let w = h.1.0 in
    let g = h.1.1.0 in
    let c = h.1.1.1.0 in
    let r = h.1.1.1.1.0 in (
      record { module_dots = m.0; width = w.0; height = g.0; columns = c.0; rows = r.0; numbers = (m.1.1, w.1.1, g.1.1, c.1.1, r.1.1) },
      (m.1.0, w.1.0, g.1.0, c.1.0, r.1.0, (m.1.1, w.1.1, g.1.1, c.1.1, r.1.1)),
    )

-- ---- the commands

abbrev pub check_options : List Opt
check_options = terms []

check_asked : (words : List Text) → Passed (shape (codes "check") check_options) words
    → AskedIn (codes "check") (rows_after (rules_of check_options) [] words)
unfolding AskedIn
check_asked words p =
    let t = terms_asked [] (rows_after (rules_of check_options) [] words) (all_had (codes "check") check_options refl words p) in
    (asked.Check t.0, (refl, t.1))

-- what the flag asks for
abbrev output_of : Bool → Output
output_of false = output.Images
output_of true = output.Lines

output_given : (rows : List Row) (b : Bool) → HasFlag (codes "text") rows b → HasOutput rows (output_of b)
output_given rows false h = h
output_given rows true h = h

abbrev pub print_options : List Opt
print_options = grid (terms (flag (codes "text") ∷ []))

print_asked : (words : List Text) → Passed (shape (codes "print") print_options) words
    → AskedIn (codes "print") (rows_after (rules_of print_options) [] words)
unfolding AskedIn
print_asked words p =
    let rows : List Row = rows_after (rules_of print_options) [] words in
    let h = all_had (codes "print") print_options refl words p in
    let g = grid_given (terms (flag (codes "text") ∷ [])) rows h in
    let t = terms_asked (flag (codes "text") ∷ []) rows h.1.1.1.1.1 in
    let b = h.1.1.1.1.1.1.1.0 in
    (asked.Print (record { grid = g.0; year = t.0; output = output_of b.0 }), (refl, (g.1, t.1, output_given rows b.0 b.1)))

abbrev pub lanes_options : List Opt
lanes_options = lane_rows []

lanes_asked : (words : List Text) → Passed (shape (codes "lanes") lanes_options) words
    → AskedIn (codes "lanes") (rows_after (rules_of lanes_options) [] words)
unfolding AskedIn
lanes_asked words p =
    let o = lanes_given [] (rows_after (rules_of lanes_options) [] words) (all_had (codes "lanes") lanes_options refl words p) in
    (asked.Lanes o.0, (refl, o.1))

abbrev pub scan_options : List Opt
scan_options = grid (workers ∷ terms [])

scan_asked : (words : List Text) → Passed (shape (codes "scan") scan_options) words
    → AskedIn (codes "scan") (rows_after (rules_of scan_options) [] words)
unfolding AskedIn
scan_asked words p =
    let rows : List Row = rows_after (rules_of scan_options) [] words in
    let h = all_had (codes "scan") scan_options refl words p in
    let g = grid_given (workers ∷ terms []) rows h in
    let k = h.1.1.1.1.1.0 in
    let t = terms_asked [] rows h.1.1.1.1.1.1 in
    (asked.Scan (record { grid = g.0; workers = k.0; year = t.0; some_workers = k.1.1 }), (refl, (g.1, k.1, t.1)))

-- how elements are written by what the flag asks for
abbrev form_of : Bool → Form
form_of false = form.HumanReadable
form_of true = form.Pairs

form_given : (rows : List Row) (b : Bool) → HasFlag (codes "elements") rows b → HasFlag (codes "elements") rows (asks_elements (form_of b))
form_given rows false h = h
form_given rows true h = h

abbrev pub live_options : List Opt
live_options = lane_rows (flag (codes "elements") ∷ [])

live_asked : (words : List Text) → Passed (shape (codes "live") live_options) words
    → AskedIn (codes "live") (rows_after (rules_of live_options) [] words)
unfolding AskedIn
live_asked words p =
    let rows : List Row = rows_after (rules_of live_options) [] words in
    let h = all_had (codes "live") live_options refl words p in
    let o = lanes_given (flag (codes "elements") ∷ []) rows h in
    let b = h.1.1.1.1.0 in
    (asked.Live (record { rows = o.0; form = form_of b.0 }), (refl, (o.1, form_given rows b.0 b.1)))

pub asked_for : (words : List Text) → fault_of hub_app words ≡ [] → (a : Asked) × Asks (subcommand_of hub_app words) a
unfolding AskedIn
asked_for words none =
    let found = named AskedIn words (check_asked, (print_asked, (lanes_asked, (scan_asked, (live_asked, tt))))) none in
    (found.2.0, subst (λ o. Asks o found.2.0) (sym found.1) found.2.1)

pub taken_words_ask : TakenAsk
taken_words_ask words none =
    let found = asked_for words none in
    (found.0, (none, found.1))
