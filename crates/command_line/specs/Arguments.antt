-- The arguments that several commands share: their rules for `clap`, and the values that its matches hold.
use Rattle.std.specs.Prelude.{◌≡◌, ℕ, pos, Bool, List, [], ◌∷◌, Some, true, false, codes}
use Rattle.std.specs.Int.{IsInRange}
use Rattle.std.specs.Borrow.{Bor}
use Rattle.std.specs.Str.Parse.{IsNumeral, digits_value, without_leading_plus}
use Rattle.clap.specs.Words.{App, Row, Rule, Text, first_of, new_rule, one_of, with_rule}
use Rattle.clap.specs.declared.builder.ArgAction.TheVariants.{Set, SetTrue}
use Rattle.clap.specs.declared.builder.value_parser.ValueParser.TheVariants as vp
use Rattle.command_line.specs.Numbers.{AreGridNumbers, most_columns, most_dots, most_grid_rows, most_height, most_width}
use Rattle.command_line.specs.declared.grid_options.GridOptions.{GridOptions}
use Rattle.element_core.specs.Terms.{Terms}
use Rattle.element_core.specs.declared.form.Form.{Form}
use Rattle.element_core.specs.declared.form.Form.TheVariants as form

-- the greatest numbers of lanes and of workers; the least is 1
abbrev pub most_lanes : ℕ
most_lanes = 16

abbrev pub most_workers : ℕ
most_workers = 16

abbrev pub IsLaneCount : ℕ → Type 0
IsLaneCount lanes = IsInRange 1 most_lanes lanes

abbrev pub IsWorkerCount : ℕ → Type 0
IsWorkerCount workers = IsInRange 1 most_workers workers

-- the reference years of dates
abbrev pub first_year : ℕ
first_year = 1951

abbrev pub last_year : ℕ
last_year = 2149

abbrev pub IsReferenceYear : ℕ → Type 0
IsReferenceYear year = IsInRange first_year last_year year

-- ---- the rules

-- `--name N`, required, a number from `least` to `most`; the help shows one value
abbrev pub number_rule : Text → ℕ → ℕ → Rule
number_rule name least most = record (new_rule name) {
  long = Some name;
  action = Some Set;
  value_names = 1;
  required = true;
  parser = Some (vp.Signed (pos least) (pos most));
}

-- `--name`, an optional flag
abbrev pub flag_rule : Text → Rule
flag_rule name = record (new_rule name) {
  long = Some name;
  action = Some SetTrue;
}

-- a list of choices, wherever the program keeps it in memory
abbrev pub Choices : Type 0
Choices = Bor (List (Bor Text))

-- a value whose place in memory does not matter
abbrev pub placed : {X : Type 0} → X → Bor X
placed x = record { ref_ptr = (0, 0); now = x }

-- `--name C`, optional, one of these choices; the default is `usual`
abbrev pub choice_rule : Text → Choices → Text → Rule
choice_rule name choices usual = record (new_rule name) {
  long = Some name;
  action = Some Set;
  value_names = 1;
  defaults = usual ∷ [];
  parser = Some (vp.Names choices);
}

-- `--year Y`, the reference year of dates
abbrev pub year_rule : Rule
year_rule = number_rule (codes "year") first_year last_year

-- `--workers K`
abbrev pub workers_rule : Rule
workers_rule = number_rule (codes "workers") 1 most_workers

-- `--lanes N`
abbrev pub lanes_rule : Rule
lanes_rule = number_rule (codes "lanes") 1 most_lanes

-- the choices of `--ais`: all AIs, or those of the profile
abbrev pub ais_text : Bool → Text
ais_text false = codes "profile"
ais_text true = codes "all"

abbrev pub ais_choices : Choices
ais_choices = placed (placed (ais_text false) ∷ placed (ais_text true) ∷ [])

-- `--ais A`; the default is the profile
abbrev pub ais_rule : Choices → Rule
ais_rule choices = choice_rule (codes "ais") choices (ais_text false)

-- `--year Y [--ais A]`, for every command that reads element strings
abbrev pub terms_rules : Choices → List Rule
terms_rules choices = year_rule ∷ ais_rule choices ∷ []

-- `--lanes N --workers K --year Y [--ais A]`, for commands that read rows of lanes
abbrev pub lane_row_rules : Choices → List Rule
lane_row_rules choices = lanes_rule ∷ workers_rule ∷ terms_rules choices

-- `--module M --width W --height H`, in dots
abbrev pub module_rule : Rule
module_rule = number_rule (codes "module") 1 most_dots

abbrev pub width_rule : Rule
width_rule = number_rule (codes "width") 1 most_width

abbrev pub height_rule : Rule
height_rule = number_rule (codes "height") 1 most_height

-- `--columns C --rows R`
abbrev pub columns_rule : Rule
columns_rule = number_rule (codes "columns") 1 most_columns

abbrev pub rows_rule : Rule
rows_rule = number_rule (codes "rows") 1 most_grid_rows

-- the arguments of a cell and of a sheet, for commands that use a grid
abbrev pub grid_rules : List Rule
grid_rules = module_rule ∷ width_rule ∷ height_rule ∷ columns_rule ∷ rows_rule ∷ []

-- the command with these arguments added, in this order
abbrev pub with_rules : App → List Rule → App
with_rules a [] = a
with_rules a (r ∷ rs) = with_rules (with_rule a r) rs

-- ---- the values in the matches

-- the matches of a command have this number under this name
abbrev pub HasNumber : Text → List Row → ℕ → Type 0
HasNumber name rows n = (t : Text) × (one_of name rows ≡ Some t)
    × IsNumeral 10 (without_leading_plus t) × (n ≡ digits_value 10 (without_leading_plus t))

-- the matches have this reference year
abbrev pub HasYear : List Row → ℕ → Type 0
HasYear rows year = HasNumber (codes "year") rows year × IsReferenceYear year

-- the matches have this choice of AIs
abbrev pub HasAis : List Row → Bool → Type 0
HasAis rows every = first_of (codes "ais") rows ≡ Some (ais_text every)

-- the matches have this reference year and this choice of AIs
abbrev pub HasTerms : List Row → Terms → Type 0
HasTerms rows terms = HasYear rows terms.year × HasAis rows terms.every

-- the matches have this number of workers
abbrev pub HasWorkers : List Row → ℕ → Type 0
HasWorkers rows workers = HasNumber (codes "workers") rows workers × IsWorkerCount workers

-- the matches have these numbers of a grid, each in its range
abbrev pub HasGrid : List Row → GridOptions → Type 0
HasGrid rows o = HasNumber (codes "module") rows o.module_dots × HasNumber (codes "width") rows o.width
    × HasNumber (codes "height") rows o.height × HasNumber (codes "columns") rows o.columns × HasNumber (codes "rows") rows o.rows
    × AreGridNumbers o.module_dots o.width o.height o.columns o.rows

-- a flag in the matches: `true` if it was given, otherwise `false`
abbrev pub flag_text : Bool → Text
flag_text true = codes "true"
flag_text false = codes "false"

abbrev pub HasFlag : Text → List Row → Bool → Type 0
HasFlag name rows is_set = one_of name rows ≡ Some (flag_text is_set)

-- the form of answers: separate elements if the flag is given, otherwise human-readable text
abbrev pub asks_elements : Form → Bool
asks_elements form.HumanReadable = false
asks_elements form.Pairs = true
