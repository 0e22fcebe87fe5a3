-- The words of the theorems: those of the crates below, passed on, and a few of their own.
pub use Rattle.std.specs.List.{AllZip}
pub use Rattle.digits_core.specs.Digits.{AreAsciiDigits, AreDigits, IsChecked, digits_of}
pub use Rattle.digits_core.specs.Upce.{IsUpceOf}
pub use Rattle.element_core.specs.Elements.{Entry, IsElements, gtin_entry}
pub use Rattle.element_core.specs.Terms.{Terms, every_ai, profile}
pub use Rattle.message_core.specs.Faults.{heard}
pub use Rattle.message_core.specs.Laws.{MessageSays}
pub use Rattle.message_core.specs.Messages.{IsMessage, Outcome}
pub use Rattle.message_core.specs.declared.head.Head.{Head}
pub use Rattle.ean_code.specs.Symbols.{IsCheckedPlace, widths_of}
pub use Rattle.ean_code.specs.declared.kind.Kind.{Kind}
pub use Rattle.code128_code.specs.Symbols.{IsCode128Symbol, characters_of, mod103}
pub use Rattle.code128_code.specs.declared.fault.Code128Fault.TheVariants.{CheckCharacter}
pub use Rattle.scan_core.specs.Answers.{IsAnswer, Reads}
pub use Rattle.scan_core.specs.Row.{IsRow, dots_of}
pub use Rattle.scan_core.specs.Showing.{Shows, Way, kind_of}
pub use Rattle.scan_core.specs.Windows.{AreSymbolsOf, AreTold}
pub use Rattle.scan_core.specs.declared.answer.Answer.{Answer as Said}
pub use Rattle.scan_core.specs.declared.answer.Answer.TheVariants.{Refused}
pub use Rattle.scan_core.specs.declared.carrier.Carrier.{Carrier}
pub use Rattle.scan_core.specs.declared.carrier.Carrier.TheVariants.{Gs1128}
pub use Rattle.scan_core.specs.declared.fault.RowFault.TheVariants.{Code128, SymbolCheckDigit}
pub use Rattle.scan_core.specs.declared.window.Window.{Window}
pub use Rattle.sheet_core.specs.BarRows.{IsBarRow, label_answer}
pub use Rattle.sheet_core.specs.Drawing.{bar_dots}
pub use Rattle.sheet_core.specs.Grids.{Cells, IsGrid}
pub use Rattle.sheet_core.specs.Labels.{Drawn, FitsCell, IsDrawn, label_text}
pub use Rattle.sheet_core.specs.declared.label.Label.{Label}
pub use Rattle.shop_core.specs.Drawings.{IsDrawingOf}
pub use Rattle.lane_core.specs.declared.job.Plain.{Plain}
pub use Rattle.hub_core.specs.Hubs.{AreAllSeats, year_of}
pub use Rattle.hub_core.specs.Lane.{AreSettled, Lane}
pub use Rattle.hub_core.specs.Lanes.{as_lane}
pub use Rattle.hub_core.specs.Laws.{AreAnswersOf}
pub use Rattle.hub_core.specs.Serving.{served}
pub use Rattle.wire_core.specs.Events.{Event, was_read, was_written}
pub use Rattle.wire_core.specs.Lines.{most_line}
pub use Rattle.csv_records.specs.input.Records.{AreItems, Fields, records_of}
pub use Rattle.csv_records.specs.lanes.Feeds.{LaneRow, feeds_of, lanes_meaning}
pub use Rattle.command_line.specs.declared.commands.lanes.options.LaneOptions.{LaneOptions}
pub use Rattle.command_line.specs.declared.commands.print.options.PrintOptions.{PrintOptions}
pub use Rattle.command_line.specs.declared.commands.scan.options.ScanOptions.{ScanOptions}
pub use Rattle.command_runs.specs.Grids.{cells_of}
pub use Rattle.command_runs.specs.Laws.{IsPrintFor}
pub use Rattle.command_runs.specs.commands.Scans.{IsScan}
pub use Rattle.command_runs.specs.live.Laws.{IsPlain, IsReordered, record_lines}
pub use Rattle.command_runs.specs.live.Replies.{most_rows}
pub use Rattle.element_core.specs.declared.form.Form.TheVariants.{HumanReadable}
pub use Rattle.command_runs.specs.Printed.{labels_report}
use Rattle.std.specs.Prelude.{◌≡◌, ◌≢◌, ◌<◌, ◌≤◌, ◌⊎◌, ◌++◌, ◌∷◌, [], ℕ, All, List, Result, Ok, Err, Some, length, slice_index, slice_index_or, slice_set}
use Rattle.ean_code.specs.Spelling.{IsGtinOf}
use Rattle.ean_code.specs.Symbols.{digit_count}
use Rattle.element_core.specs.Elements.{FirstFault}
use Rattle.element_core.specs.declared.fault.ElementFault.{ElementFault}

-- P is true of one value, and of no other
abbrev pub ExactlyOne : {X : Type 0} → (X → Type 0) → Type 0
ExactlyOne {X} P = (x : X) × P x × ((y : X) → P y → y ≡ x)

-- the text is the element string of this list, or has this first fault
abbrev pub Means : Terms → List ℕ → Result (List Entry) ElementFault → Type 0
Means year text (Ok list) = IsElements year text list
Means year text (Err fault) = FirstFault year text fault

-- the digits of a number of this kind, its check digit right
pub record IsSymbolNumber (kind : Kind) (digits : List ℕ) : Type 0 where
  pub count : length digits ≡ digit_count kind
  pub digits_are : AreDigits digits
  pub gtin : List ℕ
  pub gtin_is : IsGtinOf kind digits gtin
  pub checked : IsChecked gtin

-- one of them is another, and the rest are the same
pub record OneReplaced (old new : List ℕ) : Type 0 where
  pub place : ℕ
  pub item : ℕ
  pub within : place < length old
  pub other : item ≢ slice_index old place
  pub new_is : new ≡ slice_set old place item

-- the row shows a symbol of digits, one of which was replaced at a checked place
pub record ShowsReplacedDigit (row : List ℕ) : Type 0 where
  pub carrier : Carrier
  pub kind : Kind
  pub way : Way
  pub digits : List ℕ
  pub others : List ℕ
  pub kind_is : kind_of carrier ≡ Some kind
  pub number : IsSymbolNumber kind digits
  pub digits_are : AreDigits others
  pub one : OneReplaced digits others
  pub checked : IsCheckedPlace kind one.place
  pub shows : Shows row carrier way (widths_of kind others)

-- the row shows a symbol in which one character of a GS1-128 symbol was replaced
pub record ShowsReplacedCharacter (row : List ℕ) : Type 0 where
  pub way : Way
  pub start : ℕ
  pub values : List ℕ
  pub right : List ℕ
  pub other : ℕ
  pub others : List ℕ
  pub last : ℕ
  pub modules : List ℕ
  pub symbol : IsCode128Symbol start values (mod103 start values) right
  pub spelled : IsCode128Symbol other others last modules
  pub one : OneReplaced (characters_of start values (mod103 start values)) (characters_of other others last)
  pub shows : Shows row Gs1128 way modules

-- the row has the dots of what is drawn of the label in a cell
pub record ShowsDrawn (g : Cells) (label : Label) (row : List ℕ) : Type 0 where
  pub drawn : Drawn
  pub grid : IsGrid g
  pub is_drawn : IsDrawn label drawn
  pub fits : FitsCell g drawn
  pub row_is : IsRow row
  pub dots : dots_of row ≡ bar_dots g drawn

-- these are the answers of what a lane has polled, and then of its list
abbrev pub AnswerLane : Lane → List (List Plain) → List Said → Type 0
AnswerLane lane lists said = AreAnswersOf (lane.polled ++ slice_index_or lists lane.number []) said

-- a plain text of records, each of which means a row, with no line too long and no more rows in a lane than can be numbered
pub record AreRows (lanes : ℕ) (bytes : List ℕ) (rows : List LaneRow) : Type 0 where
  pub plain : IsPlain bytes
  pub short : All (λ line. length line ≤ most_line) (record_lines bytes)
  pub meant : AreItems (lanes_meaning lanes) (records_of bytes) rows
  pub few : All (λ feed. length feed ≤ most_rows) (feeds_of lanes rows)

-- nothing more comes over the wire, and if all that was read of it are rows, what was written answers each, in the order that `lanes` would sort
pub record AreAnsweredAsByLanes {W : Type 0} (asked : LaneOptions) (did : W → W → List Event → Type 0) (at_end : W → Type 0) (wire after : W) : Type 0 where
  pub events : List Event
  pub were_done : did wire after events
  pub ended : at_end after
  pub answered : (rows : List LaneRow) → AreRows asked.lanes (was_read events) rows → IsReordered asked.lanes asked.year rows (was_written events)
