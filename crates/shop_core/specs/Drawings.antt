-- What is promised of a drawn label.
use Rattle.std.specs.Prelude.{ℕ, Bool, true, false, not, sum, length, take, slice_index, slice_index_or, ◌*◌, ◌/◌, ◌≡◌, ◌⊎◌, ◌+◌, ◌<◌, ◌≤◌, ◌==◌, ◌&&◌, ◌||◌, All, AllPairs, List, [], ◌∷◌, map, nat_le, nat_lt}
use Rattle.std.specs.List.{list_all, list_any, range_with_len}
use Rattle.element_core.specs.Elements.{Listing, gtin_entry}
use Rattle.element_core.specs.Terms.{Terms}
use Rattle.scan_core.specs.Row.{IsRow, dots_of}
use Rattle.scan_core.specs.Windows.{AreSymbolsOf}
use Rattle.scan_core.specs.declared.window.Window.{Window}
use Rattle.sheet_core.specs.Labels.{Content, OfElements, OfGtin, Drawn, carrier_of, content_of}
use Rattle.sheet_core.specs.declared.label.Label.{Label}
use Rattle.sheet_core.specs.declared.label.Label.TheVariants.{Itf14}
use Rattle.shop_core.specs.declared.article.Article.{Article}
use Rattle.shop_core.specs.declared.part.Field.{Field}
use Rattle.shop_core.specs.declared.part.Field.TheVariants.{Name, Price, OldPrice, UnitPrice, Deposit, BestBefore, Batch, Lines, Digits}
use Rattle.shop_core.specs.declared.part.Ink.{Ink}
use Rattle.shop_core.specs.declared.part.Ink.TheVariants.{Bar, Bearer, Letters}
use Rattle.shop_core.specs.declared.part.Run.{Run}
use Rattle.shop_core.specs.declared.part.Zone.{Zone}
use Rattle.shop_core.specs.declared.part.Part.{Part}
use Rattle.shop_core.specs.declared.drawing.Drawing.{Drawing}

-- ---- parts

-- the part has no dot beside a label of this size
abbrev pub LiesOn : ℕ → ℕ → Part → Type 0
LiesOn width height p = (p.left + p.width ≤ width) × (p.top + p.height ≤ height)

-- one of two parts ends before the other begins: no dot is in both
abbrev pub LieApart : Part → Part → Type 0
LieApart p q = (p.left + p.width ≤ q.left) ⊎ ((q.left + q.width ≤ p.left) ⊎ ((p.top + p.height ≤ q.top) ⊎ (q.top + q.height ≤ p.top)))

-- whether the part has dots in row y
abbrev pub has_row : Part → ℕ → Bool
has_row p y = nat_le p.top y && nat_lt y (p.top + p.height)

-- whether dot x of row y is in the part
abbrev pub has_dot : ℕ → ℕ → Part → Bool
has_dot x y p = has_row p y && (nat_le p.left x && nat_lt x (p.left + p.width))

-- ---- rows

-- the dots of row y of a label: all of each part are dark, letters and what is between them too
abbrev pub row_dots : List Part → ℕ → ℕ → List Bool
row_dots parts width y = map (λ x. list_any (has_dot x y) parts) (range_with_len 0 width)

-- the elements that a label says
abbrev pub elements_of : Content → Terms → Listing
elements_of (OfGtin gtin) year = record { year = year; list = gtin_entry gtin ∷ [] }
elements_of (OfElements listing) year = listing

-- a symbol of a row is of the label's kind and says the label's elements
abbrev pub IsOf : Label → Terms → Window → Type 0
IsOf label year w = (carrier_of label ≡ w.carrier) × (elements_of (content_of label) year ≡ w.elements)

-- the runs show one symbol alone, and it is the label's
abbrev pub SaysAlone : List ℕ → Terms → Label → Type 0
SaysAlone runs year label = (symbol : Window) × AreSymbolsOf runs year (symbol ∷ []) × IsOf label year symbol

-- the runs of row y show one symbol alone, and it is the label's
pub record RowAnswers (parts : List Part) (width y : ℕ) (label : Label) (year : Terms) : Type 0 where
  pub runs : List ℕ
  pub row : IsRow runs
  pub dots : dots_of runs ≡ row_dots parts width y
  pub alone : SaysAlone runs year label

-- ---- the symbol

-- the zone of a symbol: its bars with its quiet zones
abbrev pub zone_of : Drawing → Drawn → Zone
zone_of d s =
    let from : ℕ = d.left + d.module * s.quiet_left in
    record { left = d.left; from = from; right = from + d.module * sum s.modules + d.module * s.quiet_right; top = d.top; bottom = d.end }

-- how many bars these modules have: a bar first, and bars and spaces in turn
abbrev pub bar_count : List ℕ → ℕ
bar_count modules = (length modules + 1) / 2

-- the part is dark in these columns and through all rows of the zone
abbrev pub IsBar : Zone → ℕ → ℕ → Part → Type 0
IsBar z left width p = (p.ink ≡ Bar) × (p.left ≡ left) × (p.width ≡ width) × (p.top ≤ z.top) × (z.bottom ≤ p.top + p.height)

-- part k is bar k: it begins behind the modules before it and is as wide as its own, with this many dots per module
abbrev pub AreBars : Zone → ℕ → List ℕ → List Part → Type 0
AreBars z dots modules parts =
    (k : ℕ) (p : Part) → 2 * k < length modules → IsBar z (z.from + dots * sum (take (2 * k) modules)) (dots * slice_index modules (2 * k)) (slice_index_or parts k p)

-- the part has no dot in the zone
abbrev pub IsOutside : Zone → Part → Type 0
IsOutside z p = (p.left + p.width ≤ z.left) ⊎ ((z.right ≤ p.left) ⊎ ((p.top + p.height ≤ z.top) ⊎ (z.bottom ≤ p.top)))

abbrev pub is_itf14 : Label → Bool
is_itf14 (Itf14 gtin) = true
is_itf14 label = false

-- whether the part is a bar over the whole width of the zone
abbrev pub is_across : Zone → Part → Bool
is_across z p = (p.left == z.left) && (p.left + p.width == z.right)

abbrev pub is_bearer : Ink → Bool
is_bearer Bearer = true
is_bearer ink = false

-- whether the part is a bearer right above the zone's rows, or right below them
abbrev pub bears_above : Zone → Part → Bool
bears_above z p = is_bearer p.ink && (is_across z p && (p.top + p.height == z.top))

abbrev pub bears_below : Zone → Part → Bool
bears_below z p = is_bearer p.ink && (is_across z p && (p.top == z.bottom))

abbrev pub is_letters : Ink → Bool
is_letters (Letters run) = true
is_letters ink = false

-- whether the part is letters, or a bearer at its place if bearers are wanted
abbrev pub is_wanted : Bool → Zone → Part → Bool
is_wanted bearers z p = is_letters p.ink || (bearers && (bears_above z p || bears_below z p))

-- the part has no dot in the zone, and is letters or a bearer that is wanted
abbrev pub IsOther : Bool → Zone → Part → Type 0
IsOther bearers z p = IsOutside z p × (is_wanted bearers z p ≡ true)

-- the same of each part from one on
abbrev pub AreOthers : Bool → Zone → ℕ → List Part → Type 0
AreOthers bearers z first parts = (k : ℕ) (p : Part) → first ≤ k → k < length parts → IsOther bearers z (slice_index_or parts k p)

-- whether there is a bearer above and one below, if they are wanted
abbrev pub keeps_bearers : Bool → Zone → List Part → Bool
keeps_bearers wanted z parts = not wanted || (list_any (bears_above z) parts && list_any (bears_below z) parts)

-- ---- texts

abbrev pub text_of : Article → Field → List ℕ
text_of a Name = a.texts.name.now
text_of a Price = a.texts.price.now
text_of a OldPrice = a.texts.old_price.now
text_of a UnitPrice = a.texts.unit_price.now
text_of a Deposit = a.texts.deposit.now
text_of a BestBefore = a.texts.best_before.now
text_of a Batch = a.texts.batch.now
text_of a Lines = a.texts.lines.now
text_of a Digits = a.digits.items

abbrev pub field_number : Field → ℕ
field_number Name = 0
field_number Price = 1
field_number OldPrice = 2
field_number UnitPrice = 3
field_number Deposit = 4
field_number BestBefore = 5
field_number Batch = 6
field_number Lines = 7
field_number Digits = 8

-- a space, a tab or a line feed
abbrev pub is_blank : ℕ → Bool
is_blank letter = (letter == 32) || ((letter == 9) || (letter == 10))

-- whether a text of this field may be cut: a name or a further line, and nothing else
abbrev pub may_go_on : Field → Bool
may_go_on Name = true
may_go_on Lines = true
may_go_on field = false

abbrev pub is_old : Field → Bool
is_old OldPrice = true
is_old field = false

abbrev same_flag : Bool → Bool → Bool
same_flag true b = b
same_flag false b = not b

-- whether a text of this field stands in one part: a price
abbrev pub is_one_piece : Field → Bool
is_one_piece Price = true
is_one_piece OldPrice = true
is_one_piece field = false

-- whether letters lie in a text of this many letters; are all of it if it is a price; are cut only if they may be and more follow; and are struck
-- through exactly if they are the old price
abbrev pub is_right_run : ℕ → Run → Bool
is_right_run letters run =
    let end : ℕ = run.from + run.count in
    nat_le end letters && ((not (is_one_piece run.field) || (run.count == letters)) && ((not run.is_cut || (may_go_on run.field && nat_lt end letters)) && same_flag run.is_struck (is_old run.field)))

abbrev pub keeps_run_as : Article → Ink → Bool
keeps_run_as a (Letters run) = is_right_run (length (text_of a run.field)) run
keeps_run_as a ink = true

abbrev pub keeps_run : Article → Part → Bool
keeps_run a p = keeps_run_as a p.ink

-- whether letters have letter i of the text of this field
abbrev pub run_has : ℕ → ℕ → Run → Bool
run_has f i run = (field_number run.field == f) && (nat_le run.from i && nat_lt i (run.from + run.count))

abbrev pub has_letter_as : ℕ → ℕ → Ink → Bool
has_letter_as f i (Letters run) = run_has f i run
has_letter_as f i ink = false

-- whether the part has letter i of the text of this field
abbrev pub has_letter : ℕ → ℕ → Part → Bool
has_letter f i p = has_letter_as f i p.ink

-- whether letters have an ellipsis in front of letter i of the text of this field
abbrev pub run_is_cut : ℕ → ℕ → Run → Bool
run_is_cut f i run = (field_number run.field == f) && (run.is_cut && (run.from + run.count == i))

abbrev pub is_cut_as : ℕ → ℕ → Ink → Bool
is_cut_as f i (Letters run) = run_is_cut f i run
is_cut_as f i ink = false

-- whether the part has an ellipsis in front of letter i of the text of this field
abbrev pub is_cut_at : ℕ → ℕ → Part → Bool
is_cut_at f i p = is_cut_as f i p.ink

-- whether a further line ends with this letter of this field
abbrev pub ends_line : ℕ → ℕ → Bool
ends_line f letter = (f == 7) && (letter == 10)

-- an ellipsis stands in front of letter e of a text, and no line ends from there up to letter i
abbrev pub IsBehindEllipsis : List Part → ℕ → List ℕ → ℕ → ℕ → Type 0
IsBehindEllipsis parts f text e i = (list_any (is_cut_at f e) parts ≡ true) × ((j : ℕ) → e ≤ j → j < i → ends_line f (slice_index text j) ≡ false)

-- whether letter i of a text is on the label, if it is no blank
abbrev pub is_shown : List Part → ℕ → List ℕ → ℕ → Bool
is_shown parts f text i = is_blank (slice_index text i) || list_any (has_letter f i) parts

-- nothing of a text is left out in silence: each letter is on the label, or in its line behind an ellipsis
abbrev pub TellsText : List Part → ℕ → List ℕ → Type 0
TellsText parts f text = (i : ℕ) → i < length text → (is_shown parts f text i ≡ true) ⊎ ((e : ℕ) × (e ≤ i) × IsBehindEllipsis parts f text e i)

abbrev pub is_price : Field → Bool
is_price Price = true
is_price field = false

-- whether what is drawn are the letters of the price, all that there are
abbrev pub has_price : ℕ → Ink → Bool
has_price letters (Letters run) = is_price run.field && ((run.from == 0) && (run.count == letters))
has_price letters ink = false

abbrev pub shows_price : ℕ → Part → Bool
shows_price letters p = has_price letters p.ink

-- whether a price of this many letters is complete and in one line on the label, if there is one
abbrev pub keeps_price : ℕ → List Part → Bool
keeps_price letters parts = (letters == 0) || list_any (shows_price letters) parts

-- ---- labels

-- the drawing has this size, and this many dots per module
abbrev pub IsOfSize : ℕ → ℕ → ℕ → Drawing → Type 0
IsOfSize width height dots d = (d.width ≡ width) × (d.height ≡ height) × (d.module ≡ dots)

-- the drawing is a label of the article: its parts lie on it and do not overlap; the first are the bars of the article's symbol, the others letters
-- or the bearers that are wanted, outside the rows and columns of the symbol and its quiet zones; it shows each text or marks that the text goes on,
-- and the price is complete; each row through the bars reads back as the article and nothing else
pub record IsDrawingOf (drawing : Drawing) (article : Article) (year : Terms) : Type 0 where
  pub has_bars : drawing.top < drawing.end
  pub bars_on : drawing.end ≤ drawing.height
  pub zone_on : (zone_of drawing article.symbol).right ≤ drawing.width
  pub on : All (LiesOn drawing.width drawing.height) drawing.parts.items
  pub apart : AllPairs LieApart drawing.parts.items
  pub enough : bar_count article.symbol.modules ≤ length drawing.parts.items
  pub bars : AreBars (zone_of drawing article.symbol) drawing.module article.symbol.modules drawing.parts.items
  pub others : AreOthers article.has_bearers (zone_of drawing article.symbol) (bar_count article.symbol.modules) drawing.parts.items
  pub bearers : keeps_bearers article.has_bearers (zone_of drawing article.symbol) drawing.parts.items ≡ true
  pub runs : list_all (keeps_run article) drawing.parts.items ≡ true
  pub texts : (field : Field) → TellsText drawing.parts.items (field_number field) (text_of article field)
  pub price : keeps_price (length article.texts.price.now) drawing.parts.items ≡ true
  pub rows : (y : ℕ) → drawing.top ≤ y → y < drawing.end → RowAnswers drawing.parts.items drawing.width y article.label year
