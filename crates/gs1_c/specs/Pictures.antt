-- The lines of the symbols of a picture.
use Rattle.std.specs.Prelude.{◌≡◌, ◌⊎◌, ◌==◌, ◌+◌, ◌<◌, ◌≤◌, nat_le, ℕ, List, [], ◌∷◌, ◌++◌, Option, Some, None, codes, flat_map, length, map, if◌then◌else◌}
use Rattle.std.specs.Fmt.{decimal}
use Rattle.digits_core.specs.Buffers.{IsPut}
use Rattle.element_core.specs.declared.form.Form.TheVariants as form
use Rattle.scan_core.specs.Faults.{row_fault_text, run_fault_text}
use Rattle.scan_core.specs.Lines.{said}
use Rattle.scan_core.specs.declared.answer.Answer.TheVariants.{Read}
use Rattle.scan_core.specs.declared.fault.RunFault.{RunFault}
use Rattle.scan_core.specs.declared.fault.RunFault.TheVariants.{BadRuns, NoMemory, TooWide}
use Rattle.picture_core.specs.Pictures.{Greys, IsPicture, IsRoom, word_count}
use Rattle.picture_core.specs.Told.{IsReadingOf}
use Rattle.picture_core.specs.declared.said.Refused.{Refused}
use Rattle.picture_core.specs.declared.shown.Shown.{Shown}
use Rattle.picture_core.specs.declared.symbol.SeenSymbol.{SeenSymbol}
use Rattle.gs1_c.specs.Found.{ArePut}
use Rattle.element_core.specs.Terms.{Terms}
use Rattle.gs1_c.specs.Lines.{Under, terms_of, words_text}

-- ---- what is shown

-- the corners of a symbol, clockwise from the upper left one, in 1/256 dot, and how many rows say so
abbrev pub placed_numbers : SeenSymbol → List ℕ
placed_numbers s =
    let c = s.corners in
    c.upper_left.x ∷ c.upper_left.y ∷ c.upper_right.x ∷ c.upper_right.y ∷ c.lower_right.x ∷ c.lower_right.y ∷ c.lower_left.x ∷ c.lower_left.y ∷ s.rows ∷ []

-- numbers, a space behind each
abbrev pub numbers_text : List ℕ → List ℕ
numbers_text numbers = flat_map (λ n. decimal n ++ 32 ∷ []) numbers

-- the line of a symbol: its corners, how many rows say so, and what they say, the elements as pairs
abbrev pub placed_line : SeenSymbol → List ℕ
placed_line s = numbers_text (placed_numbers s) ++ (said form.Pairs (Read s.said.carrier s.said.elements) ++ 10 ∷ [])

-- that of a place of the list, each of which has a symbol
abbrev pub placed_line_in : Option SeenSymbol → List ℕ
placed_line_in None = []
placed_line_in (Some s) = placed_line s

-- if symbols were dropped, the line that says how many at least
abbrev pub dropped_line : ℕ → List ℕ
dropped_line dropped = if dropped == 0 then [] else codes "dropped " ++ (decimal dropped ++ 10 ∷ [])

-- why a picture shows nothing: the refusal that came furthest, or `none`
abbrev pub reason_text : Option Refused → List ℕ
reason_text None = codes "none"
reason_text (Some r) = row_fault_text r.fault

-- the line of each symbol, and behind them that of how many were dropped; or why there is none
abbrev pub AreShownPut : Shown → List ℕ → List ℕ → ℕ → Type 0
AreShownPut shown old new count =
    ((shown.symbols.items ≡ []) × (shown.dropped ≡ 0) × IsPut (reason_text shown.refused) old new count)
    ⊎ ((0 < length shown.symbols.items + shown.dropped)
    × ArePut (map placed_line_in shown.symbols.items ++ dropped_line shown.dropped ∷ []) old new count)

-- ---- the arguments

-- the level that a number gives: 0 gives none
abbrev pub given_level : ℕ → Option ℕ
given_level level = if level == 0 then None else Some level

-- why values are no picture of this size, or cannot be read in this much memory, if so
abbrev pub IsPictureFault : Greys → ℕ → ℕ → Option RunFault → Type 0
IsPictureFault p words widths None = IsPicture (length p.values) p.width p.height p.stride × IsRoom p.width p.height words widths
IsPictureFault p words widths (Some TooWide) = (65535 < p.width) ⊎ (65535 < p.height)
IsPictureFault p words widths (Some BadRuns) =
    (p.width ≤ 65535) × (p.height ≤ 65535) × (IsPicture (length p.values) p.width p.height p.stride → ⊥)
IsPictureFault p words widths (Some NoMemory) =
    IsPicture (length p.values) p.width p.height p.stride × (IsRoom p.width p.height words widths → ⊥)

-- the lines of what a picture shows, read at a level, if one is given, and under a reference year, by its fault
abbrev pub AreFaultyLinesPut : Greys → Option ℕ → Terms → Option RunFault → List ℕ → List ℕ → ℕ → Type 0
AreFaultyLinesPut p level year None old new count = (shown : Shown) × IsReadingOf p level year shown × AreShownPut shown old new count
AreFaultyLinesPut p level year (Some fault) old new count = IsPut (run_fault_text fault) old new count

-- the same in this many words and widths of memory
abbrev pub AreReadLinesPut : Greys → Option ℕ → Terms → ℕ → ℕ → List ℕ → List ℕ → ℕ → Type 0
AreReadLinesPut p level year words widths old new count =
    (fault : Option RunFault) × IsPictureFault p words widths fault × AreFaultyLinesPut p level year fault old new count

-- the same by the terms that a number says
abbrev pub ArePictureLinesPut : Greys → ℕ → ℕ → ℕ → ℕ → List ℕ → List ℕ → ℕ → Type 0
ArePictureLinesPut p level number words widths old new count =
    Under (terms_of number) (IsPut words_text old new count) (λ terms. AreReadLinesPut p (given_level level) terms words widths old new count)

-- how many words a picture of this size takes; 0 of a side of more than 65,535 dots
abbrev pub room_count : ℕ → ℕ → ℕ
room_count width height = if nat_le width 65535 then (if nat_le height 65535 then word_count width height else 0) else 0
