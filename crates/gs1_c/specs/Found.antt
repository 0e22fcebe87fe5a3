-- The lines of the symbols of a row.
use Rattle.std.specs.Prelude.{◌≡◌, ◌-◌, nat_le, ℕ, List, [], ◌∷◌, ◌++◌, Option, Some, None, flat_map, length, map, if◌then◌else◌}
use Rattle.std.specs.Fmt.{decimal}
use Rattle.digits_core.specs.Buffers.{IsPut, pasted}
use Rattle.scan_core.specs.Faults.{run_fault_text}
use Rattle.scan_core.specs.Lines.{answer_text}
use Rattle.scan_core.specs.Bits.{dots_at}
use Rattle.scan_core.specs.Row.{IsRow, dots_of, runs_fault}
use Rattle.scan_core.specs.Windows.{AreSymbolsOf}
use Rattle.scan_core.specs.declared.answer.Answer.TheVariants.{Read}
use Rattle.scan_core.specs.declared.fault.RunFault.{RunFault}
use Rattle.scan_core.specs.declared.window.Window.{Window}
use Rattle.element_core.specs.Terms.{Terms}
use Rattle.gs1_c.specs.Lines.{Under, packed_fault, terms_of, words_text}

-- the line of a symbol: its window's first run, how many runs it has, and what they say
abbrev pub symbol_line : Window → List ℕ
symbol_line w = decimal w.first ++ (32 ∷ decimal w.count) ++ (32 ∷ answer_text (Read w.carrier w.elements)) ++ (10 ∷ [])

-- as many of the lines, from the first on, as there is room for
abbrev pub fitting : ℕ → List (List ℕ) → List ℕ
fitting room [] = []
fitting room (line ∷ lines) = if nat_le (length line) room then line ++ fitting (room - length line) lines else []

-- the count is that of all lines; those that there is room for stand at the front of the buffer, which is else as it was
pub record ArePut (lines : List (List ℕ)) (old new : List ℕ) (count : ℕ) : Type 0 where
  pub counted : count ≡ length (flat_map (λ line. line) lines)
  pub front : new ≡ pasted old 0 (fitting (length old) lines)

-- the lines of the symbols of widths by their fault, under a reference year; or why they are no row
abbrev pub AreDatedSymbolsPut : Terms → List ℕ → Option RunFault → List ℕ → List ℕ → ℕ → Type 0
AreDatedSymbolsPut year widths None old new count = (ws : List Window) × AreSymbolsOf widths year ws × ArePut (map symbol_line ws) old new count
AreDatedSymbolsPut year widths (Some fault) old new count = IsPut (run_fault_text fault) old new count

-- the same by the terms that a number says
abbrev pub AreSymbolsPut : ℕ → List ℕ → List ℕ → List ℕ → ℕ → Type 0
AreSymbolsPut number widths old new count =
    Under (terms_of number) (IsPut words_text old new count) (λ terms. AreDatedSymbolsPut terms widths (runs_fault widths) old new count)

-- ---- packed dots

-- the lines of the symbols of the row whose dots these are, by their fault, under a reference year; or why they are no row
abbrev pub ArePackedSymbolsPut : Terms → List ℕ → ℕ → Option RunFault → List ℕ → List ℕ → ℕ → Type 0
ArePackedSymbolsPut year bits dots None old new count =
    (runs : List ℕ) × IsRow runs × (dots_of runs ≡ dots_at bits 0 dots) × AreDatedSymbolsPut year runs None old new count
ArePackedSymbolsPut year bits dots (Some fault) old new count = IsPut (run_fault_text fault) old new count

-- the same by the terms that a number says
abbrev pub AreDotSymbolsPut : ℕ → List ℕ → ℕ → List ℕ → List ℕ → ℕ → Type 0
AreDotSymbolsPut number bits dots old new count =
    Under (terms_of number) (IsPut words_text old new count) (λ terms. ArePackedSymbolsPut terms bits dots (packed_fault (length bits) dots) old new count)
