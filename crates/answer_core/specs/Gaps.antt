-- Blanks and hyphens that stand in texts for the eye, in UTF-8.
use Rattle.std.specs.Prelude.{◌==◌, ◌&&◌, ◌||◌, ◌-◌, ℕ, zero, suc, Bool, true, false, List, [], ◌∷◌, drop, take, length, slice_index_or, if◌then◌else◌}
use Rattle.std.specs.Int.{is_in_range}
use Rattle.answer_core.specs.declared.gap.GapPlace.{GapPlace}
use Rattle.answer_core.specs.declared.gap.GapPlace.TheVariants.{Value, Number}

-- whether the separator is passed over, and whether hyphens are
abbrev pub has_separators : GapPlace → Bool
has_separators Value = true
has_separators _ = false

abbrev pub has_hyphens : GapPlace → Bool
has_hyphens Number = true
has_hyphens _ = false

-- U+0009 to U+000D, U+001C to U+0020, which include the separator U+001D, and the hyphen U+002D
abbrev pub is_byte_gap : GapPlace → ℕ → Bool
is_byte_gap place b =
    is_in_range 9 13 b || ((b == 28) || (is_in_range 30 32 b || ((has_separators place && (b == 29)) || (has_hyphens place && (b == 45)))))

-- U+0085 and U+00A0
abbrev pub is_two_byte_gap : ℕ → ℕ → Bool
is_two_byte_gap a b = (a == 194) && ((b == 133) || (b == 160))

-- U+2000 to U+200A, U+2028, U+2029 and U+202F, and the hyphens U+2010 to U+2015
abbrev pub is_general_gap : GapPlace → ℕ → Bool
is_general_gap place c =
    is_in_range 128 138 c || ((c == 168) || ((c == 169) || ((c == 175) || (has_hyphens place && is_in_range 144 149 c))))

-- these, and U+1680, U+205F and U+3000
abbrev pub is_three_byte_gap : GapPlace → ℕ → ℕ → ℕ → Bool
is_three_byte_gap place a b c =
    ((a == 226) && ((b == 128) && is_general_gap place c))
    || (((a == 225) && ((b == 154) && (c == 128))) || (((a == 226) && ((b == 129) && (c == 159))) || ((a == 227) && ((b == 128) && (c == 128)))))

-- how many bytes the gap has that is this one byte, or else these two, or else these three; 0 if none is
abbrev pub gap_of : GapPlace → ℕ → ℕ → ℕ → ℕ → ℕ → ℕ → ℕ
gap_of place one two_a two_b a b c = if is_byte_gap place one then 1 else if is_two_byte_gap two_a two_b then 2 else if is_three_byte_gap place a b c then 3 else 0

-- how many bytes the gap at the front of a text has
abbrev pub gap_by : GapPlace → ℕ → ℕ → ℕ → ℕ
gap_by place a b c = gap_of place a a b a b c

unfoldable pub gap_length : GapPlace → List ℕ → ℕ
gap_length place text = gap_by place (slice_index_or text 0 0) (slice_index_or text 1 0) (slice_index_or text 2 0)

-- and the one at its end
abbrev pub last_gap_by : GapPlace → ℕ → ℕ → ℕ → ℕ
last_gap_by place a b c = gap_of place c b c a b c

unfoldable pub last_gap_length : GapPlace → List ℕ → ℕ
last_gap_length place text =
    last_gap_by place (slice_index_or text (length text - 3) 0) (slice_index_or text (length text - 2) 0) (slice_index_or text (length text - 1) 0)

-- the text behind the gaps at the front, at most this many
abbrev pub behind_gaps_in : ℕ → GapPlace → List ℕ → List ℕ
behind_gaps_in zero place text = text
behind_gaps_in (suc n) place text = if gap_length place text == 0 then text else behind_gaps_in n place (drop (gap_length place text) text)

abbrev pub behind_gaps : GapPlace → List ℕ → List ℕ
behind_gaps place text = behind_gaps_in (length text) place text

-- and what stands before those at the end
abbrev pub before_gaps_in : ℕ → GapPlace → List ℕ → List ℕ
before_gaps_in zero place text = text
before_gaps_in (suc n) place text =
    if last_gap_length place text == 0 then text else before_gaps_in n place (take (length text - last_gap_length place text) text)

abbrev pub before_gaps : GapPlace → List ℕ → List ℕ
before_gaps place text = before_gaps_in (length text) place text

-- a text without the gaps at its ends
abbrev pub trimmed : GapPlace → List ℕ → List ℕ
trimmed place text = before_gaps place (behind_gaps place text)

-- a text without its gaps, of its signs as many as this at most
abbrev pub first_kept : (List ℕ → List ℕ) → List ℕ → List ℕ
first_kept more [] = []
first_kept more (b ∷ text) = b ∷ more text

abbrev pub kept_in : ℕ → GapPlace → List ℕ → List ℕ
kept_in zero place text = []
kept_in (suc n) place text =
    if gap_length place text == 0 then first_kept (kept_in n place) text else kept_in n place (drop (gap_length place text) text)

abbrev pub without_gaps : GapPlace → List ℕ → List ℕ
without_gaps place text = kept_in (length text) place text
