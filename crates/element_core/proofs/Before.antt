-- What is read by fewer rows is read by more.
use Rattle.std.proofs.Common.{ℕ, not, List, [], ◌∷◌, ◌++◌, refl}
use Rattle.std.specs.Prelude.{Contains}
use Rattle.std.proofs.lemmas.List.Elements.{All-contains, All-contains_itself, All-filter}
use Rattle.element_core.specs.Table.{Row, ai_rows, every_row, first_rows, is_7003_or_8008}
use Rattle.element_core.specs.Terms.{every_ai, is_read_by, profile, rows_by}
use Rattle.element_core.specs.Elements.{Entry, Piece, IsElement, IsElementsBy, IsPiece, ArePieces, ProfileWithin, ReadAsBefore, joined}
use Rattle.element_core.proofs.Look.{in_table, listed_kept}

abbrev Stand : List Row → List Row → Type 0
Stand fewer more = (row : Row) → Contains fewer row → Contains more row

piece_now : (fewer more : List Row) → Stand fewer more → (year : ℕ) (p : Piece) (left : List ℕ) → IsPiece fewer year p left → IsPiece more year p left
piece_now fewer more stand year p left is =
    let e = is.element in
    let now : IsElement more year is.row p.element = record { listed = stand is.row e.listed; ai = e.ai; value = e.value } in
    record { row = is.row; element = now; ends = is.ends; own = is.own }

pieces_now : (fewer more : List Row) → Stand fewer more → (year : ℕ) (pieces : List Piece) (rest : List ℕ) → ArePieces fewer year pieces rest
    → ArePieces more year pieces rest
pieces_now fewer more stand year [] rest are = tt
pieces_now fewer more stand year (p ∷ pieces) rest are =
    (piece_now fewer more stand year p (joined pieces ++ rest) are.0, pieces_now fewer more stand year pieces rest are.1)

read_now : (fewer more : List Row) → Stand fewer more → (year : ℕ) (text : List ℕ) (es : List Entry) → IsElementsBy fewer year text es
    → IsElementsBy more year text es
read_now fewer more stand year text es is =
    let r = is.reads in
    record {
      some = is.some;
      fits = is.fits;
      reads = record {
        pieces = r.pieces;
        elements = r.elements;
        pieces_are =
            pieces_now fewer more stand year r.pieces [] r.pieces_are;
        text_is = r.text_is;
      };
    }

-- each row of the first edition stands in the table of the profile
listed_now : Stand first_rows ai_rows
listed_now row listed = All-contains (Contains ai_rows) first_rows row
    (All-filter (λ r. not (is_7003_or_8008 r.ai)) (Contains ai_rows) ai_rows (All-contains_itself ai_rows)) listed

pub read_as_before : ReadAsBefore
read_as_before = λ year text es is. read_now first_rows ai_rows listed_now year text es is

-- and each of the profile in that of all
pub profile_within : ProfileWithin
profile_within = λ year text es is.
    read_now (rows_by (profile year)) (rows_by (every_ai year))
    (λ row listed. listed_kept (is_read_by (every_ai year)) every_row row (in_table (profile year) row listed) refl)
    year text es is
