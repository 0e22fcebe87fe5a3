-- A lane's rows, and feeds, under their numbers (`numbered_rows`, `numbered_feeds`): how many, by place, and one list of rows after another.
use Rattle.std.proofs.Common.{◌≡◌, ◌+◌, ◌++◌, ◌<◌, ◌∷◌, ◌∙◌, [], List, Some, ℕ, zero, suc, ap, arith, get_or, length, refl, slice_get}
use Rattle.lane_core.specs.Plain.{plain_of}
use Rattle.element_core.specs.Terms.{Terms}
use Rattle.hub_core.specs.Laws.{DeliveriesByPlace, ServedByPlace}
use Rattle.hub_core.specs.Serving.{numbered_feeds, numbered_rows}

pub rows_long : (l n : ℕ) (year : Terms) (rows : List (List ℕ)) → length (numbered_rows l n year rows) ≡ length rows
rows_long l n year [] = refl
rows_long l n year (row ∷ rows) = omega (arith, rows_long l (n + 1) year rows)

pub numbered_row_at : (l n k m : ℕ) (year : Terms) (rows : List (List ℕ)) → m ≡ n + k → k < length rows → slice_get (numbered_rows l n year rows) k
    ≡ Some (plain_of l m year (get_or rows k []))
numbered_row_at l n k m year [] is low = absurd (omega arith)
numbered_row_at l n zero m year (row ∷ rows) is low = ap (λ j. Some (plain_of l j year row)) (let e : n ≡ m = omega arith in e)
numbered_row_at l n (suc k) m year (row ∷ rows) is low = numbered_row_at l (n + 1) k m year rows (omega arith) (omega arith)

pub rows_append : (l n : ℕ) (year : Terms) (xs ys : List (List ℕ)) → numbered_rows l n year (xs ++ ys) ≡ numbered_rows l n year xs
    ++ numbered_rows l (n + length xs) year ys
rows_append l n year [] ys = ap (λ m. numbered_rows l m year ys) (omega arith)
rows_append l n year (x ∷ xs) ys = ap (λ v. plain_of l n year x ∷ v)
    (rows_append l (n + 1) year xs ys ∙ ap (λ m. numbered_rows l (n + 1) year xs ++ numbered_rows l m year ys) (omega arith))

feeds_long : (l : ℕ) (year : Terms) (feeds : List (List (List ℕ))) → length (numbered_feeds l year feeds) ≡ length feeds
feeds_long l year [] = refl
feeds_long l year (rows ∷ feeds) = omega (arith, feeds_long (l + 1) year feeds)

pub feed_at : (l i m : ℕ) (year : Terms) (feeds : List (List (List ℕ))) → m ≡ l + i → get_or (numbered_feeds l year feeds) i []
    ≡ numbered_rows m 0 year (get_or feeds i [])
feed_at l i m year [] is = refl
feed_at l zero m year (rows ∷ feeds) is = ap (λ j. numbered_rows j 0 year rows) (let e : l ≡ m = omega arith in e)
feed_at l (suc i) m year (rows ∷ feeds) is = feed_at (l + 1) i m year feeds (omega arith)

-- the laws
pub deliveries_by_place : DeliveriesByPlace
deliveries_by_place lane year rows k = (rows_long lane 0 year rows, λ low. numbered_row_at lane 0 k k year rows (omega arith) low)

pub served_by_place : ServedByPlace
served_by_place year feeds i k =
    let at = feed_at 0 i i year feeds (omega arith) in (
      feeds_long 0 year feeds,
      ap length at ∙ rows_long i 0 year (get_or feeds i []),
      λ low. ap (λ xs. slice_get xs k) at ∙ numbered_row_at i 0 k k year (get_or feeds i []) (omega arith) low,
    )
