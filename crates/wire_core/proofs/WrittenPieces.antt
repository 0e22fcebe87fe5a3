-- One more piece was written, among the events and among the bytes: for the loop of `write_all`.
use Rattle.std.proofs.Common.{◌++◌, ◌≡◌, ◌∙◌, ◌∷◌, List, [], ap, append-nil, append_assoc, sym, ℕ}
use Rattle.std.specs.List.{concat}
use Rattle.std.proofs.lemmas.List.{map_push}
use Rattle.std.proofs.lemmas.List.Folds.{concat-append}
use Rattle.wire_core.specs.Events.{Event, writes_of}
use Rattle.wire_core.specs.Events.Event.{Wrote}

-- the write of a piece stands behind those of the pieces before it
pub one_more_write : (events : List Event) (pieces : List (List ℕ)) (piece : List ℕ) → (events ++ writes_of pieces) ++ Wrote piece ∷ [] ≡ events
    ++ writes_of (pieces ++ piece ∷ [])
one_more_write events pieces piece = append_assoc events (writes_of pieces) (Wrote piece ∷ []) ∙ ap (λ ws. events ++ ws) (sym (map_push (λ p. Wrote p) pieces piece))

-- so do its bytes
pub one_more_piece : (pieces : List (List ℕ)) (piece : List ℕ) → concat (pieces ++ piece ∷ []) ≡ concat pieces ++ piece
one_more_piece pieces piece = concat-append pieces (piece ∷ []) ∙ ap (λ t. concat pieces ++ t) (append-nil piece)
