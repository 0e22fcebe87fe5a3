-- Joined pieces are what is read from the left.
use Rattle.std.proofs.Common.{◌≡◌, ℕ, Bool, true, false, eqb, not, ◌||◌, List, [], ◌∷◌, ◌++◌, map, refl, sym, ap, subst, ◌∙◌, append_assoc, eqb-true, inl, inr, arith}
use Rattle.std.specs.Prelude.{◌==◌, if◌then◌else◌, length, slice_index_or}
use Rattle.std.proofs.lemmas.Bool.{cases_Bool, not-true}
use Rattle.element_core.specs.Terms.{Terms, rows_by}
use Rattle.element_core.specs.Elements.{Entry, Piece, joined, IsPiece, ArePieces, ReadsElements}
use Rattle.element_core.specs.Fronts.{ReadsFromLeft, ReadsPieces, ends_element, after_separator}

-- the separator of a piece, if it has one
abbrev separator : Bool → List ℕ
separator separated = if separated then 29 ∷ [] else []

abbrev is_empty : List ℕ → Bool
is_empty left = length left == 0

abbrev begins_with_separator : List ℕ → Bool
begins_with_separator left = slice_index_or left 0 0 == 29

-- what is after a value is its separator and the rest
parted : (after : List ℕ) → after ≡ separator (begins_with_separator after) ++ after_separator after
parted [] = refl
parted (b ∷ after) =
    elim (cases_Bool (eqb b 29)) [
      | inl here ↦ rw here (ap (λ (c : ℕ). c ∷ after) (eqb-true b 29 here))
      | inr here ↦ rw here refl
    ]

or_more : (p q r : Bool) → (p || q) ≡ true → (p || (q || r)) ≡ true
or_more true q r h = refl
or_more false true r h = refl
or_more false false r h = absurd cc

or_last : (p : Bool) → (p || true) ≡ true
or_last true = refl
or_last false = refl

ends_there : (p : Bool) (after : List ℕ) → (p || ends_element after) ≡ true → (p || (begins_with_separator after || is_empty (after_separator after))) ≡ true
ends_there p [] h = or_last p
ends_there p (b ∷ after) h = or_more p (eqb b 29) (is_empty (after_separator (b ∷ after))) h

own_there : (after : List ℕ) → (begins_with_separator after || not (begins_with_separator (after_separator after))) ≡ true
own_there [] = refl
own_there (b ∷ after) =
    elim (cases_Bool (eqb b 29)) [
      | inl here ↦ rw here refl
      | inr here ↦ rw (here, here) refl
    ]

regroup : (ai value sep left rest : List ℕ) → ai ++ value ++ (sep ++ (left ++ rest)) ≡ ai ++ value ++ sep ++ left ++ rest
regroup ai value sep left rest = simp append_assoc

-- what is read from the left is joined pieces
pub to_pieces : (year : Terms) (text : List ℕ) (es : List Entry) (rest : List ℕ) → ReadsFromLeft year text es rest → ReadsElements (rows_by year) year.year text es rest
to_pieces year text [] rest r = record { pieces = []; elements = refl; pieces_are = tt; text_is = r }
to_pieces year text (e ∷ es) rest r =
    let b = r.1 in
    let more = to_pieces year r.0 es rest r.2 in
    let p : Piece = record { element = e; separated = begins_with_separator b.after } in
    let left : after_separator b.after ≡ joined more.pieces ++ rest = sym b.rest_is ∙ more.text_is in
    let after : b.after ≡ separator (begins_with_separator b.after) ++ (joined more.pieces ++ rest) =
    parted b.after ∙ ap (λ (t : List ℕ). separator (begins_with_separator b.after) ++ t) left in
    let first : IsPiece (rows_by year) year.year p (joined more.pieces ++ rest) = record {
      row = b.row;
      element = b.element;
      ends = subst (λ (t : List ℕ). (b.row.predefined || (begins_with_separator b.after || is_empty t)) ≡ true) left
          (ends_there b.row.predefined b.after b.closed);
      own = subst (λ (t : List ℕ). (begins_with_separator b.after || not (begins_with_separator t)) ≡ true) left (own_there b.after);
    } in
    record {
      pieces = p ∷ more.pieces;
      elements = ap (λ (fs : List Entry). e ∷ fs) more.elements;
      pieces_are = (first, more.pieces_are);
      text_is = b.text_is ∙ ap (λ (t : List ℕ). e.ai ++ e.value ++ t) after
          ∙ regroup e.ai e.value (separator (begins_with_separator b.after)) (joined more.pieces) rest;
    }

kept : (text : List ℕ) → not (begins_with_separator text) ≡ true → text ≡ after_separator text
kept [] h = refl
kept (b ∷ text) h = let no = not-true (eqb b 29) h in rw no refl

ended : (p : Bool) (left : List ℕ) → (p || is_empty left) ≡ true → (p || ends_element left) ≡ true
ended true left h = refl
ended false [] h = refl
ended false (b ∷ left) h = let none : length (b ∷ left) ≡ 0 = eqb-true (length (b ∷ left)) 0 h in absurd (omega arith)

closed_by : (p separated : Bool) (left : List ℕ) → (p || (separated || is_empty left)) ≡ true → (separated || not (begins_with_separator left)) ≡ true
    → ((p || ends_element (separator separated ++ left)) ≡ true) × (left ≡ after_separator (separator separated ++ left))
closed_by p true left h own = (or_last p, refl)
closed_by p false left h own = (ended p left h, kept left own)

from_pieces : (year : Terms) (pieces : List Piece) (rest : List ℕ) → ArePieces (rows_by year) year.year pieces rest
    → ReadsFromLeft year (joined pieces ++ rest) (map (λ p. p.element) pieces) rest
from_pieces year [] rest are = refl
from_pieces year (p ∷ pieces) rest are =
    let left = joined pieces ++ rest in
    let q = are.0 in
    let c = closed_by q.row.predefined p.separated left q.ends q.own in (
      left,
      record {
        row = q.row;
        element = q.element;
        after = separator p.separated ++ left;
        text_is =
            sym (regroup p.element.ai p.element.value (separator p.separated) (joined pieces) rest);
        closed = c.0;
        rest_is = c.1;
      },
      from_pieces year pieces rest
          are.1,
    )

-- what joined pieces are is read from the left
pub from_left : (year : Terms) (text : List ℕ) (es : List Entry) (rest : List ℕ) → ReadsElements (rows_by year) year.year text es rest → ReadsFromLeft year text es rest
from_left year text es rest j =
    subst (λ (t : List ℕ). ReadsFromLeft year t es rest) (sym j.text_is)
    (subst (λ (fs : List Entry). ReadsFromLeft year (joined j.pieces ++ rest) fs rest) (sym j.elements) (from_pieces year j.pieces rest j.pieces_are))

pub reads_pieces : ReadsPieces
reads_pieces = λ year text es rest. (λ j. from_left year text es rest j, λ r. to_pieces year text es rest r)
