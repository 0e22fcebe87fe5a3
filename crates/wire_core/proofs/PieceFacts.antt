-- The lines that were taken of an input are its pieces between line feeds: the law `lines_are_pieces`.
use Rattle.std.proofs.Common.{All, Bool, List, None, Some, [], ap, append-nil, append_assoc, arith, cond, false, get_or, get_or-take, inl, inr, length, length-append, length-drop, length-take, nat_eq, nat_lt, refl, subst, sym, true, ℕ, ⊎_elim, ◌&&◌, ◌++◌, ◌+◌, ◌<◌, ◌||◌, ◌∙◌, ◌∷◌, ◌≡◌, ◌≤◌}
use Rattle.std.specs.List.{after_first, before_first, position_or_len}
use Rattle.std.proofs.lemmas.Bool.{and_parts, cases_Bool, eqb-true, ltb-false, ltb-true, or_cases, or_parts}
use Rattle.std.proofs.lemmas.List.{flat_map_more, nil_from_length, take_all}
use Rattle.std.proofs.lemmas.List.Elements.{All-append, All-head, All-nil, All-push, All-tail}
use Rattle.std.proofs.lemmas.List.Splits.{slice_split_at, slice_split_none}
use Rattle.std.proofs.lemmas.List.Sums.{fails_before_first, passes_at_first, split_at_first}
use Rattle.std.proofs.lemmas.Option.{cond_some}
use Rattle.wire_core.specs.Lines.{AreAllTaken, AreTaken, HasNoFeed, Held, IsLine, LinesArePieces, TakesLines, are_last, ended_lines, first_line, held_line, is_feed, is_too_long, most_line, pieces_of, with_room, without_line}

-- the pieces of lines that have ended and of what comes after them
pieces_after : (lines : List (List ℕ)) (xs : List ℕ) → All HasNoFeed lines → pieces_of (ended_lines lines ++ xs) ≡ lines ++ pieces_of xs
pieces_after [] xs each = refl
pieces_after (line ∷ lines) xs each =
    ap pieces_of (append_assoc (line ++ 10 ∷ []) (ended_lines lines) xs ∙ append_assoc line (10 ∷ []) (ended_lines lines ++ xs))
    ∙ slice_split_at is_feed line 10 (ended_lines lines ++ xs) (All-head HasNoFeed line lines each) refl
    ∙ ap (λ ls. line ∷ ls) (pieces_after lines xs (All-tail HasNoFeed line lines each))

-- one more line
ended_more : (lines : List (List ℕ)) (line : List ℕ) → ended_lines (lines ++ line ∷ []) ≡ ended_lines lines ++ (line ++ 10 ∷ [])
ended_more lines line = sym (flat_map_more (λ l. l ++ 10 ∷ []) [] lines line)

-- if a test gives none, it fails; std has the other half, `cond_some`
false_if_none : {X : Type 0} (b : Bool) (x : X) → cond b (Some x) None ≡ None → b ≡ false
false_if_none true x is = cc
false_if_none false x is = refl

-- if the first line feed would stand after all bytes, there is none
no_feed : (xs : List ℕ) → length xs ≤ position_or_len is_feed xs → HasNoFeed xs
no_feed xs past = λ k d low. fails_before_first is_feed xs k d (omega (arith, low, past))

-- if two lists have no line feed, both together have none
no_feed_append : (xs ys : List ℕ) → HasNoFeed xs → HasNoFeed ys → HasNoFeed (xs ++ ys)
no_feed_append = All-append (λ b. is_feed b ≡ false)

no_feed_nil : HasNoFeed []
no_feed_nil = All-nil (λ b. is_feed b ≡ false)

-- before the first line feed there is none
none_before : (xs : List ℕ) → HasNoFeed (before_first is_feed xs)
none_before xs = λ k d low.
    let early : k < position_or_len is_feed xs = omega (arith, low, length-take (position_or_len is_feed xs) xs) in
    rw (get_or-take (position_or_len is_feed xs) xs k d early) (fails_before_first is_feed xs k d early)

-- if no line is held, no line feed is, and these are not the last bytes
none_held : (h : Held) → held_line h ≡ None → HasNoFeed h.rest × (are_last h ≡ false)
none_held h none =
    let p = nat_lt (position_or_len is_feed h.rest) (length h.rest) in
    let parts = or_parts p (are_last h) (false_if_none (p || are_last h) (before_first is_feed h.rest) none) in
    (no_feed h.rest (ltb-false (position_or_len is_feed h.rest) (length h.rest) parts.0), parts.1)

-- if no line is held at the end of the input, nothing is
nothing_left : (h : Held) → held_line h ≡ None → h.has_ended ≡ true → (h.is_cut ≡ false) × (h.rest ≡ [])
nothing_left h none ended =
    let last = (none_held h none).1 in
    let held : (h.is_cut || nat_lt 0 (length h.rest)) ≡ false = sym (ap (λ e. e && (h.is_cut || nat_lt 0 (length h.rest))) ended) ∙ last in
    let parts = or_parts h.is_cut (nat_lt 0 (length h.rest)) held in
    (parts.0, nil_from_length h.rest (omega (arith, ltb-false 0 (length h.rest) parts.1)))

-- the pieces, if no line feed is held
pieces_held : (bytes : List ℕ) (lines : List (List ℕ)) (h : Held) → (t : AreTaken bytes lines h) → HasNoFeed h.rest → pieces_of bytes ≡ lines
    ++ (t.front ++ h.rest) ∷ []
pieces_held bytes lines h t none =
    ap pieces_of t.whole ∙ pieces_after lines (t.front ++ h.rest) t.each
    ∙ ap (λ ls. lines ++ ls) (slice_split_none is_feed (t.front ++ h.rest) (no_feed_append t.front h.rest t.none none))

-- a line was taken that a line feed ends
taken_feed : (bytes : List ℕ) (lines : List (List ℕ)) (h : Held) → (t : AreTaken bytes lines h) → position_or_len is_feed h.rest < length h.rest
    → AreTaken bytes (lines ++ (t.front ++ before_first is_feed h.rest) ∷ []) (without_line h)
taken_feed bytes lines h t low =
    let found = before_first is_feed h.rest in
    let after = after_first is_feed h.rest in
    let line = t.front ++ found in
    let feed : get_or h.rest (position_or_len is_feed h.rest) 0 ≡ 10 = eqb-true _ 10 (passes_at_first is_feed h.rest 0 low) in
    let rest : h.rest ≡ found ++ 10 ∷ after = split_at_first is_feed h.rest 0 low ∙ ap (λ b. found ++ b ∷ after) feed in
    record {
      front = [];
      whole = t.whole ∙ ap (λ r. ended_lines lines ++ (t.front ++ r)) rest
          ∙ ap (λ r. ended_lines lines ++ r) (sym (append_assoc t.front found (10 ∷ after)))
          ∙ ap (λ r. ended_lines lines ++ r) (sym (append_assoc line (10 ∷ []) after))
          ∙ sym (append_assoc (ended_lines lines) (line ++ 10 ∷ []) after)
          ∙ ap (λ r. r ++ after) (sym (ended_more lines line));
      each = All-push HasNoFeed lines line t.each (no_feed_append t.front found t.none (none_before h.rest));
      none = no_feed_nil;
      all = λ _. refl;
      long = λ is. cc;
    }

-- the last line was taken, which no line feed ends
taken_last : (bytes : List ℕ) (lines : List (List ℕ)) (h : Held) → (t : AreTaken bytes lines h) → length h.rest ≤ position_or_len is_feed h.rest → h.has_ended
    ≡ true
    → AreAllTaken bytes (lines ++ (t.front ++ before_first is_feed h.rest) ∷ []) (without_line h)
taken_last bytes lines h t past ended =
    let all : before_first is_feed h.rest ≡ h.rest = take_all (position_or_len is_feed h.rest) h.rest past in
    record {
      pieces = pieces_held bytes lines h t (no_feed h.rest past) ∙ ap (λ r. lines ++ (t.front ++ r) ∷ []) (sym all);
      rest = nil_from_length (after_first is_feed h.rest) (omega (arith, past, length-drop (position_or_len is_feed h.rest + 1) h.rest));
      whole = refl;
      ended = ended;
    }

-- once all is taken, no line is held
none_of_all : (bytes : List ℕ) (lines : List (List ℕ)) (h : Held) (found : List ℕ) → AreAllTaken bytes lines h → held_line h ≡ Some found → ⊥
none_of_all bytes lines h found t is =
    let last : are_last h ≡ false = ap (λ c. h.has_ended && (c || nat_lt 0 (length h.rest))) t.whole
    ∙ ap (λ r. h.has_ended && (false || nat_lt 0 (length r))) t.rest ∙ ap (λ e. e && false) t.ended in
    let none : held_line h ≡ None = ap (λ r. first_line r (are_last h)) t.rest ∙ ap (first_line []) last in
    cc (none, is)

-- what is found is the line except a front that was given up
is_line : (bytes : List ℕ) (lines : List (List ℕ)) (h : Held) (found : List ℕ) → (t : AreTaken bytes lines h) → IsLine h found (t.front ++ found)
is_line bytes lines h found t = (
  λ whole. ap (λ r. r ++ found) (t.all whole),
  λ cut. let long = t.long cut in omega (arith, long, length-append t.front found),
)

-- a line was taken, whatever ends it
taken_line : (bytes : List ℕ) (lines : List (List ℕ)) (h : Held) (found : List ℕ) → AreTaken bytes lines h → held_line h ≡ Some found
    → (line : List ℕ) × IsLine h found line × TakesLines bytes (lines ++ line ∷ []) (without_line h)
taken_line bytes lines h found t is =
    let p = nat_lt (position_or_len is_feed h.rest) (length h.rest) in
    let some = cond_some (p || are_last h) (before_first is_feed h.rest) found is in
    let line = t.front ++ before_first is_feed h.rest in
    let takes : TakesLines bytes (lines ++ line ∷ []) (without_line h) = ⊎_elim
    (λ (e : p ≡ true). inl (taken_feed bytes lines h t (ltb-true _ _ e)))
    (λ (e : p ≡ false).
    let last : are_last h ≡ true = sym (ap (λ low. low || are_last h) e) ∙ some.0 in
    inr (taken_last bytes lines h t (ltb-false _ _ e) (and_parts h.has_ended (h.is_cut || nat_lt 0 (length h.rest)) last).0))
    (cases_Bool p) in
    (line, subst (λ f. IsLine h f line) some.1 (is_line bytes lines h (before_first is_feed h.rest) t), takes)

-- the front of a line that is too long was given up, and more came
more_came : (bytes more : List ℕ) (lines : List (List ℕ)) (h : Held) (ends : Bool) → AreTaken bytes lines h → HasNoFeed h.rest
    → AreTaken (bytes ++ more) lines (record { rest = (with_room h).rest ++ more; is_cut = is_too_long h; has_ended = ends })
more_came bytes more lines h ends t none = ⊎_elim
    (λ (e : is_too_long h ≡ true). record {
      front = t.front ++ h.rest;
      whole = ap (λ bs. bs ++ more) t.whole ∙ append_assoc (ended_lines lines) (t.front ++ h.rest) more
          ∙ ap (λ r. ended_lines lines ++ ((t.front ++ h.rest) ++ r)) (sym (ap (λ c. cond c [] h.rest ++ more) e));
      each = t.each;
      none = no_feed_append t.front h.rest t.none none;
      all = λ not_so. absurd (cc (e, not_so));
      long = λ _. ⊎_elim
          (λ (cut : h.is_cut ≡ true). let long = t.long cut in omega (arith, long, length-append t.front h.rest))
          (λ (many : nat_lt (most_line + 1) (length h.rest) ≡ true). let long = ltb-true _ _ many in omega (arith, long, length-append t.front h.rest))
          (or_cases h.is_cut (nat_lt (most_line + 1) (length h.rest)) e);
    })
    (λ (e : is_too_long h ≡ false). let cut = (or_parts h.is_cut (nat_lt (most_line + 1) (length h.rest)) e).0 in record {
      front = t.front;
      whole = ap (λ bs. bs ++ more) t.whole ∙ append_assoc (ended_lines lines) (t.front ++ h.rest) more
          ∙ ap (λ r. ended_lines lines ++ r) (append_assoc t.front h.rest more ∙ ap (λ r. t.front ++ (r ++ more)) (sym (ap (λ c. cond c [] h.rest) e)));
      each = t.each;
      none = t.none;
      all = λ _. t.all cut;
      long = λ is. absurd (cc (e, is));
    })
    (cases_Bool (is_too_long h))

pub lines_are_pieces : LinesArePieces
lines_are_pieces = record {
  first = inl record { front = []; whole = refl; each = All-nil HasNoFeed; none = no_feed_nil; all = λ _. refl; long = λ is. cc };
  taken = λ bytes lines h found was is. ⊎_elim
      (λ (t : AreTaken bytes lines h). taken_line bytes lines h found t is)
      (λ (t : AreAllTaken bytes lines h). absurd (none_of_all bytes lines h found t is))
      was;
  more = λ bytes more lines h was none going. ⊎_elim
      (λ (t : AreTaken bytes lines h). inl (more_came bytes more lines h (nat_eq (length more) 0) t (none_held h none).0))
      (λ (t : AreAllTaken bytes lines h). absurd (let e = t.ended in cc (going, e)))
      was;
  room = λ bytes lines h was none going. ⊎_elim
      (λ (t : AreTaken bytes lines h). inl (subst (λ bs. AreTaken bs lines (with_room h)) (append-nil bytes)
      (subst (λ r. AreTaken (bytes ++ []) lines (record { rest = r; is_cut = is_too_long h; has_ended = h.has_ended })) (append-nil (with_room h).rest)
      (more_came bytes [] lines h h.has_ended t (none_held h none).0))))
      (λ (t : AreAllTaken bytes lines h). absurd (let e = t.ended in cc (going, e)))
      was;
  begins = λ bytes lines h was. ⊎_elim
      (λ (t : AreTaken bytes lines h). (pieces_of (t.front ++ h.rest), ap pieces_of t.whole ∙ pieces_after lines (t.front ++ h.rest) t.each))
      (λ (t : AreAllTaken bytes lines h). ([], t.pieces ∙ sym (append-nil lines)))
      was;
  even = λ bytes lines h was none going. ⊎_elim
      (λ (t : AreTaken bytes lines h). (t.front ++ h.rest, pieces_held bytes lines h t (none_held h none).0))
      (λ (t : AreAllTaken bytes lines h). absurd (let e = t.ended in cc (going, e)))
      was;
  ended = λ bytes lines h was none ended. ⊎_elim
      (λ (t : AreTaken bytes lines h). let left = nothing_left h none ended in
      inr (pieces_held bytes lines h t (none_held h none).0 ∙ ap (λ r. lines ++ r ∷ []) (ap (λ f. f ++ h.rest) (t.all left.0) ∙ left.1)))
      (λ (t : AreAllTaken bytes lines h). inl t.pieces)
      was;
}
