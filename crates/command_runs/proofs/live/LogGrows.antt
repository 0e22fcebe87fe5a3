-- A log of reads and writes by which each record is answered, as it grows (of specs/live/Answering).
use Rattle.command_runs.proofs.live.Words.{AnswersBy, BeginsBy, Event, IsFrontBy, IsPromptBy, List, Read, Wrote, [], ap, append-nil, append_assoc, bytes_read, bytes_written, concat, flat_map-append, inl, inr, pieces_of, refl, subst, sym, was_read, was_written, whole_lines, writes_of, ℕ, ⊎_elim, ◌++◌, ◌∙◌, ◌∷◌, ◌≡◌, ◌⊎◌}

-- a list and one more item x are cut somewhere before x
abbrev IsCutBefore : {X : Type 0} → List X → X → List X → List X → Type 0
IsCutBefore {X} xs x before after = (sooner : List X) × (after ≡ sooner ++ x ∷ []) × (xs ≡ before ++ sooner)

-- if they are cut in two, the cut is behind x, or before it
cut_with_last : {X : Type 0} (xs : List X) (x : X) (before after : List X) → xs ++ x ∷ [] ≡ before ++ after → ((after ≡ []) × (before ≡ xs ++ x ∷ []))
    ⊎ IsCutBefore xs x before after
cut_with_last xs x [] after is = inr (xs, sym is, refl)
cut_with_last [] x (b ∷ []) [] is = inl (refl, sym is)
cut_with_last [] x (b ∷ []) (a ∷ after) is = cc
cut_with_last [] x (b ∷ c ∷ before) after is = cc
cut_with_last (y ∷ xs) x (b ∷ before) after is =
    let tail : xs ++ x ∷ [] ≡ before ++ after = cc is in
    ⊎_elim (λ (h : (after ≡ []) × (before ≡ xs ++ x ∷ [])). inl (h.0, cc)) (λ (h : IsCutBefore xs x before after). inr (h.0, h.1, cc))
    (cut_with_last xs x before after tail)

-- what was read and written, with one more read
pub read_more : (events : List Event) (bytes : List ℕ) → was_read (events ++ Read bytes ∷ []) ≡ was_read events ++ bytes
read_more events bytes = flat_map-append bytes_read events (Read bytes ∷ []) ∙ ap (λ t. was_read events ++ t) (append-nil bytes)

pub written_same : (events : List Event) (bytes : List ℕ) → was_written (events ++ Read bytes ∷ []) ≡ was_written events
written_same events bytes = flat_map-append bytes_written events (Read bytes ∷ []) ∙ append-nil (was_written events)

-- what was written and read, with more writes
pub written_all : (events : List Event) (pieces : List (List ℕ)) → was_written (events ++ writes_of pieces) ≡ was_written events ++ concat pieces
written_all events pieces = flat_map-append bytes_written events (writes_of pieces) ∙ ap (λ t. was_written events ++ t) (written pieces)
  where
    written : (pieces : List (List ℕ)) → was_written (writes_of pieces) ≡ concat pieces
    written [] = refl
    written (piece ∷ pieces) = ap (λ t. piece ++ t) (written pieces)

pub read_all_same : (events : List Event) (pieces : List (List ℕ)) → was_read (events ++ writes_of pieces) ≡ was_read events
read_all_same events pieces = flat_map-append bytes_read events (writes_of pieces) ∙ ap (λ t. was_read events ++ t) (none pieces) ∙ append-nil (was_read events)
  where
    none : (pieces : List (List ℕ)) → was_read (writes_of pieces) ≡ []
    none [] = refl
    none (piece ∷ pieces) = none pieces

module _ {X : Type 0} (L : X → List ℕ → Type 0) where
  -- what answers the first of the records
  pub answers_begin : (xs first later : List X) (text : List ℕ) → xs ≡ first ++ later → AnswersBy L first text → BeginsBy L xs text
  answers_begin xs first later text is a = (first, later, a.0, [], is, a.1, sym a.2 ∙ sym (append-nil text))

  module _ (records : List (List ℕ) → List X) where
    -- what `IsPromptBy` asks for before a read, and `IsFrontBy` at each moment
    abbrev pub AnsweredSoFar : List Event → Type 0
    AnsweredSoFar events = AnswersBy L (records (whole_lines (was_read events))) (was_written events)

    abbrev pub BegunSoFar : List Event → Type 0
    BegunSoFar events = BeginsBy L (records (pieces_of (was_read events))) (was_written events)

    -- what was answered before a read that is among the events, or is the one more
    at_cut : (events : List Event) (e : Event) → IsPromptBy L records events → ((bytes : List ℕ) → e ≡ Read bytes → AnsweredSoFar events)
        → (before after : List Event) (bytes : List ℕ) (sooner : List Event) → Read bytes ∷ after ≡ sooner ++ e ∷ [] → events ≡ before ++ sooner → AnsweredSoFar before
    at_cut events e was here before after bytes [] is cut = subst AnsweredSoFar (cut ∙ append-nil before) (here bytes cc)
    at_cut events e was here before after bytes (s ∷ sooner) is cut = was before sooner bytes cc

    -- one more event, before which all lines that had ended were answered if it is a read
    pub prompt_more : (events : List Event) (e : Event) → IsPromptBy L records events → ((bytes : List ℕ) → e ≡ Read bytes → AnsweredSoFar events)
        → IsPromptBy L records (events ++ e ∷ [])
    prompt_more events e was here = λ before after bytes is. ⊎_elim
        (λ (h : (Read bytes ∷ after ≡ []) × (before ≡ events ++ e ∷ [])). let none = h.0 in absurd (let c : ⊥ = cc none in c))
        (λ (h : IsCutBefore events e before (Read bytes ∷ after)). at_cut events e was here before after bytes h.0 h.1 h.2)
        (cut_with_last events e before (Read bytes ∷ after) is)

    -- one more event, after which what was written is a front of what answers
    pub front_more : (events : List Event) (e : Event) → IsFrontBy L records events → BegunSoFar (events ++ e ∷ []) → IsFrontBy L records (events ++ e ∷ [])
    front_more events e was begun = λ before after is. ⊎_elim
        (λ (h : (after ≡ []) × (before ≡ events ++ e ∷ [])). subst BegunSoFar (sym h.1) begun)
        (λ (h : IsCutBefore events e before after). was before h.0 h.2)
        (cut_with_last events e before after is)

    -- more writes, of a front of what answers
    pub writes_more : (events : List Event) (pieces : List (List ℕ)) (rest : List ℕ) → IsPromptBy L records events → IsFrontBy L records events
        → BeginsBy L (records (pieces_of (was_read events))) (was_written events ++ (concat pieces ++ rest))
        → IsPromptBy L records (events ++ writes_of pieces) × IsFrontBy L records (events ++ writes_of pieces)
    writes_more events [] rest prompt front begun = rw append-nil (prompt, front)
    writes_more events (piece ∷ pieces) rest prompt front begun =
        let now = events ++ Wrote piece ∷ [] in
        let text : was_written events ++ ((piece ++ concat pieces) ++ rest) ≡ was_written now ++ (concat pieces ++ rest) =
        cc (written_all events (piece ∷ []), append-nil piece, append_assoc piece (concat pieces) rest, append_assoc (was_written events) piece (concat pieces ++ rest)) in
        let b = subst (λ bs. BeginsBy L (records (pieces_of bs)) (was_written events ++ ((piece ++ concat pieces) ++ rest)))
        (sym (read_all_same events (piece ∷ []))) begun in
        let then = subst (λ t. BeginsBy L (records (pieces_of (was_read now))) t) text b in
        let first : BegunSoFar now = (then.0, then.1, then.2, (concat pieces ++ rest) ++ then.3, then.4, then.5, then.6 ∙ append_assoc (was_written now) (concat pieces ++ rest) then.3) in
        subst (λ es. IsPromptBy L records es × IsFrontBy L records es) (append_assoc events (Wrote piece ∷ []) (writes_of pieces))
        (writes_more now pieces rest (prompt_more events (Wrote piece) prompt (λ bytes is. cc is)) (front_more events (Wrote piece) front first) then)
