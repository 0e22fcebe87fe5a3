-- The records that a reader of `csv` reaches are those of `records`, and how many they can be.
use Rattle.std.proofs.Common.{◌≡◌, ◌∙◌, ◌≤◌, ◌+◌, ◌-◌, ◌⊎◌, inl, inr, ℕ, zero, suc, List, [], ◌∷◌, ◌++◌, Option, Some, None, Bool, true, false, length, sym, ap, refl, subst, arith, cond, ◌<◌}
use Rattle.std.proofs.lemmas.List.{append-nil}
use Rattle.csv.specs.Machine.{Read, ends_at_end, is_end, next_record, step}
use Rattle.csv.specs.Reading.{AreRecords, is_bom, Reached, records, records_from, records_next, strip_bom}
use Rattle.csv.specs.declared.parser.Config.{Config}
use Rattle.csv.specs.declared.parser.State.{State}
use Rattle.csv.specs.declared.parser.State.TheVariants as st

-- what was read is the first of two choices, or comes from the second
either_read : (b : Bool) (x p : Read) (y : Option Read) → cond b (Some x) y ≡ Some p → (x ≡ p) ⊎ (y ≡ Some p)
either_read true x p y e = inl (cc)
either_read false x p y e = inr e

-- a record that is read at the end of the text leaves the state before a record, and no text
read_at_end : (cfg : Config) (s : State) (f : List (List ℕ)) (g : List ℕ) (p : Read)
    → next_record cfg s f g [] ≡ Some p → (p.1 ≡ st.StartRecord) × (p.2 ≡ [])
unfolding next_record
read_at_end cfg s f g p e = elim (either_read (ends_at_end s) (f ++ (g ∷ []), st.StartRecord, []) p None e) [
  | inl h ↦ (sym (ap (λ (q : Read). q.1) h), sym (ap (λ (q : Read). q.2) h))
  | inr h ↦ cc h
]

-- if there is text, a record takes a byte of it at least
next_shrinks : (cfg : Config) (rest : List ℕ) (c : ℕ) (s : State) (f : List (List ℕ)) (g : List ℕ) (p : Read)
    → next_record cfg s f g (c ∷ rest) ≡ Some p → length p.2 ≤ length rest
unfolding next_record
next_shrinks cfg [] c s f g p e = elim (either_read (is_end (step cfg s c).1) _ p _ e) [
  | inl h ↦ let same = ap (λ (q : Read). length q.2) h in omega (arith, same)
  | inr h ↦ let same = ap length (read_at_end cfg _ _ _ p h).1 in omega (arith, same)
]
next_shrinks cfg (d ∷ rest) c s f g p e = elim (either_read (is_end (step cfg s c).1) _ p _ e) [
  | inl h ↦ let same = ap (λ (q : Read). length q.2) h in omega (arith, same)
  | inr h ↦ let less = next_shrinks cfg rest d _ _ _ p h in omega (arith, less)
]

-- before a record, without text, there is no next record
none_without_text : (cfg : Config) → next_record cfg st.StartRecord [] [] [] ≡ None
unfolding next_record
none_without_text cfg = refl

-- behind a record that is read at the end of the text there is none
end_ends : (cfg : Config) (s : State) (p : Read) → next_record cfg s [] [] [] ≡ Some p → next_record cfg p.1 [] [] p.2 ≡ None
end_ends cfg s p e =
    let (start, empty) = read_at_end cfg s [] [] p e in
    rw (start, empty) (none_without_text cfg)

-- at most one record more is reached than there are bytes
pub reached_few : (cfg : Config) (rows : List (List (List ℕ))) (s s2 : State) (xs ys : List ℕ)
    → Reached cfg s xs rows s2 ys → length rows ≤ length xs + 1
unfolding Reached
reached_few cfg [] s s2 xs ys h = omega arith
reached_few cfg (r ∷ []) s s2 [] ys h = omega arith
reached_few cfg (r ∷ q ∷ rs) s s2 [] ys h =
    let none = end_ends cfg s h.0 h.1 in
    let some = h.3.1 in
    cc (none, some)
reached_few cfg (r ∷ rs) s s2 (c ∷ xs) ys h =
    let less = next_shrinks cfg xs c s [] [] h.0 h.1 in
    let more = reached_few cfg rs h.0.1 s2 h.0.2 ys h.3 in
    omega (arith, less, more)

-- the records are those that were reached, and then those of the text behind them
reached_front : (cfg : Config) (rows : List (List (List ℕ))) (s s2 : State) (xs ys : List ℕ) (n m : ℕ)
    → Reached cfg s xs rows s2 ys → n ≡ length rows + m → records_from cfg n s xs ≡ rows ++ records_from cfg m s2 ys
unfolding Reached records_from
reached_front cfg [] s s2 xs ys n m h e =
    let same : n ≡ m = omega (arith, e) in
    rw (same, h.0, h.1) refl
reached_front cfg (r ∷ rs) s s2 xs ys zero m h e = absurd (omega (arith, e))
reached_front cfg (r ∷ rs) s s2 xs ys (suc n) m h e =
    let less : n ≡ length rs + m = omega (arith, e) in
    let later = reached_front cfg rs h.0.1 s2 h.0.2 ys n m h.3 less in
    rw (h.1, h.2) (ap (λ t. h.0.0 ∷ t) later)

-- if there is no next record, there are no records
none_after_last : (cfg : Config) (m : ℕ) (s : State) (ys : List ℕ) → next_record cfg s [] [] ys ≡ None → records_from cfg m s ys ≡ []
unfolding records_from
none_after_last cfg zero s ys e = refl
none_after_last cfg (suc m) s ys e = rw e refl

-- if reading reaches these records and then none, they are all
pub are_records : (cfg : Config) (xs : List ℕ) (rows : List (List (List ℕ))) → AreRecords cfg st.StartRecord xs rows → rows ≡ records cfg xs
are_records cfg xs rows h =
    let few = reached_few cfg rows st.StartRecord h.0 xs h.1 h.2 in
    let m = length xs + 1 - length rows in
    let split : length xs + 1 ≡ length rows + m = omega (arith, few) in
    let front = reached_front cfg rows st.StartRecord h.0 xs h.1 (length xs + 1) m h.2 split in
    sym (front ∙ ap (λ t. rows ++ t) (none_after_last cfg m h.0 h.1 h.3) ∙ append-nil rows)

-- the records begin with those that were reached; `few`, `m` and `split` are as in `are_records`
pub are_front : (cfg : Config) (s2 : State) (xs ys : List ℕ) (rows : List (List (List ℕ))) → Reached cfg st.StartRecord xs rows s2 ys
    → (more : List (List (List ℕ))) × (records cfg xs ≡ rows ++ more)
are_front cfg s2 xs ys rows h =
    let few = reached_few cfg rows st.StartRecord s2 xs ys h in
    let m = length xs + 1 - length rows in
    let split : length xs + 1 ≡ length rows + m = omega (arith, few) in
    (records_from cfg m s2 ys, reached_front cfg rows st.StartRecord s2 xs ys (length xs + 1) m h split)

-- a text without its byte order mark is no longer than with it
pub stripped_short : (xs : List ℕ) → length (strip_bom xs) ≤ length xs
unfolding strip_bom
stripped_short [] = omega arith
stripped_short (a ∷ []) = omega arith
stripped_short (a ∷ b ∷ []) = omega arith
stripped_short (a ∷ b ∷ c ∷ rest) = by (is_bom a b c)
  where
    by : (t : Bool) → length (cond t rest (a ∷ b ∷ c ∷ rest)) ≤ length (a ∷ b ∷ c ∷ rest)
    by true = omega arith
    by false = omega arith

-- if reading reaches all records behind the next one, it reaches all; if there is no next one, it reaches none
next_reached : (cfg : Config) (n : ℕ) (s : State) (xs : List ℕ) (next : Option Read) → next_record cfg s [] [] xs ≡ next
    → ((p : Read) → next_record cfg s [] [] xs ≡ Some p → AreRecords cfg p.1 p.2 (records_from cfg n p.1 p.2))
    → AreRecords cfg s xs (records_next (records_from cfg n) next)
unfolding Reached
next_reached cfg n s xs None e later = (s, xs, (refl, refl), e)
next_reached cfg n s xs (Some p) e later = let all = later p e in (all.0, all.1, (p, e, refl, all.2), all.3)

-- the first `n` records are all that reading reaches, if `n` is above the number of bytes
all_reached : (cfg : Config) (n : ℕ) (s : State) (xs : List ℕ) → length xs < n → AreRecords cfg s xs (records_from cfg n s xs)
unfolding Reached records_from
all_reached cfg zero s xs few = absurd (omega (arith, few))
all_reached cfg (suc n) s [] few = next_reached cfg n s [] (next_record cfg s [] [] []) refl (λ p e.
    let none = end_ends cfg s p e in
    (p.1, p.2, subst (λ rows. Reached cfg p.1 p.2 rows p.1 p.2) (sym (none_after_last cfg n p.1 p.2 none)) (refl, refl), none))
all_reached cfg (suc n) s (c ∷ xs) few = next_reached cfg n s (c ∷ xs) (next_record cfg s [] [] (c ∷ xs)) refl (λ p e.
    let less = next_shrinks cfg xs c s [] [] p e in all_reached cfg n p.1 p.2 (omega (arith, less, few)))

-- reading reaches all records of a text, and then none
pub records_are : (cfg : Config) (xs : List ℕ) → AreRecords cfg st.StartRecord xs (records cfg xs)
records_are cfg xs = all_reached cfg (length xs + 1) st.StartRecord xs (omega arith)
