-- What holds of a lane of several tills after each event.
use Rattle.std.proofs.Common.{◌≡◌, ℕ, ◌+◌, ◌==◌, ◌&&◌, cond, Bool, true, false, zero, suc, List, [], ◌∷◌, ◌++◌, length, Option, None, Some, refl, sym, ap, ◌∙◌, subst, arith}
use Rattle.std.specs.List.{slice_get}
use Rattle.std.proofs.lemmas.Bool.Decides.{nat_tests}
use Rattle.groups_core.specs.Lanes.{RedisLane, LaneTills, NamedAnswer, NamedRow, Step, Submits, Works, Reads, Gives, all_go, fresh_lane, gives, goes, has_got, is_own, next_wanted, own_row, put_aside, reads, answer_to, named_row, works}
use Rattle.groups_core.specs.Laws.{AlwaysGoesOn, MarksAreNeeded, MarksTell, OwnAnswers, first_answers}

-- of a list what is at each place
abbrev At : {X : Type 0} → (X → Type 0) → List X → Type 0
At {X} P xs = (k : ℕ) (x : X) → slice_get xs k ≡ Some x → P x

at_more : {X : Type 0} (P : X → Type 0) (x : X) (xs : List X) → P x → At P xs → At P (x ∷ xs)
at_more P x xs own rest zero y e = let same : x ≡ y = cc in subst P same own
at_more P x xs own rest (suc k) y e = rest k y e

at_found : {X : Type 0} (o : Option X) (P : Option X → Type 0) → P None → ((x : X) → o ≡ Some x → P (Some x)) → P o
at_found None P none some = none
at_found (Some x) P none some = some x refl

same_number : (m n : ℕ) → (m == n) ≡ true → m ≡ n
same_number m n e = grind (arith, nat_tests)

own_number : (n : ℕ) → (n == n) ≡ true
own_number n = grind (arith, nat_tests)

both : (a b : Bool) → (a && b) ≡ true → (a ≡ true) × (b ≡ true)
both true true e = (refl, refl)
both true false e = absurd (cc)
both false b e = absurd (cc)

module _ (s : LaneTills) where
  abbrev IsRow : NamedRow → Type 0
  IsRow r = (u n : ℕ) × (r ≡ named_row s u n)

  abbrev IsAnswer : NamedAnswer → Type 0
  IsAnswer a = (u n : ℕ) × (a ≡ answer_to s (named_row s u n))

  -- what is put aside is the answer to the till's own row of that number
  abbrev IsAside : (ℕ → ℕ → Option ℕ) → Type 0
  IsAside aside = (t n text : ℕ) → aside t n ≡ Some text → text ≡ s.answer (own_row s t n)

  record IsOwn (l : RedisLane) : Type 0 where
    rows : At IsRow l.rows
    answers : At IsAnswer l.answers
    aside : IsAside l.aside
    got : (t : ℕ) → l.got t ≡ first_answers s t (length (l.got t))

  at_start : IsOwn fresh_lane
  at_start = record { rows = λ k x e. absurd (cc); answers = λ k x e. absurd (cc); aside = λ t n x e. absurd (cc); got = λ t. refl }

  submits_one : (l : RedisLane) (t n : ℕ) → IsOwn l → IsOwn (goes s l (Submits t n))
  submits_one l t n o =
      record { rows = at_more IsRow (named_row s t n) l.rows (t, n, refl) o.rows; answers = o.answers; aside = o.aside; got = o.got }

  works_one : (l : RedisLane) (r : NamedRow) → IsOwn l → IsRow r → IsOwn (works s l (Some r))
  works_one l r o is =
      record {
        rows = o.rows;
        answers = at_more IsAnswer (answer_to s r) l.answers (is.0, is.1, ap (λ x. answer_to s x) is.2) o.answers;
        aside = o.aside;
        got = o.got;
      }

  -- what passes as an answer of a till's own is the answer to its row
  passes_own : MarksTell s → (t : ℕ) (a : NamedAnswer) → IsAnswer a → is_own s t a ≡ true → a.text ≡ s.answer (own_row s t a.number)
  passes_own tell t a r passes =
      let u = r.0 in
      let m = r.1 in
      let it = answer_to s (named_row s u m) in
      let here : is_own s t it ≡ true = subst (λ x. is_own s t x ≡ true) r.2 passes in
      let parts = both ((s.till u).series == (s.till t).series) (s.mark (own_row s u m) == s.mark (own_row s t m)) here in
      let series = same_number (s.till u).series (s.till t).series parts.0 in
      let marks = same_number (s.mark (own_row s u m)) (s.mark (own_row s t m)) parts.1 in
      let is : it.text ≡ s.answer (own_row s t it.number) = tell u t m series marks in
      subst (λ x. x.text ≡ s.answer (own_row s t x.number)) (sym r.2) is

  puts_aside : (t n text : ℕ) (aside : ℕ → ℕ → Option ℕ) → IsAside aside → text ≡ s.answer (own_row s t n) → IsAside (put_aside t n text aside)
  puts_aside t n text aside before is u m x = by (u == t) (m == n) refl refl
    where
      by : (a b : Bool) → (u == t) ≡ a → (m == n) ≡ b → cond a (cond b (Some text) (aside u m)) (aside u m) ≡ Some x → x ≡ s.answer (own_row s u m)
      by false b e f found = before u m x found
      by true false e f found = before u m x found
      by true true e f found =
          let same_till : u ≡ t = same_number u t e in
          let same_row : m ≡ n = same_number m n f in
          let same_text : text ≡ x = cc in
          sym same_text ∙ is ∙ ap (λ k. s.answer (own_row s t k)) (sym same_row) ∙ ap (λ v. s.answer (own_row s v m)) (sym same_till)

  reads_one : MarksTell s → (l : RedisLane) (t : ℕ) (a : NamedAnswer) → IsOwn l → IsAnswer a → IsOwn (reads s l t (Some a))
  reads_one tell l t a o is = by (is_own s t a) refl
    where
      by : (b : Bool) → is_own s t a ≡ b → IsOwn (cond b (record l { aside = put_aside t a.number a.text l.aside }) l)
      by false p = o
      by true p =
          record {
            rows = o.rows;
            answers = o.answers;
            aside = puts_aside t a.number a.text l.aside o.aside (passes_own tell t a is p);
            got = o.got;
          }

  more_got : (got : ℕ → List ℕ) (t text : ℕ) → ((u : ℕ) → got u ≡ first_answers s u (length (got u)))
      → text ≡ s.answer (own_row s t ((s.till t).start + length (got t)))
      → (u : ℕ) → has_got t text got u ≡ first_answers s u (length (has_got t text got u))
  more_got got t text before is u = by (u == t) refl
    where
      grown : (xs : List ℕ) (x : ℕ) → length (xs ++ x ∷ []) ≡ suc (length xs)
      grown [] x = refl
      grown (y ∷ xs) x = ap suc (grown xs x)

      by : (b : Bool) → (u == t) ≡ b → cond b (got u ++ text ∷ []) (got u) ≡ first_answers s u (length (cond b (got u ++ text ∷ []) (got u)))
      by false e = before u
      by true e =
          let same : u ≡ t = same_number u t e in
          let it = subst (λ v. text ≡ s.answer (own_row s v ((s.till v).start + length (got v)))) (sym same) is in
          ap (λ xs. xs ++ text ∷ []) (before u) ∙ ap (λ x. first_answers s u (length (got u)) ++ x ∷ []) it
          ∙ ap (λ k. first_answers s u k) (sym (grown (got u) text))

  gives_one : (l : RedisLane) (t text : ℕ) → IsOwn l → text ≡ s.answer (own_row s t (next_wanted s l t)) → IsOwn (gives l t (Some text))
  gives_one l t text o is = record { rows = o.rows; answers = o.answers; aside = o.aside; got = more_got l.got t text o.got is }

  after_one : MarksTell s → (l : RedisLane) (e : Step) → IsOwn l → IsOwn (goes s l e)
  after_one tell l (Submits t n) o = submits_one l t n o
  after_one tell l (Works which) o = at_found (slice_get l.rows which) (λ x. IsOwn (works s l x)) o (λ r e. works_one l r o (o.rows which r e))
  after_one tell l (Reads t which) o = at_found (slice_get l.answers which) (λ x. IsOwn (reads s l t x)) o
      (λ a e. reads_one tell l t a o (o.answers which a e))
  after_one tell l (Gives t) o = at_found (l.aside t (next_wanted s l t)) (λ x. IsOwn (gives l t x)) o
      (λ x e. gives_one l t x o (o.aside t (next_wanted s l t) x e))

  after_all : MarksTell s → (events : List Step) (l : RedisLane) → IsOwn l → IsOwn (all_go s events l)
  after_all tell [] l o = o
  after_all tell (e ∷ es) l o = after_all tell es (goes s l e) (after_one tell l e o)

  -- the answer to a till's row passes as that
  passes : (t n : ℕ) → is_own s t (answer_to s (named_row s t n)) ≡ true
  passes t n =
      let mark = s.mark (own_row s t n) in
      ap (λ b. b && (mark == mark)) (own_number (s.till t).series) ∙ own_number mark

  goes_on : (l : RedisLane) (t : ℕ) → IsOwn l
      → (all_go s (Submits t (next_wanted s l t) ∷ Works 0 ∷ Reads t 0 ∷ Gives t ∷ []) l).got t ≡ first_answers s t (suc (length (l.got t)))
  goes_on l t o =
      let n = next_wanted s l t in
      let reply = answer_to s (named_row s t n) in
      let worked : RedisLane = goes s (goes s l (Submits t n)) (Works 0) in
      let aside = put_aside t n reply.text l.aside in
      ap (λ b. (goes s (cond b (record worked { aside = aside }) worked) (Gives t)).got t) (passes t n)
      ∙ ap (λ x. (gives (record worked { aside = aside }) t x).got t) (there t n reply.text l.aside)
      ∙ ap (λ b. cond b (l.got t ++ reply.text ∷ []) (l.got t)) (own_number t)
      ∙ ap (λ xs. xs ++ reply.text ∷ []) (o.got t)
    where
      there : (t n text : ℕ) (aside : ℕ → ℕ → Option ℕ) → put_aside t n text aside t n ≡ Some text
      there t n text aside =
          ap (λ b. cond b (cond (n == n) (Some text) (aside t n)) (aside t n)) (own_number t)
          ∙ ap (λ b. cond b (Some text) (aside t n)) (own_number n)

pub own_answers : OwnAnswers
own_answers s events t tell = (after_all s tell events fresh_lane (at_start s)).got t

pub always_goes_on : AlwaysGoesOn
always_goes_on s events t tell = goes_on s (all_go s events fresh_lane) t (after_all s tell events fresh_lane (at_start s))

-- two tills of one series, of which the first has the row 5 and the second the row 7, and marks that are all alike
abbrev unmarked : LaneTills
unmarked = record {
  till = λ t. record { series = 1; start = 0; row = λ n. cond (t == 0) 5 7 };
  answer = λ row. row;
  mark = λ row. 0;
}

pub marks_are_needed : MarksAreNeeded
marks_are_needed = (unmarked, Submits 0 0 ∷ Works 0 ∷ Reads 1 0 ∷ Gives 1 ∷ [], 1, λ same. absurd (cc))
