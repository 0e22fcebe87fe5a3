-- The lines of each lane as deliveries are brought, the report of no rows, and texts that are joined (of specs/inner/AnswerLines).
use Rattle.std.proofs.Common.{◌+◌, ◌<◌, ◌++◌, ◌≡◌, ◌∙◌, ◌∷◌, All, Err, IfOk, List, Ok, OnOk, Result, [], ap, append_assoc, arith, get_or, length, map, refl, replicate, set, subst, suc, sym, zero, ℕ}
use Rattle.std.specs.List.{AllZip, concat}
use Rattle.std.proofs.lemmas.List.{append-nil, get_or-map, length-map, map-append, map-set}
use Rattle.std.proofs.lemmas.List.Elements.{All-head, All-rest}
use Rattle.std.proofs.lemmas.List.Folds.{concat-append}
use Rattle.std.proofs.lemmas.Slice.Zip.{AllZip-long, all_zipped_more}
use Rattle.scan_core.specs.Answers.{IsAnswer, Reads}
use Rattle.scan_core.specs.declared.answer.Answer.{Answer}
use Rattle.lane_core.specs.declared.job.Plain.{Plain}
use Rattle.hub_core.specs.Laws.{AreAnswersOf}
use Rattle.hub_core.specs.Traffics.{with_more}
use Rattle.command_runs.specs.inner.AnswerLines.{AreLinesOf}
use Rattle.command_runs.specs.answers.Reports.{IsReport, lane_lines, line_of, lines_from}
use Rattle.element_core.specs.Terms.{Terms}

-- one more line, as one_more_label of csv_records/proofs/print/LabelLinesGrow is of labels
one_more_line : (lane number : ℕ) (answers : List Answer) (a : Answer)
    → lines_from lane number (answers ++ a ∷ []) ≡ lines_from lane number answers ++ line_of lane (number + length answers) a
one_more_line lane number [] a =
    append-nil (line_of lane number a) ∙ ap (λ k. line_of lane k a) (omega arith)
one_more_line lane number (b ∷ answers) a =
    ap (λ t. line_of lane number b ++ t) (one_more_line lane (number + 1) answers a
    ∙ ap (λ k. lines_from lane (number + 1) answers ++ line_of lane k a) (omega arith))
    ∙ sym (append_assoc (line_of lane number b) (lines_from lane (number + 1) answers) (line_of lane (number + length (b ∷ answers)) a))

-- one more line at the end of the text of a lane is that of one more answer of the lane
line_at : (first : ℕ) (answers : List (List Answer)) (i : ℕ) (a : Answer) → i < length answers
    → set (lane_lines first answers) i (get_or (lane_lines first answers) i [] ++ line_of (first + i) (length (get_or answers i [])) a)
    ≡ lane_lines first (set answers i (get_or answers i [] ++ a ∷ []))
line_at first [] i a low = absurd (omega (arith, low))
line_at first (x ∷ rest) zero a low =
    ap (λ t. t ∷ lane_lines (first + 1) rest)
    (ap (λ k. lines_from first 0 x ++ line_of k (length x) a) (omega arith)
    ∙ (ap (λ k. lines_from first 0 x ++ line_of first k a) (omega arith) ∙ sym (one_more_line first 0 x a)))
line_at first (x ∷ rest) (suc i) a low =
    ap (λ t. lines_from first 0 x ∷ t)
    (ap (λ k. set (lane_lines (first + 1) rest) i (get_or (lane_lines (first + 1) rest) i [] ++ line_of k (length (get_or rest i [])) a)) (omega arith)
    ∙ line_at (first + 1) rest i a (omega (arith, low)))

-- what `AreAnswersOf` says of a delivery and its answer
abbrev IsAnswerTo : Plain → Answer → Type 0
IsAnswerTo = λ x answer. IsAnswer x.widths x.year answer

-- the answers are those of what was brought still (both lists are `with_more`, written out)
answered_more : (brought : List (List Plain)) (answers : List (List Answer)) (i : ℕ) (x : Plain) (a : Answer) → i < length brought → IsAnswer x.widths x.year a
    → AllZip AreAnswersOf brought answers
    → AllZip AreAnswersOf (set brought i (get_or brought i [] ++ x ∷ [])) (set answers i (get_or answers i [] ++ a ∷ []))
answered_more [] answers i x a low is was = absurd (omega (arith, low))
answered_more (xs ∷ brought) [] i x a low is was = absurd was
answered_more (xs ∷ brought) (ys ∷ answers) zero x a low is was = (all_zipped_more IsAnswerTo xs ys x a was.0 is, was.1)
answered_more (xs ∷ brought) (ys ∷ answers) (suc i) x a low is was = (was.0, answered_more brought answers i x a (omega (arith, low)) is was.1)

-- a lane was brought as many deliveries as it has answers
as_many : (brought : List (List Plain)) (answers : List (List Answer)) (i : ℕ) → AllZip AreAnswersOf brought answers → length (get_or brought i [])
    ≡ length (get_or answers i [])
as_many [] [] i was = refl
as_many [] (ys ∷ answers) i was = absurd was
as_many (xs ∷ brought) [] i was = absurd was
as_many (xs ∷ brought) (ys ∷ answers) zero was = omega (arith, AllZip-long IsAnswerTo xs ys was.0)
as_many (xs ∷ brought) (ys ∷ answers) (suc i) was = as_many brought answers i was.1

-- each lane has a text
lanes_long : (first : ℕ) (answers : List (List Answer)) → length (lane_lines first answers) ≡ length answers
lanes_long first [] = refl
lanes_long first (x ∷ rest) = ap suc (lanes_long (first + 1) rest)

-- a lane was brought one more
lines_more : (brought : List (List Plain)) (texts : List (List ℕ)) (new : List ℕ) (lane : ℕ) (x : Plain) (a : Answer)
    → lane < length brought → x.number ≡ length (get_or brought lane []) → IsAnswer x.widths x.year a → new ≡ get_or texts lane [] ++ line_of lane x.number a
    → AreLinesOf brought texts → AreLinesOf (with_more lane x brought) (set texts lane new)
lines_more brought texts new lane x a low number is line was =
    let answers = was.0 in
    let many : x.number ≡ length (get_or answers lane []) = number ∙ as_many brought answers lane was.1 in
    let long = AllZip-long AreAnswersOf brought answers was.1 in
    let next : new ≡ get_or (lane_lines 0 answers) lane [] ++ line_of (0 + lane) (length (get_or answers lane [])) a =
    line ∙ (ap (λ ts. get_or ts lane [] ++ line_of lane x.number a) was.2 ∙ (ap (λ k. get_or (lane_lines 0 answers) lane [] ++ line_of lane k a) many
    ∙ ap (λ k. get_or (lane_lines 0 answers) lane [] ++ line_of k (length (get_or answers lane [])) a) (omega arith))) in (
      set answers lane (get_or answers lane [] ++ a ∷ []),
      answered_more brought answers lane x a low is was.1,
      ap (λ ts. set ts lane new) was.2 ∙ (ap (set (lane_lines 0 answers) lane) next ∙ line_at 0 answers lane a (omega (arith, low, long))),
    )

-- as many texts as lanes
pub texts_long : {V : Type 0} (f : V → List ℕ) (vs : List V) (brought : List (List Plain)) → AreLinesOf brought (map f vs) → length vs ≡ length brought
texts_long f vs brought was = omega (arith, ap length was.2, lanes_long 0 was.0, AllZip-long AreAnswersOf brought was.0 was.1, length-map vs f)

-- a delivery was brought, and its line was pushed
pub lines_brought : {V E : Type 0} (f : V → List ℕ) (vs : List V) (i : ℕ) (v w : V) (r : Result (Unit {0}) E) (x : Plain) (l n : ℕ) → i ≡ x.lane
    → l ≡ x.lane → n ≡ x.number → v ≡ get_or vs i v
    → OnOk r ((a : Answer) × IsAnswer x.widths x.year a × (f w ≡ f v ++ line_of l n a))
    → IfOk r (λ _. (brought : List (List Plain)) → x.lane < length brought → x.number ≡ length (get_or brought x.lane []) → AreLinesOf brought (map f vs)
    → AreLinesOf (with_more x.lane x brought) (map f (set vs i w)))
lines_brought f vs i v w (Err e) x l n is lane same at told = tt
lines_brought f vs i v w (Ok u) x l n is lane same at told = λ brought low number was.
    let a = told.0 in
    let answers = told.1 in
    let pushed = told.2 in
    let long = AllZip-long AreAnswersOf brought was.0 was.1 in
    let there : length (map f vs) ≡ length was.0 = ap length was.2 ∙ lanes_long 0 was.0 in
    let here : get_or (map f vs) x.lane [] ≡ f v = ap (λ k. get_or (map f vs) k []) (sym is)
    ∙ (get_or-map f vs i v [] (omega (arith, low, is, long, there, length-map vs f)) ∙ ap f (sym at)) in
    let line : f w ≡ get_or (map f vs) x.lane [] ++ line_of x.lane x.number a =
    pushed ∙ (ap (λ k. f v ++ line_of k n a) lane ∙ (ap (λ m. f v ++ line_of x.lane m a) same ∙ ap (λ t. t ++ line_of x.lane x.number a) (sym here))) in
    subst (AreLinesOf (with_more x.lane x brought)) (sym (map-set f vs i w ∙ ap (λ k. set (map f vs) k (f w)) is))
    (lines_more brought (map f vs) (f w) x.lane x a low number answers line was)

-- no lane from a first one on was brought any
no_lines_from : (first n : ℕ) → (answers : List (List Answer)) × AllZip AreAnswersOf (replicate n []) answers × (replicate n [] ≡ lane_lines first answers)
no_lines_from first zero = ([], tt, refl)
no_lines_from first (suc n) = let rest = no_lines_from (first + 1) n in ([] ∷ rest.0, (tt, rest.1), ap (λ ts. [] ∷ ts) rest.2)

-- no lane was brought any
pub no_lines : (n : ℕ) (texts : List (List ℕ)) → texts ≡ replicate n [] → AreLinesOf (replicate n []) texts
no_lines n texts is = let none = no_lines_from 0 n in (none.0, none.1, is ∙ none.2)

-- the answers and the lines of no rows, from a first lane on
rowless_from : {V : Type 0} (f : V → List (List ℕ)) (year : Terms) (first : ℕ) (vs : List V) → All (λ v. f v ≡ []) vs
    → (answers : List (List Answer)) × AllZip (λ rows read. Reads rows year read) (map f vs) answers × ([] ≡ concat (lane_lines first answers))
rowless_from f year first [] none = ([], tt, refl)
rowless_from {V} f year first (v ∷ vs) none =
    let P : V → Type 0 = λ v. f v ≡ [] in
    let here = All-head P v vs none in
    let rest = rowless_from f year (first + 1) vs (All-rest P v vs (v ∷ vs) refl none) in
    ([] ∷ rest.0, (rw here tt, rest.1), rest.2)

-- the report of no rows
pub rowless : {V : Type 0} (f : V → List (List ℕ)) (year : Terms) (vs : List V) (text : List ℕ) → All (λ v. f v ≡ []) vs → text ≡ [] → IsReport year (map f vs) text
rowless f year vs text none is = let all = rowless_from f year 0 vs none in (all.0, all.1, is ∙ all.2)

-- texts joined, and one more
pub joined_more : {X : Type 0} (f : X → List ℕ) (ts : List X) (t : X) → concat (map f (ts ++ t ∷ [])) ≡ concat (map f ts) ++ f t
joined_more f ts t = ap concat (map-append f ts (t ∷ [])) ∙ concat-append (map f ts) (f t ∷ []) ∙ ap (λ u. concat (map f ts) ++ u) (append-nil (f t))
