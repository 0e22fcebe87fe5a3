-- Elements with days and times.
use Rattle.std.proofs.Common.{◌≡◌, ℕ, ◌≤◌, Bool, true, false, eqb, not, ◌&&◌, ◌||◌, List, [], ◌∷◌, length, take, drop, Option, Some, None, refl, sym, ap, subst, ◌∙◌, arith}
use Rattle.std.specs.Prelude.{is_some}
use Rattle.std.proofs.lemmas.Bool.{and_parts, ltb-false, not-true}
use Rattle.std.proofs.lemmas.List.{append-nil, drop_all, take_all}
use Rattle.element_core.specs.declared.part.Part.{Part}
use Rattle.element_core.specs.declared.part.Rule.{Rule}
use Rattle.element_core.specs.declared.part.Rule.TheVariants.{Free, DayOrMonth, Day, DayAndTime, DayOrMonthAndTime, DayPerhapsTime, OneOrTwoDays, LongDay, LongDayAndTime, NonZero, NoLeadingZero, PieceOfTotal, Position, Percent, Latitude, Longitude, Media, CompanyPrefix, ModelNumber}
use Rattle.element_core.specs.Times.{day_named_by, exact_day_of, is_named, names_day, names_second_day, names_time, time_named_by}
use Rattle.element_core.specs.Terms.{Terms, profile, rows_by}
use Rattle.element_core.specs.Table.{Row, every_row, begins, row_at, is_dated, is_7003_or_8008, greatest_of, have_one_length}
use Rattle.element_core.specs.inner.Table.{is_timed_exactly, parts_timed, rule_timed}
use Rattle.element_core.specs.inner.PartTests.{has_date}
use Rattle.element_core.specs.Elements.{DatedElements, IsElement, TimedElements, TimedInProfile, Entry, each_part, day_by, is_timed, parts_by, time_by}
use Rattle.element_core.proofs.TableLaws.{each_is_timed_exactly, parts_have_one_length}
use Rattle.element_core.proofs.TimeLemmas.{time_of-other}
use Rattle.element_core.proofs.Look.{all_at, begins-append, row_found, in_table, is_read}

-- what a rule does not say is not there
no_day : (rule : Rule) (v : List ℕ) (year : ℕ) → names_day rule ≡ false → day_named_by rule v year ≡ None
no_day Free v year e = refl
no_day DayOrMonth v year e = absurd cc
no_day Day v year e = absurd cc
no_day DayAndTime v year e = absurd cc
no_day DayOrMonthAndTime v year e = absurd cc
no_day DayPerhapsTime v year e = absurd cc
no_day OneOrTwoDays v year e = absurd cc
no_day LongDay v year e = absurd cc
no_day LongDayAndTime v year e = absurd cc
no_day NonZero v year e = refl
no_day NoLeadingZero v year e = refl
no_day PieceOfTotal v year e = refl
no_day Position v year e = refl
no_day Percent v year e = refl
no_day Latitude v year e = refl
no_day Longitude v year e = refl
no_day Media v year e = refl
no_day CompanyPrefix v year e = refl
no_day ModelNumber v year e = refl

no_time : (rule : Rule) (v : List ℕ) → names_time rule (length v) ≡ false → is_some (time_named_by rule v) ≡ false
no_time Free v e = refl
no_time DayOrMonth v e = refl
no_time Day v e = refl
no_time DayAndTime v e = absurd cc
no_time DayOrMonthAndTime v e = absurd cc
no_time DayPerhapsTime v e = rw (drop_all 6 v (ltb-false 6 (length v) e), time_of-other [] refl) refl
no_time OneOrTwoDays v e = refl
no_time LongDay v e = refl
no_time LongDayAndTime v e = absurd cc
no_time NonZero v e = refl
no_time NoLeadingZero v e = refl
no_time PieceOfTotal v e = refl
no_time Position v e = refl
no_time Percent v e = refl
no_time Latitude v e = refl
no_time Longitude v e = refl
no_time Media v e = refl
no_time CompanyPrefix v e = refl
no_time ModelNumber v e = refl

-- so it is there exactly where the rule says so
as_said : (said there : Bool) → (not said || there) ≡ true → (said ≡ false → there ≡ false) → there ≡ said
as_said true there h none = h
as_said false there h none = none refl

some_none : {A : Type 0} (o : Option A) → o ≡ None → is_some o ≡ false
some_none o e = rw e refl

record Named (year : ℕ) (parts : List Part) (v : List ℕ) : Type 0 where
  day : is_some (day_by year v parts) ≡ is_dated parts
  time : is_some (time_by v parts) ≡ is_timed parts (length v)

or_false : (b : Bool) → (b || false) ≡ b
or_false true = refl
or_false false = refl

one_part : (year : ℕ) (p : Part) (v : List ℕ) → is_named year p.rule v ≡ true → Named year (p ∷ []) v
one_part year p v h =
    let a = and_parts (not (names_day p.rule) || is_some (day_named_by p.rule v year))
    ((not (names_time p.rule (length v)) || is_some (time_named_by p.rule v))
    && (not (names_second_day p.rule (length v)) || is_some (exact_day_of (drop 6 v) year))) h in
    let b = and_parts (not (names_time p.rule (length v)) || is_some (time_named_by p.rule v))
    (not (names_second_day p.rule (length v)) || is_some (exact_day_of (drop 6 v) year)) a.1 in
    record {
      day = as_said (names_day p.rule) (is_some (day_named_by p.rule v year)) a.0 (λ e. some_none (day_named_by p.rule v year) (no_day p.rule v year e))
          ∙ sym (or_false (names_day p.rule));
      time = as_said (names_time p.rule (length v)) (is_some (time_named_by p.rule v)) b.0 (no_time p.rule v);
    }

undated : (p : Part) (parts : List Part) → names_day p.rule ≡ false → have_one_length (p ∷ parts) ≡ true → is_dated (p ∷ parts) ≡ false
undated p [] plain h = rw plain refl
undated p (q ∷ parts) plain h =
    let a = and_parts (eqb p.least p.greatest) (not (names_day p.rule) && (not (names_day q.rule) && have_one_length (q ∷ parts))) h in
    let b = and_parts (not (names_day p.rule)) (not (names_day q.rule) && have_one_length (q ∷ parts)) a.1 in
    let c = and_parts (not (names_day q.rule)) (have_one_length (q ∷ parts)) b.1 in
    rw plain (undated q parts (not-true (names_day q.rule) c.0) c.1)

named : (year : ℕ) (parts : List Part) (v : List ℕ) → have_one_length parts ≡ true → length v ≤ greatest_of parts → each_part (has_date year) parts v ≡ true
    → Named year parts v
named year [] v one short h = absurd (let o = one in cc)
named year (p ∷ []) v one short h =
    let whole : take p.greatest v ≡ v = take_all p.greatest v (omega arith) in
    let first = (and_parts (has_date year p (take p.greatest v)) true h).0 in
    one_part year p v (subst (λ (w : List ℕ). is_named year p.rule w ≡ true) whole first)
named year (p ∷ q ∷ parts) v one short h =
    let a = and_parts (eqb p.least p.greatest) (not (names_day p.rule) && (not (names_day q.rule) && have_one_length (q ∷ parts))) one in
    let b = and_parts (not (names_day p.rule)) (not (names_day q.rule) && have_one_length (q ∷ parts)) a.1 in
    record { day = sym (undated p (q ∷ parts) (not-true (names_day p.rule) b.0) one); time = refl }

-- an element by its row, found by its AI
element_named : (year : Terms) (row : Row) (e : Entry) → IsElement (rows_by year) year.year row e → (row_at e.ai ≡ Some row) × Named year.year row.parts e.value
element_named year row e is =
    let value = is.value in
    let front : begins row.ai e.ai ≡ true = ap (begins row.ai) (is.ai ∙ sym (append-nil row.ai)) ∙ begins-append row.ai [] in
    let one = all_at (λ r. have_one_length r.parts) every_row row (in_table year row is.listed) parts_have_one_length in
    (row_found row e.ai (in_table year row is.listed) front, named year.year row.parts e.value one value.greatest value.dates)

pub dated_elements : DatedElements
dated_elements = λ year row e is.
    let n = element_named year row e is in
    ap (λ (r : Option Row). is_some (day_by year.year e.value (parts_by r))) n.0 ∙ n.1.day

pub timed_elements : TimedElements
timed_elements = λ year row e is.
    let n = element_named year row e is in
    ap (λ (r : Option Row). is_some (time_by e.value (parts_by r))) n.0 ∙ n.1.time

timed_always : (timed : Bool) (rule : Rule) (count : ℕ) → rule_timed timed rule ≡ true → names_time rule count ≡ timed
timed_always true Free count h = absurd cc
timed_always true DayOrMonth count h = absurd cc
timed_always true Day count h = absurd cc
timed_always true DayAndTime count h = refl
timed_always true DayOrMonthAndTime count h = absurd cc
timed_always true DayPerhapsTime count h = absurd cc
timed_always true OneOrTwoDays count h = absurd cc
timed_always true LongDay count h = absurd cc
timed_always true LongDayAndTime count h = absurd cc
timed_always true NonZero count h = absurd cc
timed_always true NoLeadingZero count h = absurd cc
timed_always true PieceOfTotal count h = absurd cc
timed_always true Position count h = absurd cc
timed_always true Percent count h = absurd cc
timed_always true Latitude count h = absurd cc
timed_always true Longitude count h = absurd cc
timed_always true Media count h = absurd cc
timed_always true CompanyPrefix count h = absurd cc
timed_always true ModelNumber count h = absurd cc
timed_always false Free count h = refl
timed_always false DayOrMonth count h = refl
timed_always false Day count h = refl
timed_always false DayAndTime count h = absurd cc
timed_always false DayOrMonthAndTime count h = absurd cc
timed_always false DayPerhapsTime count h = absurd cc
timed_always false OneOrTwoDays count h = refl
timed_always false LongDay count h = refl
timed_always false LongDayAndTime count h = absurd cc
timed_always false NonZero count h = refl
timed_always false NoLeadingZero count h = refl
timed_always false PieceOfTotal count h = refl
timed_always false Position count h = refl
timed_always false Percent count h = refl
timed_always false Latitude count h = refl
timed_always false Longitude count h = refl
timed_always false Media count h = refl
timed_always false CompanyPrefix count h = refl
timed_always false ModelNumber count h = refl

timed_by_parts : (timed : Bool) (parts : List Part) (count : ℕ) → parts_timed timed parts ≡ true → is_timed parts count ≡ timed
timed_by_parts timed [] count h = sym (not-true timed h)
timed_by_parts timed (p ∷ []) count h = timed_always timed p.rule count h
timed_by_parts timed (p ∷ q ∷ parts) count h = sym (not-true timed h)

in_profile : (profile timed : Bool) → (not profile || timed) ≡ true → profile ≡ true → timed ≡ true
in_profile true timed h e = h
in_profile false timed h e = absurd cc

pub timed_in_profile : TimedInProfile
timed_in_profile = λ year row e is.
    let terms = profile year in
    let known : is_timed_exactly row ≡ true = all_at is_timed_exactly every_row row (in_table terms row is.listed) each_is_timed_exactly in
    timed_elements terms row e is ∙ timed_by_parts (is_7003_or_8008 row.ai) row.parts (length e.value)
    (in_profile row.profile (parts_timed (is_7003_or_8008 row.ai) row.parts) known (is_read (profile year) row is.listed))
