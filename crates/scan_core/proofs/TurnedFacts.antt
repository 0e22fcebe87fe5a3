-- A row with its runs in reverse is a row, and has the same answer.
use Rattle.std.proofs.Common.{◌≡◌, ℕ, ◌+◌, ◌-◌, ◌<◌, ◌≤◌, true, List, [], ◌∷◌, length, drop, min, reverse, sum, Contains, Result, Ok, Err, sym, ap, subst, ◌∙◌, inl, inr, arith, get_or}
use Rattle.std.specs.List.{AllByRecursion}
use Rattle.std.proofs.lemmas.Bool.{cases_lt}
use Rattle.std.proofs.lemmas.List.{ext_get_or, get_or-drop, get_or-reverse, get_or-take, length-drop, length-reverse, length-take, reverse-append, reverse-reverse}
use Rattle.scan_core.specs.declared.carrier.Carrier.{Carrier}
use Rattle.scan_core.specs.declared.stage.Stage.{Stage}
use Rattle.scan_core.specs.declared.stage.Stage.TheVariants as stages
use Rattle.scan_core.specs.declared.fault.RowFault.{RowFault}
use Rattle.scan_core.specs.declared.fault.RowFault.TheVariants.{Blank, RunCount, QuietZone, Modules, Pattern, SymbolCheckDigit, Code128, Elements}
use Rattle.scan_core.specs.declared.answer.Answer.{Answer}
use Rattle.scan_core.specs.declared.answer.Answer.TheVariants.{Read, Refused}
use Rattle.scan_core.specs.Row.{IsRow, dots_of, inner}
use Rattle.scan_core.specs.Showing.{HasSize, IsQuiet, Rounds, Shows, Way, along, kind_of}
use Rattle.scan_core.specs.Showing.Way.{Forwards, Backwards}
use Rattle.scan_core.specs.Answers.{ComesTo, IsAnswer, IsRefused, Tells, every_carrier}
use Rattle.scan_core.proofs.RowFacts.{each-push, has_dark, has_no_dark}
use Rattle.element_core.specs.Terms.{Terms}
use Rattle.scan_core.proofs.WayFacts.{sum-reverse}

-- ---- rows

inner-reverse : (runs : List ℕ) → inner (reverse runs) ≡ reverse (inner runs)
inner-reverse runs =
    let n = length-reverse runs in
    let long : length (inner runs) ≡ length runs - 2 =
    length-take (length runs - 2) (drop 1 runs) ∙ ap (min (length runs - 2)) (length-drop 1 runs) ∙ (omega arith) in
    let other : length (inner (reverse runs)) ≡ length runs - 2 =
    length-take (length (reverse runs) - 2) (drop 1 (reverse runs)) ∙ ap (min (length (reverse runs) - 2)) (length-drop 1 (reverse runs)) ∙ (omega arith) in
    let count : length (inner (reverse runs)) ≡ length (reverse (inner runs)) = other ∙ sym long ∙ sym (length-reverse (inner runs)) in
    ext_get_or 0 (inner (reverse runs)) (reverse (inner runs)) count (λ i h.
    let low : i < length runs - 2 = omega arith in
    get_or-take (length (reverse runs) - 2) (drop 1 (reverse runs)) i 0 (omega arith)
    ∙ get_or-drop 1 (reverse runs) i 0
    ∙ get_or-reverse runs (1 + i) 0 (omega arith)
    ∙ ap (λ k. get_or runs k 0) (let e : length runs - 1 - (1 + i) ≡ 1 + (length (inner runs) - 1 - i) = omega arith in e)
    ∙ sym (get_or-drop 1 runs (length (inner runs) - 1 - i) 0)
    ∙ sym (get_or-take (length runs - 2) (drop 1 runs) (length (inner runs) - 1 - i) 0 (omega arith))
    ∙ sym (get_or-reverse (inner runs) i 0 (omega arith)))

each-reverse : (P : ℕ → Type 0) (ws : List ℕ) → AllByRecursion P ws → AllByRecursion P (reverse ws)
each-reverse P [] each = tt
each-reverse P (w ∷ ws) each = rw (reverse-append (w ∷ []) ws) (each-push P (reverse ws) w (each-reverse P ws each.1) each.0)

pub IsRow-reverse : (runs : List ℕ) → IsRow runs → IsRow (reverse runs)
IsRow-reverse runs row = record {
  odd_number = rw (length-reverse runs) row.odd_number;
  each_inner = rw (inner-reverse runs) (each-reverse (λ w. 1 ≤ w) (inner runs) row.each_inner);
  at_most = rw (sum-reverse runs) row.at_most;
}

-- ---- symbols

-- the way to read a row that is turned
abbrev other_way : Way → Way
other_way Forwards = Backwards
other_way Backwards = Forwards

along_turned : (way : Way) (runs : List ℕ) → along way (inner (reverse runs)) ≡ along (other_way way) (inner runs)
along_turned Forwards runs = inner-reverse runs
along_turned Backwards runs = ap reverse (inner-reverse runs) ∙ reverse-reverse (inner runs)

along_other : (way : Way) (runs : List ℕ) → along (other_way way) (inner (reverse runs)) ≡ along way (inner runs)
along_other Forwards runs = along_turned Backwards runs
along_other Backwards runs = along_turned Forwards runs

count_turned : (runs : List ℕ) → length (inner (reverse runs)) ≡ length (inner runs)
count_turned runs = ap length (inner-reverse runs) ∙ length-reverse (inner runs)

quiet_turned : (runs : List ℕ) (N : ℕ) → 0 < length runs → IsQuiet runs N → IsQuiet (reverse runs) N
quiet_turned runs N some quiet =
    let n = length-reverse runs in
    let total : sum (inner (reverse runs)) ≡ sum (inner runs) = ap sum (inner-reverse runs) ∙ sum-reverse (inner runs) in
    let first : get_or (reverse runs) 0 0 ≡ get_or runs (length runs - 1) 0 =
    get_or-reverse runs 0 0 some ∙ ap (λ k. get_or runs k 0) (let e : length runs - 1 - 0 ≡ length runs - 1 = omega arith in e) in
    let last : get_or (reverse runs) (length (reverse runs) - 1) 0 ≡ get_or runs 0 0 =
    get_or-reverse runs (length (reverse runs) - 1) 0 (omega arith)
    ∙ ap (λ k. get_or runs k 0) (let e : length runs - 1 - (length (reverse runs) - 1) ≡ 0 = omega arith in e) in
    record { left = rw (total, first) quiet.right; right = rw (total, last) quiet.left }

module _ (runs : List ℕ) (some : 0 < length runs) where
  shows_turned : (c : Carrier) (w : Way) (ms : List ℕ) → Shows runs c w ms → Shows (reverse runs) c (other_way w) ms
  shows_turned c w ms s = record {
    N = s.N;
    candidate = subst (λ n. HasSize (kind_of c) n s.N) (sym (count_turned runs)) s.candidate;
    quiet = quiet_turned runs s.N some s.quiet;
    rounds = subst (λ ws. Rounds ws s.N ms) (sym (along_other w runs)) s.rounds;
    form = s.form;
  }

  size_turned : (c : Carrier) (N : ℕ) → HasSize (kind_of c) (length (inner runs)) N → HasSize (kind_of c) (length (inner (reverse runs))) N
  size_turned c N h = subst (λ n. HasSize (kind_of c) n N) (sym (count_turned runs)) h

  comes_turned : (f : Stage) → ComesTo every_carrier runs f → ComesTo every_carrier (reverse runs) f
  comes_turned stages.QuietZone a = (a.0, a.1, size_turned a.0 a.1 a.2)
  comes_turned stages.Modules a = (a.0, a.1, (size_turned a.0 a.1 a.2.0, quiet_turned runs a.1 some a.2.1))
  comes_turned stages.Pattern a = (
    a.0,
    a.1,
    (
      size_turned a.0 a.1 a.2.0,
      quiet_turned runs a.1 some a.2.1,
      other_way a.2.2,
      a.2.3,
      subst (λ ws. Rounds ws a.1 a.2.3) (sym (along_other a.2.2 runs)) a.2.4,
    ),
  )

  tells_turned : (c : Carrier) (x : Result (List ℕ) RowFault) → Tells runs c x → Tells (reverse runs) c x
  tells_turned c x t = (other_way t.0, t.1, shows_turned c t.0 t.1 t.2, t.3)

-- ---- answers

dark_turned : (runs : List ℕ) → IsRow runs → Contains (dots_of runs) true → Contains (dots_of (reverse runs)) true
dark_turned runs row dark =
    let turned = IsRow-reverse runs row in
    let odd = turned.odd_number in
    let n = length-reverse runs in
    elim (cases_lt 1 (length (reverse runs))) [
      | inl many ↦ has_dark (reverse runs) turned many
      | inr few ↦ absurd (has_no_dark runs (omega arith) dark)
    ]

module _ (runs : List ℕ) (row : IsRow runs) where
  not_empty : 0 < length runs
  not_empty = let odd = row.odd_number in omega arith

  not_empty_turned : 0 < length (reverse runs)
  not_empty_turned = let n = length-reverse runs in let some = not_empty in omega arith

  comes_back : (f : Stage) → ComesTo every_carrier (reverse runs) f → ComesTo every_carrier runs f
  comes_back f a = subst (λ ws. ComesTo every_carrier ws f) (reverse-reverse runs) (comes_turned (reverse runs) not_empty_turned f a)

  shows_back : (c : Carrier) (w : Way) (ms : List ℕ) → Shows (reverse runs) c w ms → Shows runs c (other_way w) ms
  shows_back c w ms s = subst (λ ws. Shows ws c (other_way w) ms) (reverse-reverse runs) (shows_turned (reverse runs) not_empty_turned c w ms s)

  refused_turned : (year : Terms) (f : RowFault) → IsRefused runs year f → IsRefused (reverse runs) year f
  refused_turned year Blank light = λ dark.
      light (subst (λ ws. Contains (dots_of ws) true) (reverse-reverse runs) (dark_turned (reverse runs) (IsRow-reverse runs row) dark))
  refused_turned year RunCount a = (dark_turned runs row a.0, λ h. a.1 (comes_back stages.QuietZone h))
  refused_turned year QuietZone a = (comes_turned runs not_empty stages.QuietZone a.0, λ h. a.1 (comes_back stages.Modules h))
  refused_turned year Modules a = (comes_turned runs not_empty stages.Modules a.0, λ h. a.1 (comes_back stages.Pattern h))
  refused_turned year Pattern a = (comes_turned runs not_empty stages.Pattern a.0, λ c w ms s. a.1 c (other_way w) ms (shows_back c w ms s))
  refused_turned year SymbolCheckDigit a = (a.0, tells_turned runs not_empty a.0 (Err SymbolCheckDigit) a.1)
  refused_turned year (Code128 fault) a = (a.0, tells_turned runs not_empty a.0 (Err (Code128 fault)) a.1)
  refused_turned year (Elements fault) a = (a.0, a.1, tells_turned runs not_empty a.0 (Ok a.1) a.2, a.3)

  pub turned_row : (year : Terms) (x : Answer) → IsAnswer runs year x → IsAnswer (reverse runs) year x
  turned_row year (Read c listing) a = (a.0, tells_turned runs not_empty c (Ok a.0) a.1, a.2, a.3)
  turned_row year (Refused fault) a = refused_turned year fault a
