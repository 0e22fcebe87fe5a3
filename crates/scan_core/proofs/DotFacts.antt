-- A row's dots: they determine its runs, and turn as these do.
use Rattle.std.proofs.Common.{◌≡◌, ◌⊎◌, ℕ, zero, suc, ◌+◌, ◌-◌, ◌%◌, ◌<◌, ◌≤◌, Bool, true, false, not, IsTrue, List, [], ◌∷◌, ◌++◌, length, take, reverse, replicate, refl, sym, ap, ap₂, subst, ◌∙◌, inl, inr, add-one, arith}
use Rattle.std.specs.List.{AllByRecursion}
use Rattle.std.proofs.lemmas.List.{append_assoc, append-nil, length-reverse, replicate_more, reverse-append}
use Rattle.scan_core.specs.Row.{IsRow, dots_from, dots_of}
use Rattle.scan_core.specs.inner.Cutting.{colour}

-- what may come after a run of this colour: the last is light, and each but the last has a dot
abbrev After : Bool → List ℕ → Type 0
After dark [] = IsTrue (not dark)
After dark (w ∷ ws) = ((0 < w) ⊎ (ws ≡ [])) × After (not dark) ws

-- what comes next has another colour, or nothing comes
turns : (dark : Bool) (ws : List ℕ) → After dark ws → (ds : List Bool) → dots_from (not dark) ws ≡ dark ∷ ds → ⊥
turns true [] h ds e = cc
turns false [] h ds e = cc
turns true (zero ∷ []) h ds e = cc
turns false (zero ∷ []) h ds e = cc
turns true (zero ∷ x ∷ ws) h ds e = elim h.0 [ inl some ↦ omega arith | inr last ↦ cc ]
turns false (zero ∷ x ∷ ws) h ds e = elim h.0 [ inl some ↦ omega arith | inr last ↦ cc ]
turns true (suc w ∷ ws) h ds e = cc
turns false (suc w ∷ ws) h ds e = cc

-- of two rows that go on alike the first runs are alike
same_width : (dark : Bool) (v w : ℕ) (vs ws : List ℕ) → After dark vs → After dark ws
    → replicate v dark ++ dots_from (not dark) vs ≡ replicate w dark ++ dots_from (not dark) ws
    → (v ≡ w) × (dots_from (not dark) vs ≡ dots_from (not dark) ws)
same_width dark zero zero vs ws h k e = (refl, e)
same_width dark zero (suc w) vs ws h k e = absurd (turns dark vs h _ e)
same_width dark (suc v) zero vs ws h k e = absurd (turns dark ws k _ (sym e))
same_width dark (suc v) (suc w) vs ws h k e =
    let tails : replicate v dark ++ dots_from (not dark) vs ≡ replicate w dark ++ dots_from (not dark) ws = cc in
    let rest = same_width dark v w vs ws h k tails in
    (ap suc rest.0, rest.1)

-- nothing left is one row alone
nothing : (dark : Bool) (w : ℕ) (ws : List ℕ) → After dark [] → After dark (w ∷ ws) → [] ≡ dots_from (not dark) (w ∷ ws) → ⊥
nothing true w ws h k e = cc
nothing false (suc w) ws h k e = cc
nothing false zero [] h k e = let last = k.1 in cc
nothing false zero (x ∷ ws) h k e = elim k.0 [ inl some ↦ omega arith | inr last ↦ cc ]

same_rest : (dark : Bool) (vs ws : List ℕ) → After dark vs → After dark ws → dots_from (not dark) vs ≡ dots_from (not dark) ws → vs ≡ ws
same_rest dark [] [] h k e = refl
same_rest dark [] (w ∷ ws) h k e = absurd (nothing dark w ws h k e)
same_rest dark (v ∷ vs) [] h k e = absurd (nothing dark v vs k h (sym e))
same_rest dark (v ∷ vs) (w ∷ ws) h k e =
    let both = same_width (not dark) v w vs ws h.1 k.1 e in
    ap₂ (λ x xs. x ∷ xs) both.0 (same_rest (not dark) vs ws h.1 k.1 both.1)

pub even_colour : (dark : Bool) (n : ℕ) → n % 2 ≡ 0 → colour dark n ≡ dark
even_colour dark zero e = refl
even_colour dark (suc zero) e = absurd (omega arith)
even_colour true (suc (suc n)) e = even_colour true n (omega arith)
even_colour false (suc (suc n)) e = even_colour false n (omega arith)

-- the runs after the first of a row, of which all but the last have dots
abbrev pub HaveDots : List ℕ → Type 0
HaveDots ws = AllByRecursion (λ w. 1 ≤ w) (take (length ws - 1) ws)

pub rest_have : (w x : ℕ) (ws : List ℕ) → HaveDots (w ∷ x ∷ ws) → (1 ≤ w) × HaveDots (x ∷ ws)
rest_have w x ws each =
    let n : length (w ∷ x ∷ ws) - 1 ≡ suc (length ws) = omega arith in
    let m : length ws ≡ length (x ∷ ws) - 1 = omega arith in
    let both = subst (λ k. AllByRecursion (λ w. 1 ≤ w) (take k (w ∷ x ∷ ws))) n each in
    (both.0, subst (λ k. AllByRecursion (λ w. 1 ≤ w) (take k (x ∷ ws))) m both.1)

after_of : (dark : Bool) (ws : List ℕ) → IsTrue (not (colour dark (length ws))) → HaveDots ws → After dark ws
after_of dark [] last each = last
after_of dark (w ∷ []) last each = (inr refl, last)
after_of dark (w ∷ x ∷ ws) last each =
    let rest = rest_have w x ws each in (inl rest.0, after_of (not dark) (x ∷ ws) last rest.1)

-- what follows the first run of a row
after_first : (v : ℕ) (vs : List ℕ) → IsRow (v ∷ vs) → After false vs
after_first v vs row =
    let odd = row.odd_number in
    let even : length vs % 2 ≡ 0 = omega arith in
    let same : length (v ∷ vs) - 2 ≡ length vs - 1 = omega arith in
    after_of false vs (ap not (even_colour false (length vs) even)) (subst (λ n. AllByRecursion (λ w. 1 ≤ w) (take n vs)) same row.each_inner)

pub dots_determine : (a b : List ℕ) → IsRow a → IsRow b → dots_of a ≡ dots_of b → a ≡ b
dots_determine [] b h k e = let odd = h.odd_number in absurd (omega arith)
dots_determine (v ∷ vs) [] h k e = let odd = k.odd_number in absurd (omega arith)
dots_determine (v ∷ vs) (w ∷ ws) h k e =
    let both = same_width false v w vs ws (after_first v vs h) (after_first w ws k) e in
    ap₂ (λ x xs. x ∷ xs) both.0 (same_rest false vs ws (after_first v vs h) (after_first w ws k) both.1)

-- ---- one more run, one more dot

colour_turns : (dark : Bool) (n : ℕ) → colour (not dark) n ≡ not (colour dark n)
colour_turns dark zero = refl
colour_turns dark (suc n) = colour_turns (not dark) n

pub colour_more : (dark : Bool) (n : ℕ) → colour dark (n + 1) ≡ not (colour dark n)
colour_more dark n = rw add-one (colour_turns dark n)

pub dots_from-push : (dark : Bool) (ws : List ℕ) (w : ℕ) → dots_from dark (ws ++ w ∷ []) ≡ dots_from dark ws ++ replicate w (colour dark (length ws))
dots_from-push dark [] w = append-nil (replicate w dark)
dots_from-push dark (x ∷ ws) w =
    ap (λ ds. replicate x dark ++ ds) (dots_from-push (not dark) ws w)
    ∙ sym (append_assoc (replicate x dark) (dots_from (not dark) ws) (replicate w (colour (not dark) (length ws))))

-- ---- a row from its other end

same_not : (a b : Bool) → not a ≡ not b → a ≡ b
same_not true true e = refl
same_not true false e = sym e
same_not false true e = sym e
same_not false false e = refl

reverse-replicate : (n : ℕ) (d : Bool) → reverse (replicate n d) ≡ replicate n d
reverse-replicate zero d = refl
reverse-replicate (suc n) d =
    reverse-append (d ∷ []) (replicate n d)
    ∙ ap (λ ds. ds ++ d ∷ []) (reverse-replicate n d)
    ∙ replicate_more n d
    ∙ ap (λ k. replicate k d) (let e : n + 1 ≡ suc n = omega arith in e)

-- where the run after the last would have the first's other colour the other way
dots_from-reverse : (c dark : Bool) (ws : List ℕ) → colour c (length ws) ≡ not dark → dots_from c (reverse ws) ≡ reverse (dots_from dark ws)
dots_from-reverse c dark [] e = refl
dots_from-reverse c dark (w ∷ ws) e =
    let before : colour c (length ws) ≡ dark = same_not (colour c (length ws)) dark (sym (colour_turns c (length ws)) ∙ e) in
    let twice : dark ≡ not (not dark) = not_not dark in
    let count : colour c (length (reverse ws)) ≡ dark = ap (colour c) (length-reverse ws) ∙ before in
    ap (dots_from c) (reverse-append (w ∷ []) ws)
    ∙ dots_from-push c (reverse ws) w
    ∙ ap₂ (λ ds d. ds ++ replicate w d) (dots_from-reverse c (not dark) ws (before ∙ twice)) count
    ∙ ap (λ ds. reverse (dots_from (not dark) ws) ++ ds) (sym (reverse-replicate w dark))
    ∙ sym (reverse-append (replicate w dark) (dots_from (not dark) ws))
  where
    not_not : (a : Bool) → a ≡ not (not a)
    not_not true = refl
    not_not false = refl

odd_colour : (n : ℕ) → n % 2 ≡ 1 → colour false n ≡ true
odd_colour zero e = absurd (omega arith)
odd_colour (suc zero) e = refl
odd_colour (suc (suc n)) e = odd_colour n (omega arith)

-- the dots of a turned row are turned
pub turned_dots : (runs : List ℕ) → IsRow runs → dots_of (reverse runs) ≡ reverse (dots_of runs)
turned_dots runs row = dots_from-reverse false false runs (odd_colour (length runs) row.odd_number)
