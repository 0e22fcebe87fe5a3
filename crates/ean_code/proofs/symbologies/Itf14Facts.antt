-- ITF-14: what is drawn and read of it, and what it owes.
use Rattle.std.proofs.Common.{◌≡◌, ℕ, suc, ◌+◌, ◌<◌, List, [], ◌∷◌, ◌++◌, length, take, drop, replicate, refl, sym, ap, ap₂, ◌∙◌, arith, get_or, ◌%◌, subst, eqb-true, zero, ◌*◌, ◌&&◌, ◌==◌, sum, reverse, ◌-◌, ◌≤◌}
use Rattle.std.proofs.Math.Seq.{take-add}
use Rattle.std.proofs.lemmas.Bool.{and_parts}
use Rattle.std.proofs.lemmas.List.{length-map, reverse-append, append_assoc, get_or-map, append-nil, map-append, take_all}
use Rattle.std.proofs.lemmas.List.Concat.{flat_map-append}
use Rattle.std.proofs.lemmas.List.Sums.{sum_by-append}
use Rattle.std.specs.List.{flat_map, AllByRecursion}
use Rattle.std.specs.Prelude.{slice_range}
use Rattle.digits_core.specs.Digits.{AreDigits, padded, AreAsciiDigits, digits_of}
use Rattle.ean_code.specs.Laws.{ReplacedDigitIsUnchecked}
use Rattle.ean_code.specs.Symbols.{IsNumberSymbol, widths_of}
use Rattle.ean_code.specs.TwoOfFive.{in_pairs, itf_stop, pair_widths, five_widths, in_turn, itf_start}
use Rattle.ean_code.specs.inner.TwoOfFive.{itf_widths}
use Rattle.ean_code.specs.Widths.{AreWidths}
use Rattle.ean_code.specs.declared.kind.Kind.TheVariants.{Itf14}
use Rattle.ean_code.specs.inner.Parts.{AreFramedPairs, IsTextOf}
use Rattle.ean_code.proofs.Cells.{AllByRecursion-append, all_below-at, cells, cells-flat_map, length-cells, cell_at}
use Rattle.ean_code.proofs.CountFacts.{Measures, joined}
use Rattle.ean_code.proofs.Drawn.{flat_map-take}
use Rattle.ean_code.proofs.Halves.{append_parts}
use Rattle.ean_code.proofs.ItfWidths.{IsPair, length-pair, length-pairs, pair_at, pair_code, pair_of_ten, pairs-append, pairs_valid, two_itf, two_valid, unpaired, unpaired-pairs}
use Rattle.ean_code.proofs.Owed.{Owes, measured}
use Rattle.ean_code.proofs.Replaced.{noticed_padded}
use Rattle.ean_code.proofs.Texts.{length-padded, AreDigits-shown}

pub padded_whole : (ds : List ℕ) → length ds ≡ 14 → padded ds ≡ ds
padded_whole ds e = let none : 14 - length ds ≡ 0 = omega arith in ap (λ n. replicate n 0 ++ ds) none

-- ---- what is drawn

pub pair_more : (text : List ℕ) (i : ℕ) → length text ≡ 14 → i < 7
    → flat_map pair_widths (take (i + 1) (in_pairs (digits_of text)))
    ≡ flat_map pair_widths (take i (in_pairs (digits_of text))) ++ pair_widths (get_or text (2 * i) 0 - 48, get_or text (2 * i + 1) 0 - 48)
pair_more text i n h =
    let ds : List ℕ = digits_of text in
    let long : length ds ≡ 14 = length-map text (λ b. b - 48) ∙ n in
    let pairs = length-pairs ds (ap (λ k. k % 2) long) in
    flat_map-take pair_widths (in_pairs ds) i (0, 0) (omega arith)
    ∙ ap (λ p. flat_map pair_widths (take i (in_pairs ds)) ++ pair_widths p)
    (pair_at ds i (omega arith) ∙ ap₂ (λ a b. (a, b)) (get_or-map (λ b. b - 48) text (2 * i) 0 0 (omega arith))
    (get_or-map (λ b. b - 48) text (2 * i + 1) 0 0 (omega arith)))

pub all_pairs : (text : List ℕ) (i : ℕ) → length text ≡ 14 → 7 ≤ i → take i (in_pairs (digits_of text)) ≡ in_pairs (digits_of text)
all_pairs text i n h =
    let long : length (digits_of text) ≡ 14 = length-map text (λ b. b - 48) ∙ n in
    let pairs = length-pairs (digits_of text) (ap (λ k. k % 2) long) in take_all i (in_pairs (digits_of text)) (omega arith)

-- ---- what is read

pub same_framed_pairs : (ws one two : List ℕ) → AreFramedPairs ws one → AreFramedPairs ws two → one ≡ two
same_framed_pairs ws one two h k = (append_parts one itf_stop two itf_stop (h.count ∙ sym k.count) (ap (drop 4) (sym h.shown ∙ k.shown))).0

pub framed_pairs_of : (ws ds : List ℕ) → IsNumberSymbol Itf14 ws ds → AreFramedPairs ws (flat_map pair_widths (in_pairs ds))
framed_pairs_of ws ds e =
    let pairs = length-pairs ds (ap (λ n. n % 2) e.count) in
    let n = e.count in
    let cells = length-cells IsPair 10 pair_widths pair_of_ten pair_code (in_pairs ds) (pairs_valid ds e.valid) in
    record { count = omega arith; shown = e.widths }

-- a symbol has a pair of digits at each ten of its widths
pub pair_shown : (ws tens ds : List ℕ) (i : ℕ) → AreFramedPairs ws tens → IsNumberSymbol Itf14 ws ds → i < 7
    → IsPair (get_or ds (2 * i) 0, get_or ds (2 * i + 1) 0) ×
    (pair_widths (get_or ds (2 * i) 0, get_or ds (2 * i + 1) 0) ≡ slice_range tens (10 * i) (10 * i + 10))
pair_shown ws tens ds i h e low =
    let n = e.count in
    let ps : List (ℕ × ℕ) = in_pairs ds in
    let valid : AllByRecursion IsPair ps = pairs_valid ds e.valid in
    let pairs = length-pairs ds (ap (λ n. n % 2) e.count) in
    let here : i < length ps = omega arith in
    let same = same_framed_pairs ws tens _ h (framed_pairs_of ws ds e) in
    let at = pair_at ds i (omega arith) in
    let ten : (10 * i + 10) - 10 * i ≡ 10 = omega arith in (
      subst IsPair at (valid_at ps i valid here),
      ap pair_widths (sym at)
          ∙ sym (cell_at IsPair 10 pair_widths length-pair ps i (0, 0) valid here)
          ∙ ap (λ m. take 10 (drop (10 * i) m)) (sym same)
          ∙ ap (λ k. take k (drop (10 * i) tens)) (sym ten),
    )
  where
    valid_at : (ps : List (ℕ × ℕ)) (i : ℕ) → AllByRecursion IsPair ps → i < length ps → IsPair (get_or ps i (0, 0))
    valid_at [] i v h = absurd (omega arith)
    valid_at (p ∷ ps) zero v h = v.0
    valid_at (p ∷ ps) (suc i) v h = valid_at ps i v.1 (omega arith)

ten_more : (tens : List ℕ) (i : ℕ) (ds : List ℕ) (a b : ℕ) → length ds % 2 ≡ 0 → flat_map pair_widths (in_pairs ds) ≡ take (10 * i) tens
    → pair_widths (a, b) ≡ slice_range tens (10 * i) (10 * i + 10) → flat_map pair_widths (in_pairs (ds ++ a ∷ b ∷ [])) ≡ take (10 * (i + 1)) tens
ten_more tens i ds a b even read found =
    let ten : (10 * i + 10) - 10 * i ≡ 10 = omega arith in
    let part : slice_range tens (10 * i) (10 * i + 10) ≡ take 10 (drop (10 * i) tens) = ap (λ n. take n (drop (10 * i) tens)) ten in
    let next : 10 * (i + 1) ≡ 10 * i + 10 = omega arith in
    ap (flat_map pair_widths) (pairs-append ds a b even)
    ∙ flat_map-append pair_widths (in_pairs ds) ((a, b) ∷ [])
    ∙ ap₂ (λ xs ys. xs ++ ys) read (append-nil (pair_widths (a, b)) ∙ found ∙ part)
    ∙ sym (take-add (10 * i) 10 tens)
    ∙ ap (λ n. take n tens) (sym next)

-- the text with two digits more
pub text_more : (tens text more : List ℕ) (i a b : ℕ) → length text ≡ 2 * i → flat_map pair_widths (in_pairs (digits_of text)) ≡ take (10 * i) tens
    → pair_widths (a, b) ≡ slice_range tens (10 * i) (10 * i + 10) → more ≡ text ++ (48 + a) ∷ (48 + b) ∷ []
    → flat_map pair_widths (in_pairs (digits_of more)) ≡ take (10 * (i + 1)) tens
text_more tens text more i a b n read found e =
    let one : (48 + a) - 48 ≡ a = omega arith in
    let two : (48 + b) - 48 ≡ b = omega arith in
    let long : length (digits_of text) ≡ 2 * i = length-map text (λ b. b - 48) ∙ n in
    ap (λ t. flat_map pair_widths (in_pairs (digits_of t))) e
    ∙ ap (λ ds. flat_map pair_widths (in_pairs ds)) (map-append (λ b. b - 48) text ((48 + a) ∷ (48 + b) ∷ [])
    ∙ ap₂ (λ x y. digits_of text ++ x ∷ y ∷ []) one two)
    ∙ ten_more tens i (digits_of text) a b (omega arith) read found

pub ascii_more : (text : List ℕ) (a b : ℕ) → AreAsciiDigits text → a < 10 → b < 10 → AreAsciiDigits (text ++ (48 + a) ∷ (48 + b) ∷ [])
ascii_more text a b v h k = AllByRecursion-append _ text _ v ((omega arith, omega arith), ((omega arith, omega arith), tt))

-- the whole text
pub found_itf14 : (ws tens text : List ℕ) (i : ℕ) → AreFramedPairs ws tens → length text ≡ 14 → 7 ≤ i → AreAsciiDigits text
    → flat_map pair_widths (in_pairs (digits_of text)) ≡ take (10 * i) tens → IsTextOf Itf14 ws text
found_itf14 ws tens text i h n all v read = (
  v,
  record {
    count = length-map text (λ b. b - 48) ∙ n;
    valid = AreDigits-shown text v;
    widths = h.shown ∙ ap (λ x. itf_start ++ (x ++ itf_stop)) (sym (read ∙ take_all (10 * i) tens (let c = h.count in omega arith)));
  },
)

-- no symbol is one backwards: its third width would be wide, and start has none
pub one_way : (ms ds es : List ℕ) → IsNumberSymbol Itf14 ms ds → IsNumberSymbol Itf14 (reverse ms) es → ⊥
one_way ms ds es e f =
    let tens : List ℕ = flat_map pair_widths (in_pairs ds) in
    let back : reverse ms ≡ reverse itf_stop ++ (reverse tens ++ reverse itf_start) = ap reverse e.widths ∙ turned_itf itf_start tens itf_stop in
    let third : get_or (reverse ms) 2 0 ≡ 3 = ap (λ ws. get_or ws 2 0) back in
    let first : get_or (reverse ms) 2 0 ≡ 1 = ap (λ ws. get_or ws 2 0) f.widths in
    cc
  where
    turned_itf : (g l h : List ℕ) → reverse (g ++ (l ++ h)) ≡ reverse h ++ (reverse l ++ reverse g)
    turned_itf g l h = simp (reverse-append, append_assoc)

-- the digits that modules show, if they show some
abbrev shown : List ℕ → List ℕ
shown ms = unpaired (cells 10 pair_of_ten 7 (drop 4 ms))

pub shown_is : (ms ds : List ℕ) → IsNumberSymbol Itf14 ms ds → shown ms ≡ ds
shown_is ms ds e =
    let even = ap (λ n. n % 2) e.count in
    let pairs = length-pairs ds even in
    let n = e.count in
    let seven : length (in_pairs ds) ≡ 7 = omega arith in
    ap shown e.widths
    ∙ ap (λ k. unpaired (cells 10 pair_of_ten k (flat_map pair_widths (in_pairs ds) ++ itf_stop))) (sym seven)
    ∙ ap unpaired (cells-flat_map IsPair 10 pair_widths pair_of_ten pair_code (in_pairs ds) itf_stop (pairs_valid ds e.valid))
    ∙ unpaired-pairs ds even

-- each digit of an ITF-14 has five widths of nine modules
abbrev IsNine : List ℕ → Type 0
IsNine widths = Measures widths 5 9

nine : (d : ℕ) → d < 10 → IsNine (five_widths d)
nine d h =
    let parts = and_parts _ _ (all_below-at (λ d. (length (five_widths d) == 5) && (sum (five_widths d) == 9)) 10 refl d h) in
    (eqb-true _ _ parts.0, eqb-true _ _ parts.1)

first_sum : (x : ℕ) (xs : List ℕ) → sum (x ∷ xs) ≡ x + sum xs
first_sum x xs = let alone : 0 + x ≡ x = omega arith in sum_by-append (λ x. x) (x ∷ []) xs ∙ ap (λ n. n + sum xs) alone

in_turn_measures : (xs ys : List ℕ) (n N M : ℕ) → Measures xs n N → Measures ys n M → Measures (in_turn xs ys) (n + n) (N + M)
in_turn_measures [] [] n N M p q = (omega (arith, p.0), omega (arith, p.1, q.1))
in_turn_measures [] (y ∷ ys) n N M p q = absurd (omega (arith, p.0, q.0))
in_turn_measures (x ∷ xs) [] n N M p q = absurd (omega (arith, p.0, q.0))
in_turn_measures (x ∷ xs) (y ∷ ys) n N M p q =
    let m = in_turn_measures xs ys (length xs) (sum xs) (sum ys) (refl, refl) (omega (arith, p.0, q.0), refl) in
    let one = first_sum x xs in
    let two = first_sum y ys in
    let rest = first_sum y (in_turn xs ys) in
    let both : sum (in_turn (x ∷ xs) (y ∷ ys)) ≡ x + sum (y ∷ in_turn xs ys) = first_sum x (y ∷ in_turn xs ys) in
    (omega (arith, p.0, m.0), omega (arith, p.1, q.1, m.1))

pairs_measures : (ps : List (ℕ × ℕ)) → AllByRecursion IsPair ps → Measures (flat_map pair_widths ps) (10 * length ps) (18 * length ps)
pairs_measures [] v = (refl, refl)
pairs_measures (p ∷ ps) v =
    let one = in_turn_measures (five_widths p.0) (five_widths p.1) 5 9 9 (nine p.0 v.0.0) (nine p.1 v.0.1) in
    let m = joined (pair_widths p) (flat_map pair_widths ps) 10 (10 * length ps) 18 (18 * length ps) one (pairs_measures ps v.1) in
    (m.0 ∙ (omega arith), m.1 ∙ (omega arith))

pub measures : (ms ds : List ℕ) → IsNumberSymbol Itf14 ms ds → Measures ms 77 135
measures ms ds symbol =
    let ps : List (ℕ × ℕ) = in_pairs ds in
    let twice = length-pairs ds (ap (λ n. n % 2) symbol.count) in
    let n = symbol.count in
    let tens : List ℕ = flat_map pair_widths ps in
    let m = pairs_measures ps (pairs_valid ds symbol.valid) in
    let start : Measures itf_start 4 4 = (refl, refl) in
    let stop : Measures itf_stop 3 5 = (refl, refl) in
    let end = joined tens itf_stop (10 * length ps) 3 (18 * length ps) 5 m stop in
    let all = joined itf_start (tens ++ itf_stop) 4 (10 * length ps + 3) 4 (18 * length ps + 5) start end in
    (ap length symbol.widths ∙ all.0 ∙ (omega arith), ap sum symbol.widths ∙ all.1 ∙ (omega arith))

replaced : ReplacedDigitIsUnchecked Itf14
replaced ds gtin other k d n v e c place small differs f o =
    let below = place.1 in noticed_padded ds gtin other k d v e c (omega arith) small differs f o

valid : (ds : List ℕ) → length ds ≡ 14 → AreDigits ds → AreWidths (widths_of Itf14 ds)
valid ds e v = two_valid (itf_widths ds) (two_itf ds v)

-- what it owes
pub owed : Owes Itf14
owed = record {
  measures = λ ms ds e. measured Itf14 ms ds e (valid ds e.count e.valid) (measures ms ds e);
  shown = shown;
  shown_is = shown_is;
  fourteen = λ ds e. length-padded ds (omega arith);
  one_way = one_way;
  replaced = replaced;
  printed = refl;
}
