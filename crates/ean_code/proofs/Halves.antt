-- The parts that a symbol is read by, from its widths and to them.
use Rattle.std.proofs.Common.{◌≡◌, ℕ, ◌*◌, true, List, [], ◌∷◌, ◌++◌, length, take, drop, refl, sym, ap, ap₂, subst, ◌∙◌, arith}
use Rattle.std.specs.List.{flat_map, AllByRecursion, list_all}
use Rattle.std.proofs.lemmas.List.{length-map, take_at, drop_at}
use Rattle.ean_code.specs.declared.number_sets.Character.{Character}
use Rattle.ean_code.specs.inner.NumberSets.{AreCharacters, character_digits, is_a}
use Rattle.ean_code.specs.NumberSets.{left_widths, right_widths, right_part}
use Rattle.ean_code.specs.inner.Parts.{AreFramed, AreFramedSix, AreHalves, AreSix}
use Rattle.ean_code.specs.Guards.{normal_guard, centre_guard, special_guard}
use Rattle.ean_code.specs.inner.Parts.{two_halves}
use Rattle.ean_code.specs.Widths.{AreWidths}
use Rattle.ean_code.proofs.Cells.{halves_are, length-cells}
use Rattle.ean_code.proofs.Characters.{left_char, left_code, right_code, right_digit}
use Rattle.ean_code.proofs.Joined.{AreDigits-characters, rights-of_a, same_characters}

-- lists joined of parts of the same lengths have the same parts
pub append_parts : (xs ys us vs : List ℕ) → length xs ≡ length us → xs ++ ys ≡ us ++ vs → (xs ≡ us) × (ys ≡ vs)
append_parts xs ys us vs l e = (
  sym (take_at xs ys (length us) l) ∙ ap (take (length us)) e ∙ take_at us vs (length us) refl,
  sym (drop_at xs ys (length us) l) ∙ ap (drop (length us)) e ∙ drop_at us vs (length us) refl,
)

AllByRecursion-parts : (P : ℕ → Type 0) (xs ys : List ℕ) → AllByRecursion P (xs ++ ys) → AllByRecursion P xs × AllByRecursion P ys
AllByRecursion-parts P [] ys h = (tt, h)
AllByRecursion-parts P (x ∷ xs) ys h = let rest = AllByRecursion-parts P xs ys h.1 in ((h.0, rest.0), rest.1)

-- either half has widths of a symbol's
pub framed_valid : (half : ℕ) (ws l r : List ℕ) → AreFramed half ws l r → AreWidths ws → AreWidths l × AreWidths r
framed_valid half ws l r h v =
    let all : AreWidths (normal_guard ++ (l ++ (centre_guard ++ (r ++ normal_guard)))) = subst AreWidths (h.shown ∙ halves_are l r) v in
    let one = AllByRecursion-parts _ normal_guard (l ++ (centre_guard ++ (r ++ normal_guard))) all in
    let two = AllByRecursion-parts _ l (centre_guard ++ (r ++ normal_guard)) one.1 in
    let three = AllByRecursion-parts _ centre_guard (r ++ normal_guard) two.1 in (two.0, (AllByRecursion-parts _ r normal_guard three.1).0)

pub length-lefts : (cs : List Character) (n : ℕ) → AreCharacters cs → length cs ≡ n → length (flat_map left_widths cs) ≡ 4 * n
length-lefts cs n v e = length-cells _ 4 left_widths left_char left_code cs v ∙ (omega arith)

-- the widths of this many characters on either side
pub framed_of : (n : ℕ) (ws : List ℕ) (ls : List Character) (rs : List ℕ) → AreHalves n ws ls rs
    → AreFramed (4 * n) ws (flat_map left_widths ls) (right_part rs)
framed_of n ws ls rs h = record {
  left_count = length-lefts ls n h.left_valid h.left_count;
  right_count = length-cells _ 4 right_widths right_digit right_code rs h.right_valid ∙ ap (λ k. k * 4) h.right_count ∙ (omega arith);
  shown = h.shown;
}

pub same_framed : (half : ℕ) (ws l r m q : List ℕ) → AreFramed half ws l r → AreFramed half ws m q → (l ≡ m) × (r ≡ q)
same_framed half ws l r m q h k =
    let one = append_parts l (centre_guard ++ (r ++ normal_guard)) m (centre_guard ++ (q ++ normal_guard)) (h.left_count ∙ sym k.left_count)
    (ap (drop 3) (sym (halves_are l r) ∙ sym h.shown ∙ k.shown ∙ halves_are m q)) in
    let two = append_parts r normal_guard q normal_guard (h.right_count ∙ sym k.right_count) (ap (drop 5) one.1) in (one.0, two.0)

pub found_halves : (n : ℕ) (ws l r : List ℕ) (ls rs : List Character) → AreFramed (4 * n) ws l r → AreCharacters ls → flat_map left_widths ls ≡ l
    → AreCharacters rs → flat_map left_widths rs ≡ r
    → list_all (λ c. is_a c.set) rs ≡ true → AreHalves n ws ls (character_digits rs)
found_halves n ws l r ls rs h lv le rv re a =
    let lc = length-cells _ 4 left_widths left_char left_code ls lv in
    let rc = length-cells _ 4 left_widths left_char left_code rs rv in
    let ll = h.left_count in
    let rl = h.right_count in
    let la = ap length le in
    let ra = ap length re in
    record {
      left_count = omega arith;
      right_count = length-map rs _ ∙ (omega arith);
      left_valid = lv;
      right_valid = AreDigits-characters rs rv;
      shown = h.shown ∙ ap₂ two_halves (sym le) (sym re ∙ rights-of_a rs a);
    }

-- the characters at the left are determined
pub same_left : (n : ℕ) (ws : List ℕ) (ls ks : List Character) (rs qs : List ℕ) → AreHalves n ws ls rs → AreHalves n ws ks qs → ls ≡ ks
same_left n ws ls ks rs qs h k =
    same_characters ls ks h.left_valid k.left_valid (same_framed (4 * n) ws _ _ _ _ (framed_of n ws ls rs h) (framed_of n ws ks qs k)).0

-- the widths of the six characters of a UPC-E
pub six_valid : (ws six : List ℕ) → AreFramedSix ws six → AreWidths ws → AreWidths six
six_valid ws six h v =
    let all : AreWidths (normal_guard ++ (six ++ special_guard)) = subst AreWidths h.shown v in
    let one = AllByRecursion-parts _ normal_guard (six ++ special_guard) all in (AllByRecursion-parts _ six special_guard one.1).0

pub framed_six_of : (ws : List ℕ) (cs : List Character) → AreSix ws cs → AreFramedSix ws (flat_map left_widths cs)
framed_six_of ws cs h = record { count = length-lefts cs 6 h.valid h.count; shown = h.shown }

pub same_framed_six : (ws six other : List ℕ) → AreFramedSix ws six → AreFramedSix ws other → six ≡ other
same_framed_six ws six other h k = (append_parts six special_guard other special_guard (h.count ∙ sym k.count) (ap (drop 3) (sym h.shown ∙ k.shown))).0

pub found_six : (ws six : List ℕ) (cs : List Character) → AreFramedSix ws six → AreCharacters cs → flat_map left_widths cs ≡ six → AreSix ws cs
found_six ws six cs h v e =
    let lc = length-cells _ 4 left_widths left_char left_code cs v in
    let n = h.count in
    let la = ap length e in
    record { count = omega arith; valid = v; shown = h.shown ∙ ap (λ x. normal_guard ++ (x ++ special_guard)) (sym e) }

pub same_six : (ws : List ℕ) (ls ks : List Character) → AreSix ws ls → AreSix ws ks → ls ≡ ks
same_six ws ls ks h k = same_characters ls ks h.valid k.valid (same_framed_six ws _ _ (framed_six_of ws ls h) (framed_six_of ws ks k))
