-- The lines of the symbols of a picture, put one after the other.
use Rattle.std.proofs.Common.{◌≡◌, ◌∙◌, ◌+◌, ◌*◌, ◌<◌, ◌≤◌, ℕ, List, [], ◌∷◌, ◌++◌, Option, ap, append_assoc, arith, get_or, length, length-append, map, refl, subst, sym, take}
use Rattle.std.specs.Fmt.{decimal}
use Rattle.std.proofs.lemmas.Grind.{flat_map-append}
use Rattle.std.proofs.lemmas.List.{append-nil, map-append, take_all, take_more}
use Rattle.digits_core.specs.Buffers.{pasted}
use Rattle.digits_core.proofs.Pasted.{pasted_none}
use Rattle.picture_core.specs.declared.symbol.SeenSymbol.{SeenSymbol}
use Rattle.gs1_c.specs.Found.{ArePut}
use Rattle.gs1_c.specs.Pictures.{numbers_text, placed_line_in}
use Rattle.gs1_c.proofs.LinesThatFit.{all_of, all_of-push, one_line}

-- numbers, and one more behind them
pub numbers_more : (numbers old now next : List ℕ) (n d : ℕ) → n < length numbers → now ≡ old ++ numbers_text (take n numbers)
    → next ≡ now ++ (decimal (get_or numbers n d) ++ 32 ∷ []) → next ≡ old ++ numbers_text (take (n + 1) numbers)
numbers_more numbers old now next n d within so_far put =
    let front : List ℕ = numbers_text (take n numbers) in
    let text : List ℕ = decimal (get_or numbers n d) ++ 32 ∷ [] in
    let more : numbers_text (take (n + 1) numbers) ≡ front ++ text =
    ap numbers_text (take_more numbers n d within)
    ∙ flat_map-append (λ (x : ℕ). decimal x ++ 32 ∷ []) (take n numbers) (get_or numbers n d ∷ []) ∙ ap (λ (t : List ℕ). front ++ t) (append-nil text) in
    put ∙ ap (λ (t : List ℕ). t ++ text) so_far ∙ append_assoc old front text ∙ ap (λ (t : List ℕ). old ++ t) (sym more)

-- all of them
pub numbers_all : (numbers old now : List ℕ) (n : ℕ) → length numbers ≤ n → now ≡ old ++ numbers_text (take n numbers)
    → now ≡ old ++ numbers_text numbers
numbers_all numbers old now n all so_far = so_far ∙ ap (λ (ns : List ℕ). old ++ numbers_text ns) (take_all n numbers all)

-- the line of a symbol whose parts are pushed one after the other
pub five_pushed : (numbers i h none one two three four five name said : List ℕ) → none ≡ [] → one ≡ none ++ numbers → two ≡ one ++ name
    → three ≡ two ++ (32 ∷ []) → four ≡ three ++ said → five ≡ four ++ (10 ∷ []) → name ≡ i → said ≡ h
    → five ≡ numbers ++ ((i ++ (32 ∷ h)) ++ 10 ∷ [])
five_pushed numbers i h none one two three four five name said e0 e1 e2 e3 e4 e5 named told =
    let blank : List ℕ = 32 ∷ [] in
    let to_one : one ≡ numbers = e1 ∙ ap (λ (t : List ℕ). t ++ numbers) e0 in
    let to_two : two ≡ numbers ++ i = e2 ∙ ap (λ (t : List ℕ). t ++ name) to_one ∙ ap (λ (t : List ℕ). numbers ++ t) named in
    let to_four : four ≡ ((numbers ++ i) ++ blank) ++ h =
    e4 ∙ ap (λ (t : List ℕ). t ++ said) (e3 ∙ ap (λ (t : List ℕ). t ++ blank) to_two) ∙ ap (λ (t : List ℕ). ((numbers ++ i) ++ blank) ++ t) told in
    e5
    ∙ ap (λ (t : List ℕ). t ++ 10 ∷ []) (to_four ∙ append_assoc (numbers ++ i) blank h ∙ append_assoc numbers i (32 ∷ h))
    ∙ append_assoc numbers (i ++ (32 ∷ h)) (10 ∷ [])

-- a line is put behind others, where there is room for it
pub line_behind : (old now next : List ℕ) (lines : List (List ℕ)) (line : List ℕ) (end after : ℕ) → ArePut lines old now end → length now ≡ length old
    → after ≡ end + length line → (end + length line ≤ length now → next ≡ pasted now end line) → (length now < end + length line → next ≡ now)
    → ArePut (lines ++ line ∷ []) old next after
line_behind old now next lines line end after p long ends put unchanged = record {
  counted = omega (arith, ends, p.counted, ap length (all_of-push lines line), length-append (all_of lines) line);
  front =
      one_line old now next lines line p.front long (λ fits. put (omega (arith, p.counted)) ∙ ap (λ k. pasted now k line) p.counted)
      (λ over. unchanged (omega (arith, p.counted)));
}

-- the lines of the first symbols are put
pub record Placed (symbols : List (Option SeenSymbol)) (n end : ℕ) (old out : List ℕ) : Type 0 where
  pub put : ArePut (map placed_line_in (take n symbols)) old out end
  pub long : length out ≡ length old
  pub small : end ≤ 700 * n

pub placed_none : (symbols : List (Option SeenSymbol)) (old : List ℕ) → Placed symbols 0 0 old old
placed_none symbols old = record { put = record { counted = refl; front = sym (pasted_none old 0) }; long = refl; small = omega arith }

pub placed_more : (symbols : List (Option SeenSymbol)) (s : Option SeenSymbol) (n end after : ℕ) (old out new : List ℕ) → n < length symbols
    → s ≡ get_or symbols n s → Placed symbols n end old out → after ≡ end + length (placed_line_in s) → after ≤ end + 700
    → (end + length (placed_line_in s) ≤ length out → new ≡ pasted out end (placed_line_in s))
    → (length out < end + length (placed_line_in s) → new ≡ out) → length new ≡ length out → Placed symbols (n + 1) after old new
placed_more symbols s n end after old out new within is i ends few put unchanged long =
    let line = placed_line_in s in
    let lines = map placed_line_in (take n symbols) in
    let next : take (n + 1) symbols ≡ take n symbols ++ s ∷ [] =
    take_more symbols n s within ∙ ap (λ (x : Option SeenSymbol). take n symbols ++ x ∷ []) (sym is) in
    let more : map placed_line_in (take (n + 1) symbols) ≡ lines ++ line ∷ [] =
    ap (map placed_line_in) next ∙ map-append placed_line_in (take n symbols) (s ∷ []) in
    let small = i.small in
    record {
      put =
          subst (λ (ls : List (List ℕ)). ArePut ls old new after) (sym more)
          (line_behind old out new lines line end after i.put i.long ends put unchanged);
      long = long ∙ i.long;
      small = omega arith;
    }

pub placed_all : (symbols : List (Option SeenSymbol)) (n end : ℕ) (old out : List ℕ) → length symbols ≤ n → Placed symbols n end old out
    → ArePut (map placed_line_in symbols) old out end
placed_all symbols n end old out all i =
    subst (λ (ss : List (Option SeenSymbol)). ArePut (map placed_line_in ss) old out end) (take_all n symbols all) i.put
