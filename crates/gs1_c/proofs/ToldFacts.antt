-- What a search has told so far, and the lines of it that are put.
use Rattle.std.proofs.Common.{◌≡◌, ◌∙◌, ◌+◌, ◌*◌, ◌<◌, ◌≤◌, ℕ, List, [], ◌∷◌, ◌++◌, ap, append_assoc, arith, length, length-append, map, refl, subst, sym}
use Rattle.std.proofs.lemmas.List.{append-nil, map-append}
use Rattle.digits_core.specs.Buffers.{pasted}
use Rattle.digits_core.proofs.Pasted.{pasted_none}
use Rattle.scan_core.specs.Windows.{AreTold, IsNextWindow, IsOver, Search, search_after}
use Rattle.scan_core.specs.declared.window.Window.{Window}
use Rattle.gs1_c.specs.Found.{ArePut, fitting, symbol_line}
use Rattle.gs1_c.proofs.LinesThatFit.{all_of, all_of-push, few_steps, fewer_steps, one_line, small_enough, small_more, steps_left}

-- some windows are told and put, and the others are those of what is left of the search
pub record Told (from now : Search) (end : ℕ) (old out : List ℕ) : Type 0 where
  pub told : (ws : List Window) × ((rest : List Window) → AreTold now rest → AreTold from (ws ++ rest))
      × (end ≡ length (all_of (map symbol_line ws))) × (out ≡ pasted old 0 (fitting (length old) (map symbol_line ws)))
  pub long : length out ≡ length old
  pub same : now.runs ≡ from.runs
  pub small : end + 400 * steps_left (length from.runs + 1) now.first now.least ≤ 400 * steps_left (length from.runs + 1) from.first from.least

-- how far a search has to go at most
abbrev pub left_of : Search → ℕ
left_of s = steps_left (length s.runs + 1) s.first s.least

pub told_none : (s : Search) (old : List ℕ) → Told s s 0 old old
told_none s old = record { told = ([], λ rest told. told, refl, sym (pasted_none old 0)); long = refl; same = refl; small = omega arith }

-- a line has room in a number
pub told_room : (from now : Search) (end : ℕ) (old out : List ℕ) → length from.runs ≤ 65537 → Told from now end old out → end + 400 < 18446744073709551616
told_room from now end old out few t =
    small_enough end 400 (steps_left (length from.runs + 1) now.first now.least) (left_of from) t.small (omega arith)
    (few_steps (length from.runs + 1) from.first from.least (omega arith))

-- what is left gets less
pub left_less : (now next : Search) (w : Window) → IsNextWindow now w → next ≡ search_after now w → left_of next < left_of now
left_less now next w n e =
    let within = n.symbol.within in
    subst (λ (r : Search). left_of r < left_of now) (sym e) (fewer_steps (length now.runs + 1) now.first now.least w.first w.count (omega arith) n.left)

-- the line of a window is put behind those before it, where there is room for it
pub record IsLinePut (w : Window) (at end : ℕ) (old new : List ℕ) : Type 0 where
  pub ends : end ≡ at + length (symbol_line w)
  pub few : end ≤ at + 400
  pub put : at + length (symbol_line w) ≤ length old → new ≡ pasted old at (symbol_line w)
  pub unchanged : length old < at + length (symbol_line w) → new ≡ old
  pub long : length new ≡ length old

pub told_more : (from now next : Search) (w : Window) (end after : ℕ) (old out new : List ℕ) → Told from now end old out → IsNextWindow now w
    → next ≡ search_after now w → IsLinePut w end after out new → Told from next after old new
told_more from now next w end after old out new i n e p =
    let t = i.told in
    let W = length from.runs + 1 in
    let lines = map symbol_line t.0 in
    let line = symbol_line w in
    let more : map symbol_line (t.0 ++ w ∷ []) ≡ lines ++ line ∷ [] = map-append symbol_line t.0 (w ∷ []) in
    let within = n.symbol.within in
    let runs = ap (λ (r : List ℕ). length r) i.same in
    let less = fewer_steps W now.first now.least w.first w.count (omega arith) n.left in
    let few = p.few in
    record {
      told = (
        t.0 ++ w ∷ [],
        λ rest told. subst (AreTold from) (sym (append_assoc t.0 (w ∷ []) rest)) (t.1 (w ∷ rest) (n, subst (λ (r : Search). AreTold r rest) e told)),
        omega (arith, p.ends, t.2, ap (λ ls. length (all_of ls)) more, ap length (all_of-push lines line), length-append (all_of lines) line),
        one_line old out new lines line t.3 i.long (λ fits. p.put (omega (arith, t.2)) ∙ ap (λ k. pasted out k line) t.2)
            (λ over. p.unchanged (omega (arith, t.2)))
            ∙ ap (λ ls. pasted old 0 (fitting (length old) ls)) (sym more),
      );
      long = p.long ∙ i.long;
      same = ap (λ (r : Search). r.runs) e ∙ i.same;
      small = small_more end after (length line) (steps_left W now.first now.least) (steps_left W next.first next.least) (400 * left_of from)
          p.ends (omega (arith, p.ends)) (subst (λ (r : Search). steps_left W r.first r.least < steps_left W now.first now.least) (sym e) less) i.small;
    }

-- all are told
pub told_all : (from now : Search) (end : ℕ) (old out : List ℕ) → Told from now end old out → IsOver now
    → (ws : List Window) × AreTold from ws × ArePut (map symbol_line ws) old out end
told_all from now end old out i over =
    let t = i.told in (t.0, subst (AreTold from) (append-nil t.0) (t.1 [] over), record { counted = t.2; front = t.3 })
