-- Lines that are put one after the other, as long as there is room.
use Rattle.std.proofs.Common.{◌≡◌, ◌∙◌, ◌⊎◌, ℕ, ◌+◌, ◌-◌, ◌*◌, ◌<◌, ◌≤◌, List, [], ◌∷◌, ◌++◌, ap, ap₂, append_assoc, arith, inl, inr, length, length-append, refl, sym}
use Rattle.std.specs.Prelude.{flat_map}
use Rattle.std.proofs.Math.Nat.{mul-le-mul_right}
use Rattle.std.proofs.lemmas.Bool.{cases_lt, le-leb, lt-leb}
use Rattle.std.proofs.lemmas.Grind.{flat_map-append}
use Rattle.std.proofs.lemmas.List.{append-nil}
use Rattle.std.proofs.lemmas.Nat.{mul-le}
use Rattle.digits_core.specs.Buffers.{pasted}
use Rattle.digits_core.proofs.Pasted.{pasted_more}
use Rattle.scan_core.specs.declared.carrier.Carrier.{Carrier}
use Rattle.scan_core.specs.declared.carrier.Carrier.TheVariants.{Ean13, Ean8, UpcE, Itf14, Gs1128}
use Rattle.scan_core.specs.Lines.{identifier}
use Rattle.gs1_c.specs.Found.{fitting}

pub length-identifier : (c : Carrier) → length (identifier c) ≡ 3
length-identifier Ean13 = refl
length-identifier Ean8 = refl
length-identifier UpcE = refl
length-identifier Itf14 = refl
length-identifier Gs1128 = refl

-- the parts of the line of a symbol
six_parts : (a b c d e g : List ℕ) → ((((a ++ b) ++ c) ++ d) ++ e) ++ g ≡ a ++ (b ++ (c ++ (d ++ (e ++ g))))
six_parts a b c d e g =
    append_assoc (((a ++ b) ++ c) ++ d) e g ∙ append_assoc ((a ++ b) ++ c) d (e ++ g) ∙ append_assoc (a ++ b) c (d ++ (e ++ g))
    ∙ append_assoc a b (c ++ (d ++ (e ++ g)))

pub line_parts : (f c i h : List ℕ) → (((((f ++ 32 ∷ []) ++ (c ++ 32 ∷ [])) ++ i) ++ (32 ∷ [])) ++ h) ++ (10 ∷ [])
    ≡ ((f ++ (32 ∷ c)) ++ (32 ∷ (i ++ (32 ∷ h)))) ++ (10 ∷ [])
line_parts f c i h =
    let behind : List ℕ = 32 ∷ (h ++ 10 ∷ []) in
    let one : List ℕ = 32 ∷ [] in
    let said : List ℕ = 32 ∷ (i ++ (32 ∷ h)) in
    six_parts (f ++ one) (c ++ one) i one h (10 ∷ []) ∙ append_assoc f one ((c ++ one) ++ (i ++ behind))
    ∙ ap (λ (t : List ℕ). f ++ (32 ∷ t)) (append_assoc c one (i ++ behind))
    ∙ ap (λ (t : List ℕ). f ++ ((32 ∷ c) ++ (32 ∷ t))) (sym (append_assoc i (32 ∷ h) (10 ∷ [])))
    ∙ sym (append_assoc f (32 ∷ c) (said ++ 10 ∷ [])) ∙ sym (append_assoc (f ++ (32 ∷ c)) said (10 ∷ []))

-- the line of a symbol whose parts are pushed one after the other
pub six_pushed : (f c i h none one two three four five six name said : List ℕ) → none ≡ [] → one ≡ none ++ (f ++ 32 ∷ []) → two ≡ one ++ (c ++ 32 ∷ [])
    → three ≡ two ++ name → four ≡ three ++ (32 ∷ []) → five ≡ four ++ said → six ≡ five ++ (10 ∷ []) → name ≡ i → said ≡ h
    → six ≡ ((f ++ (32 ∷ c)) ++ (32 ∷ (i ++ (32 ∷ h)))) ++ (10 ∷ [])
six_pushed f c i h none one two three four five six name said e0 e1 e2 e3 e4 e5 e6 named told =
    let to_one = e1 ∙ ap (λ (t : List ℕ). t ++ (f ++ 32 ∷ [])) e0 in
    let to_two = e2 ∙ ap (λ (t : List ℕ). t ++ (c ++ 32 ∷ [])) to_one in
    let to_three = e3 ∙ ap₂ (λ (t u : List ℕ). t ++ u) to_two named in
    let to_four = e4 ∙ ap (λ (t : List ℕ). t ++ 32 ∷ []) to_three in
    let to_five = e5 ∙ ap₂ (λ (t u : List ℕ). t ++ u) to_four told in
    e6 ∙ ap (λ (t : List ℕ). t ++ 10 ∷ []) to_five ∙ line_parts f c i h

-- the bytes of all lines
abbrev pub all_of : List (List ℕ) → List ℕ
all_of lines = flat_map (λ line. line) lines

pub all_of-push : (lines : List (List ℕ)) (line : List ℕ) → all_of (lines ++ line ∷ []) ≡ all_of lines ++ line
all_of-push lines line = flat_map-append (λ (l : List ℕ). l) lines (line ∷ []) ∙ ap (λ (t : List ℕ). all_of lines ++ t) (append-nil line)

-- where there is room for all lines they all fit
fitting-all : (room : ℕ) (lines : List (List ℕ)) → length (all_of lines) ≤ room → fitting room lines ≡ all_of lines
fitting-all room [] fits = refl
fitting-all room (line ∷ lines) fits =
    let long = length-append line (all_of lines) in
    rw (le-leb (length line) room (omega arith)) (ap (λ (t : List ℕ). line ++ t) (fitting-all (room - length line) lines (omega arith)))

-- a line for which there is no room behind the others changes nothing
fitting-over : (room : ℕ) (lines : List (List ℕ)) (line : List ℕ) → room < length (all_of lines) + length line → fitting room (lines ++ line ∷ [])
    ≡ fitting room lines
fitting-over room [] line over = rw (lt-leb (length line) room (omega arith)) refl
fitting-over room (first ∷ lines) line over =
    let long = length-append first (all_of lines) in
    elim (cases_lt room (length first)) [
      | inl none ↦ rw (lt-leb (length first) room none) refl
      | inr some ↦ rw (le-leb (length first) room some) (ap (λ (t : List ℕ). first ++ t) (fitting-over (room - length first) lines line (omega arith)))
    ]

-- one line more is put behind the others, where there is room for it
pub one_line : (old now next : List ℕ) (lines : List (List ℕ)) (line : List ℕ) → now ≡ pasted old 0 (fitting (length old) lines)
    → length now ≡ length old
    → (length (all_of lines) + length line ≤ length now → next ≡ pasted now (length (all_of lines)) line)
    → (length now < length (all_of lines) + length line → next ≡ now)
    → next ≡ pasted old 0 (fitting (length old) (lines ++ line ∷ []))
one_line old now next lines line before long put unchanged =
    elim (cases_lt (length old) (length (all_of lines) + length line)) [
      | inl over ↦ unchanged (omega arith) ∙ before ∙ ap (pasted old 0) (sym (fitting-over (length old) lines line over))
      | inr room ↦
          let all : fitting (length old) lines ≡ all_of lines = fitting-all (length old) lines (omega arith) in
          let more : fitting (length old) (lines ++ line ∷ []) ≡ all_of lines ++ line =
          fitting-all (length old) (lines ++ line ∷ []) (omega (arith, ap length (all_of-push lines line), length-append (all_of lines) line))
          ∙ all_of-push lines line in
          let here : now ≡ pasted old 0 (all_of lines) = before ∙ ap (pasted old 0) all in
          put (omega arith) ∙ ap (λ (t : List ℕ). pasted t (length (all_of lines)) line) here
          ∙ ap (λ k. pasted (pasted old 0 (all_of lines)) k line) (let e : length (all_of lines) ≡ 0 + length (all_of lines) = omega arith in e)
          ∙ pasted_more old 0 (all_of lines) line (omega arith) ∙ ap (pasted old 0) (sym more)
    ]

-- ---- how far a search has come

abbrev pub steps_left : ℕ → ℕ → ℕ → ℕ
steps_left W first least = (W - first) * W + (W - least)

pub fewer_steps : (W f l g c : ℕ) → g + c < W → (f < g) ⊎ ((f ≡ g) × (l ≤ c)) → steps_left W g (c + 1) < steps_left W f l
fewer_steps W f l g c within (inl later) =
    let k = W - g in
    let j = W - f in
    let more : (k + 1) * W ≤ j * W = mul-le-mul_right W (let e : k + 1 ≤ j = omega arith in e) in
    omega arith
fewer_steps W f l g c within (inr same) =
    let less = same.1 in
    let here : (W - f) * W ≡ (W - g) * W = ap (λ n. (W - n) * W) same.0 in
    omega arith

pub few_steps : (W f l : ℕ) → W ≤ 65538 → steps_left W f l ≤ 65538 * 65538 + 65538
few_steps W f l few =
    let most = mul-le (W - f) W 65538 65538 (omega arith) few in
    omega arith

-- each line takes a step
pub small_more : (e n long a b most : ℕ) → n ≡ e + long → long ≤ 400 → b < a → e + 400 * a ≤ most → n + 400 * b ≤ most
small_more e n long a b most is short less small = omega arith

-- so the count stays small
pub small_enough : (e long a most : ℕ) → e + 400 * a ≤ 400 * most → long ≤ 400 → most ≤ 65538 * 65538 + 65538 → e + long < 18446744073709551616
small_enough e long a most small short few = omega arith
