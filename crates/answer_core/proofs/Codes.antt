-- The code of a byte, and how long codes are.
use Rattle.std.proofs.Common.{◌≡◌, ◌∙◌, ◌+◌, ◌*◌, ◌≤◌, ◌∷◌, ◌++◌, [], List, ap, append_assoc, arith, inl, inr, length, length-append, refl, sym, ℕ}
use Rattle.std.proofs.lemmas.Bool.{cases_Bool}
use Rattle.element_core.specs.Elements.{Entry, canonical}
use Rattle.message_core.specs.Coding.{encoded}
use Rattle.answer_core.specs.Written.{Parted, coded_elements, is_unreserved, parted_text}
use Rattle.answer_core.specs.inner.Written.{byte_code}

pub encoded_nothing : encoded is_unreserved [] ≡ []
unfolding encoded
encoded_nothing = refl

pub encoded_more : (b : ℕ) (bytes : List ℕ) → encoded is_unreserved (b ∷ bytes) ≡ byte_code b ++ encoded is_unreserved bytes
unfolding encoded
encoded_more b bytes = elim (cases_Bool (is_unreserved b)) [
  | inl kept ↦ rw kept refl
  | inr other ↦ rw other refl
]

byte_short : (b : ℕ) → length (byte_code b) ≤ 3
byte_short b = elim (cases_Bool (is_unreserved b)) [
  | inl kept ↦ rw kept (omega arith)
  | inr other ↦ rw other (omega arith)
]

pub encoded_short : (bytes : List ℕ) → length (encoded is_unreserved bytes) ≤ 3 * length bytes
encoded_short [] = omega (arith, ap length encoded_nothing)
encoded_short (b ∷ bytes) =
    let more = encoded_short bytes in
    let first = byte_short b in
    omega (arith, more, first, ap length (encoded_more b bytes), length-append (byte_code b) (encoded is_unreserved bytes))

-- how many bytes elements have
weight : List Entry → ℕ
weight [] = 0
weight (e ∷ es) = length e.ai + length e.value + weight es

coded_short : (first next between : ℕ) (es : List Entry) → length (coded_elements first next between es) ≤ 2 * length es + 3 * weight es
unfolding weight
coded_short first next between [] = omega arith
coded_short first next between (e ∷ es) =
    let more = coded_short next next between es in
    let value = encoded_short e.value in
    omega (
      arith,
      more,
      value,
      length-append (first ∷ e.ai) ((between ∷ encoded is_unreserved e.value) ++ coded_elements next next between es),
      length-append (between ∷ encoded is_unreserved e.value) (coded_elements next next between es),
    )

weight_both : (xs ys : List Entry) → weight (xs ++ ys) ≡ weight xs + weight ys
unfolding weight
weight_both [] ys = omega arith
weight_both (x ∷ xs) ys = let more = weight_both xs ys in omega (arith, more)

weight_short : (es : List Entry) → weight es ≤ length (canonical es)
unfolding weight
weight_short [] = omega arith
weight_short (e ∷ []) = omega (arith, length-append e.ai e.value)
weight_short (e ∷ f ∷ es) =
    let more = weight_short (f ∷ es) in
    grind (arith, length-append)

pub parted_short : (p : Parted) → length (canonical (p.path ++ p.query)) ≤ 192 → length (p.path ++ p.query) ≤ 48 → length (parted_text p) ≤ 672
parted_short p short few =
    let path = coded_short 47 47 47 p.path in
    let query = coded_short 63 38 61 p.query in
    let both = weight_both p.path p.query in
    let all = weight_short (p.path ++ p.query) in
    omega (arith, short, few, path, query, both, all, length-append p.path p.query, length-append (coded_elements 47 47 47 p.path) (coded_elements 63 38 61 p.query))

-- ---- a text that grows by parts

-- there is room for the next part of what is to be put
pub room : (line rest old all first more : List ℕ) → line ++ rest ≡ old ++ all → rest ≡ first ++ more → length old + length all ≤ 672
    → length line + length first ≤ 672
room line rest old all first more is parts fits =
    omega (arith, fits, ap length is, length-append line rest, length-append old all, ap length parts, length-append first more)

-- with it the others are left
pub go_on : (line new rest first more whole : List ℕ) → line ++ rest ≡ whole → rest ≡ first ++ more → new ≡ line ++ first → new ++ more ≡ whole
go_on line new rest first more whole is parts put =
    ap (λ t. t ++ more) put ∙ append_assoc line first more ∙ ap (λ t. line ++ t) (sym parts) ∙ is
