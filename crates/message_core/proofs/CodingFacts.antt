-- What was encoded is read again.
use Rattle.std.proofs.Common.{◌≡◌, ◌==◌, ◌<◌, ◌/◌, ◌%◌, ◌∷◌, ◌∙◌, [], Bool, List, ap, arith, false, true, refl, sym, ℕ}
use Rattle.std.proofs.lemmas.Bool.{cond_both, ne_eqb, true≢false}
use Rattle.std.proofs.lemmas.Grind.{common_steps}
use Rattle.std.proofs.lemmas.Nat.{div-add-mod'}
use Rattle.message_core.specs.Coding.{coded_byte, decoded, encoded, hex_digit, hex_value, plain_byte}
use Rattle.message_core.specs.Laws.{CodesAreRead}

-- a byte that is no `%` stands for one, whatever is behind it
plain_step : (plus b : ℕ) (text : List ℕ) → (b == 37) ≡ false → decoded plus (b ∷ text) ≡ plain_byte plus b ∷ decoded plus text
unfolding decoded
plain_step plus b [] other = refl
plain_step plus b (c ∷ []) other = refl
plain_step plus b (high ∷ low ∷ text) other = rw (other) refl

-- a digit has the number that it was written for
digit_back : (n : ℕ) → n < 16 → hex_value (hex_digit n) ≡ n
digit_back n low = grind (arith, common_steps)

-- and two of them the byte
byte_back : (b : ℕ) → b < 256 → coded_byte (hex_digit (b / 16)) (hex_digit (b % 16)) ≡ b
byte_back b low = rw (digit_back (b / 16) (omega (arith, low)), digit_back (b % 16) (omega arith)) (div-add-mod' b 16)

-- a byte that is kept is another one than these
other_than : (is_kept : ℕ → Bool) (b c : ℕ) → is_kept b ≡ true → is_kept c ≡ false → (b == c) ≡ false
other_than is_kept b c kept out = ne_eqb b c (λ e. true≢false (sym kept ∙ ap is_kept e ∙ out))

pub codes_are_read : CodesAreRead
unfolding decoded encoded
codes_are_read plus is_kept [] percent sign below = refl
codes_are_read plus is_kept (b ∷ bytes) percent sign below =
    let rest : decoded plus (encoded is_kept bytes) ≡ bytes = codes_are_read plus is_kept bytes percent sign below.1 in
    cond_both (is_kept b) (b ∷ encoded is_kept bytes) (37 ∷ hex_digit (b / 16) ∷ hex_digit (b % 16) ∷ encoded is_kept bytes) (λ t. decoded plus t ≡ b ∷ bytes)
    (λ kept. plain_step plus b (encoded is_kept bytes) (other_than is_kept b 37 kept percent)
    ∙ rw (other_than is_kept b 43 kept sign, rest) refl)
    (λ _. rw (byte_back b below.0, rest) refl)
