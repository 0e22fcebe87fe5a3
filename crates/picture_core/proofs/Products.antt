-- Bounds of products of signed numbers.
use Rattle.std.proofs.Common.{ℕ, ℤ, pos, ◌*ℤ◌, ◌*◌, ◌≤◌, ◌<◌, ◌^◌, arith, to_z, of_z, FitsSigned}
use Rattle.std.proofs.lemmas.Int.{ints, unsigned_abs-mul, fits_signed_mul, to_z-of_z}
use Rattle.std.proofs.lemmas.Nat.{mul-le}
use Rattle.std.specs.Int.RustNames.{unsigned_abs}
use Rattle.picture_core.specs.inner.Bounds.{IsBounded}
use lib.IntN.{negsuc}
use mir.Syntax.{Width}
use mir.Val.{hbits}

abs-le : (z : ℤ) (m : ℕ) → IsBounded m z → unsigned_abs z ≤ m
abs-le (pos n) m w = omega (arith, ints)
abs-le (negsuc n) m w = omega (arith, ints)

within-abs : (z : ℤ) (m : ℕ) → unsigned_abs z ≤ m → IsBounded m z
within-abs (pos n) m w = (omega (arith, ints), omega (arith, ints))
within-abs (negsuc n) m w = (omega (arith, ints), omega (arith, ints))

-- a product is at most as far from 0 as the product of how far its factors are
within_mul : (a b : ℤ) (m n : ℕ) → IsBounded m a → IsBounded n b → IsBounded (m * n) (a *ℤ b)
within_mul a b m n p q =
    let k : unsigned_abs a * unsigned_abs b ≤ m * n = mul-le (unsigned_abs a) (unsigned_abs b) m n (abs-le a m p) (abs-le b n q) in
    within-abs (a *ℤ b) (m * n) (rw unsigned_abs-mul k)

-- so the program's product fits its width
pub product_fits : (w : Width) (a b : ℤ) (m n : ℕ) → FitsSigned w a → FitsSigned w b → IsBounded m a → IsBounded n b → m * n < 2 ^ hbits w → FitsSigned w (to_z w (of_z w a) *ℤ to_z w (of_z w b))
product_fits w a b m n f g p q fits =
    let k : FitsSigned w (a *ℤ b) = fits_signed_mul w a b m n (abs-le a m p) (abs-le b n q) fits in
    simp to_z-of_z k

-- and has this bound
pub product_within : (w : Width) (a b : ℤ) (m n : ℕ) → FitsSigned w a → FitsSigned w b → IsBounded m a → IsBounded n b → m * n < 2 ^ hbits w → IsBounded (m * n) (to_z w (of_z w (to_z w (of_z w a) *ℤ to_z w (of_z w b))))
product_within w a b m n f g p q fits =
    let k : FitsSigned w (a *ℤ b) = fits_signed_mul w a b m n (abs-le a m p) (abs-le b n q) fits in
    simp to_z-of_z (within_mul a b m n p q)
