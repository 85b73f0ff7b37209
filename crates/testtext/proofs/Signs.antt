-- Laws of numbers with a sign. Assumes nothing.
use Prim.Native.Nat.{ℕ, ◌+◌}
use mathlib.Core.Path.{◌≡◌, refl}
use mathlib.Core.Bool.{true, false}
use native.Mathlib.Omega.{arith}
use lib.IntN.{ℤ, pos, negsuc}
use lib.Signed.{mag, lt_z}
use mir.Syntax.{w16}
use mir.Val.{SFits, to_z, of_z}
use mir.Facts.{to_z-of_z}
use borrow.Author.Tests.{ltb-true}
use Rattle.testtext.specs.Signed.{unsigned}

below : (z : ℤ) → lt_z z (pos 0) ≡ true → mag z + 1 ≡ unsigned z
unfolding unsigned
below (pos n) e = absurd (omega (arith, ltb-true n 0 e))
below (negsuc n) e = refl

above : (z : ℤ) → lt_z z (pos 0) ≡ false → mag z ≡ unsigned z
unfolding unsigned
above (pos n) e = refl
above (negsuc n) e = let z : ◌≡◌ {A = ℕ} 0 1 = cc in absurd (omega arith)

-- a number without its sign is one more than its magnitude where it is negative, and else its magnitude
module _ (z : ℤ) (fits : SFits w16 z) where
  pub unsigned_negative : lt_z (to_z w16 (of_z w16 z)) (pos 0) ≡ true → mag z + 1 ≡ unsigned z
  unsigned_negative e = below z (rw (to_z-of_z fits) at e)

  pub unsigned_positive : lt_z (to_z w16 (of_z w16 z)) (pos 0) ≡ false → mag z ≡ unsigned z
  unsigned_positive e = above z (rw (to_z-of_z fits) at e)
