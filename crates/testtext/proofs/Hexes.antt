-- Laws of hexadecimal digits. Assumes nothing.
use Prim.Native.Nat.{ℕ, ◌<◌}
use native.Mathlib.Omega.{arith}
use lib.Dec.{ltb, leb}
use borrow.Author.Tests.{leb-true}
use Rattle.laws.proofs.Picks.{pick_ind}
use Rattle.testtext.specs.Hex.{hex_digit}

-- a digit stands for a number below 16
pub hex_small : (c : ℕ) → hex_digit c < 16
unfolding hex_digit
hex_small c =
    pick_ind (λ d. d < 16) (ltb c 48) (λ _. omega arith)
    (λ _. pick_ind (λ d. d < 16) (leb c 57) (λ e. omega (arith, leb-true c 57 e))
    (λ _. pick_ind (λ d. d < 16) (ltb c 65) (λ _. omega arith)
    (λ _. pick_ind (λ d. d < 16) (leb c 70) (λ e. omega (arith, leb-true c 70 e)) (λ _. omega arith))))
