-- Laws of `fewest`: it will do, none below it does, and it is within its bound. Assumes nothing.
use Prim.Native.Nat.{ℕ, zero, suc, ◌+◌, ◌≤◌}
use mathlib.Core.Path.{◌≡◌, refl, sym, ◌∙◌}
use mathlib.Core.Bool.{Bool, true, false≢true}
use mathlib.Core.Logic.{⊎_elim}
use native.Mathlib.Nat.{add-zero, zero-add, add-suc, suc-add, eq-or-lt_of_le}
use native.Mathlib.Omega.{arith}
use Rattle.laws.specs.Pick.{pick}
use Rattle.laws.specs.Fewest.{fewest_from, fewest}
use Rattle.laws.proofs.Picks.{pick_ind}

module _ (will : ℕ → Bool) where
  -- one place to look at, and none
  pub fewest_step :
      (more from : ℕ) → fewest_from will (suc more) from ≡ pick (will from) from (fewest_from will more (suc from))
  unfolding fewest_from
  fewest_step more from = refl

  pub fewest_none : (from : ℕ) → fewest_from will 0 from ≡ from
  unfolding fewest_from
  fewest_none from = refl

  will_from : (more from : ℕ) → will (from + more) ≡ true → will (fewest_from will more from) ≡ true
  unfolding fewest_from
  will_from zero from h = rw add-zero at h
  will_from (suc more) from h =
      pick_ind (λ k. will k ≡ true) (will from) (λ e. e)
      (λ _. will_from more (suc from) (rw (suc-add, ← add-suc) h))

  most_from : (more from : ℕ) → fewest_from will more from ≤ from + more
  unfolding fewest_from
  most_from zero from = omega arith
  most_from (suc more) from =
      pick_ind (λ k. k ≤ from + suc more) (will from) (λ _. omega arith)
      (λ _. omega (arith, most_from more (suc from)))

  least_from : (more from k : ℕ) → from ≤ k → will k ≡ true → fewest_from will more from ≤ k
  unfolding fewest_from
  least_from zero from k le h = le
  least_from (suc more) from k le h =
      pick_ind (λ j. j ≤ k) (will from) (λ _. le)
      (λ no. ⊎_elim
      (λ same. absurd (false≢true (sym no ∙ rw same h)))
      (λ lt. least_from more (suc from) k lt h)
      (eq-or-lt_of_le le))

  -- the fewest will do, if the most will
  pub fewest_will : (most : ℕ) → will most ≡ true → will (fewest will most) ≡ true
  fewest_will most h = will_from most 0 (rw zero-add h)

  pub fewest_most : (most : ℕ) → fewest will most ≤ most
  fewest_most most = omega (arith, most_from most 0)

  -- none below it will do
  pub fewest_least : (most k : ℕ) → will k ≡ true → fewest will most ≤ k
  fewest_least most k h = least_from most 0 k (omega arith) h
