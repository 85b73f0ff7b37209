-- What is left of the things that a record counts, met one by one. Assumes nothing.
use Prim.Native.Nat.{ℕ, suc, min, ◌≤◌, ◌<◌}
use mathlib.Core.Path.{◌≡◌, ◌∙◌}
use mathlib.Core.List.{List, [], ◌∷◌}
use native.Mathlib.Omega.{arith}
use lib.ListN.{length, take, drop, get_or, length-take, drop_of_length-le}
use lib.Seq.{drop-cons, get_or-take}

module _ {A : Type 0} (count : ℕ) (l : List A) where
  -- the next, and those after it
  pub left_cons :
      (k : ℕ) (d : A) → k < count → k < length l →
      drop k (take count l) ≡ get_or l k d ∷ drop (suc k) (take count l)
  left_cons k d h long =
      drop-cons (take count l) k d (omega (arith, length-take count l)) ∙ rw (get_or-take count l k d h)

  -- none
  pub left_none : (k : ℕ) → min count (length l) ≤ k → drop k (take count l) ≡ []
  left_none k h =
      let past : length (take count l) ≤ k = omega (arith, length-take count l) in
      drop_of_length-le (take count l) past
