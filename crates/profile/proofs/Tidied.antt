-- A number and the same with zeros past its digits have the same place in a profile. Assumes nothing.
use Prim.Native.Nat.{◌-◌}
use mathlib.Core.Path.{◌≡◌, refl}
use mathlib.Core.Bool.{true}
use mathlib.Core.List.{List, [], ◌∷◌}
use native.Mathlib.Omega.{arith}
use lib.ListN.{length, replicate}
use lib.Seq.{take-append_seam, length-take-le}
use Rattle.numbers.specs.Number.{most, digits_of, tidy_number, number_good}
use Rattle.numbers.specs.declared.number.Number.{Number}
use Rattle.numbers.proofs.Goods.{good_number}
use Rattle.profile.specs.Profile.{same_number, same, place_in}
use Rattle.profile.specs.declared.profile.Profile.{Profile}

-- zeros stay out of what is counted
pub digits_tidied : (n : Number) → digits_of (tidy_number n) ≡ digits_of n
digits_tidied n = take-append_seam (digits_of n) (replicate (most - length (digits_of n)) 0)

-- a number whose array of digits has its places
module _ (n : Number) (good : number_good n ≡ true) (long : length n.digits ≡ most) where
  -- has as many digits as it counts
  pub count_tidied : length (digits_of n) ≡ n.count
  count_tidied = length-take-le n.count n.digits (omega (arith, (good_number n good).few))

  pub same_tidied : (p : Profile) (x : Number) → same p x (tidy_number n) ≡ same p x n
  unfolding same same_number
  same_tidied p x = rw (digits_tidied n, count_tidied)

  pub place_tidied : (p : Profile) (ns : List Number) → place_in p (tidy_number n) ns ≡ place_in p n ns
  unfolding place_in
  place_tidied p [] = refl
  place_tidied p (x ∷ ns) = rw (same_tidied p x, place_tidied p ns)
