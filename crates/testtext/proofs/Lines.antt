-- Laws of places and numbers in a line, by its list of octets. Assumes nothing.
use Prim.Native.Nat.{ℕ, zero, suc, ◌+◌, ◌-◌, ◌<◌, ◌≤◌}
use mathlib.Core.Path.{◌≡◌, refl, ◌∙◌}
use mathlib.Core.Bool.{Bool, true, false, cond, not}
use mathlib.Core.List.{List, [], ◌∷◌}
use native.Mathlib.Omega.{arith}
use lib.ListN.{length, drop, get_or, drop_of_length-le, length-drop}
use lib.Seq.{drop-cons}
use lib.Dec.{eqb, ltb}
use Rattle.std.specs.List.{fold, position_or_len, slice_range}
use Rattle.std.specs.Option.{unwrap_or}
use Rattle.std.proofs.Common.{Some, None, take_all}
use Rattle.std.proofs.lemmas.Bool.Decides.{nat_tests}
use Rattle.std.proofs.lemmas.List.Sums.{prefix_len-le-length}
use Rattle.laws.specs.Pick.{pick}
use Rattle.laws.specs.Fewest.{fewest_from}
use Rattle.laws.proofs.Fewest.{fewest_step, fewest_none}
use Rattle.testtext.specs.Line.{found_from, next_number, number_after}

-- one octet more to look at
here : (b : Bool) (at n m : ℕ) → n ≡ suc at + m → pick b at n ≡ at + cond (not b) (1 + m) 0
here true at n m e = omega arith
here false at n m e = omega arith

module _ (s : List ℕ) (wanted : ℕ) where
  there :
      (n at : ℕ) → length s - at ≡ n →
      fewest_from (λ i. eqb (get_or s i 0) wanted) n at ≡ at + position_or_len (λ x. eqb x wanted) (drop at s)
  there zero at e = let all : length s ≤ at = omega arith in rw (fewest_none, drop_of_length-le s all) (omega arith)
  there (suc n) at e =
      let more : at < length s = omega arith in
      rw (fewest_step, drop-cons s at 0 more) (here _ _ _ _ (there n (suc at) (omega arith)))

  -- the first place from `at` on is as far from `at` as the first place is in what stands from there on
  pub found_there : (at : ℕ) → found_from s wanted at ≡ at + position_or_len (λ x. eqb x wanted) (drop at s)
  unfolding found_from
  found_there at = there (length s - at) at refl

-- what `position` finds, or else the end
place_or_end : (p l : ℕ) → p ≤ l → unwrap_or (cond (ltb p l) (Some p) None) l ≡ p
place_or_end p l h = grind (arith, nat_tests)

-- the same of what stands from `at` on, as `position` finds it there
pub found_rest :
    (s rest : List ℕ) (wanted at : ℕ) → rest ≡ slice_range s at (length s) →
    let p = position_or_len (λ x. eqb x wanted) rest in
    at + unwrap_or (cond (ltb p (length rest)) (Some p) None) (length rest) ≡ found_from s wanted at
found_rest s rest wanted at is =
    let whole : rest ≡ drop at s = is ∙ take_all (length s - at) (drop at s) (omega (arith, length-drop at s)) in
    rw (place_or_end _ _ (prefix_len-le-length (λ x. not (eqb x wanted)) rest), whole, found_there s wanted at)

-- the number of the last word as a fold over the characters
pub number_folded : (n : ℕ) (s : List ℕ) → fold next_number n s ≡ number_after n s
unfolding number_after
number_folded n [] = refl
number_folded n (c ∷ s) = number_folded (next_number n c) s
