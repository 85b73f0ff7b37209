-- What the library's searches over a list answer, in the words of this one. Assumes nothing.
use Prim.Native.Nat.{ℕ, ◌≤◌, ◌<◌}
use mathlib.Core.Path.{◌≡◌, refl, sym, ap, ◌∙◌}
use mathlib.Core.Bool.{Bool, true, false, false≢true, not, ◌&&◌}
use mathlib.Core.List.{List, [], ◌∷◌, map}
use native.Mathlib.Omega.{arith}
use lib.ListN.{length, take, get_or}
use lib.Dec.{ltb}
use borrow.Author.Tests.{ltb-false}
use Rattle.std.specs.List.{position, position_or_len, list_all}
use Rattle.std.specs.Option.{unwrap_or}
use Rattle.std.specs.Prelude.{Option}
use Rattle.std.proofs.lemmas.List.{length-take, get_or-take}
use Rattle.std.proofs.lemmas.List.Recursion.{and_at, and_from_places}
use Rattle.std.proofs.lemmas.List.Sums.{prefix_len-le-length}
use Rattle.laws.specs.Pick.{pick}
use Rattle.laws.specs.Tests.{all}
use Rattle.laws.specs.Places.{every_to}
use Rattle.laws.proofs.Picks.{pick_ind, by_bool}
use Rattle.laws.proofs.Walks.{every_at, every_all}

-- a test and then another
pub and_pick : (a b : Bool) → (a && b) ≡ pick a b false
and_pick true b = refl
and_pick false b = refl

module _ {X : Type 0} (test : X → Bool) where
  -- all things of a list
  pub all_tested : (l : List X) → list_all test l ≡ all (map test l)
  all_tested [] = refl
  all_tested (x ∷ l) = rw (all_tested l, and_pick (test x) (all (map test l)))

  -- all things at its first places
  pub every_tested :
      (d : X) (l : List X) (n : ℕ) → n ≤ length l → every_to (λ k. test (get_or l k d)) n ≡ list_all test (take n l)
  every_tested d l n h =
      let f : ℕ → Bool = λ k. test (get_or l k d) in
      let long : length (take n l) ≡ n = omega (arith, length-take n l) in
      let there = λ (k : ℕ) (lt : k < n). ap test (get_or-take n l k d lt) in
      by_bool _ (every_to f n)
      (λ pass. pass ∙ sym (and_from_places (list_all test) test refl (λ _ _. refl) (take n l) d (λ k lt. there k (omega arith) ∙ every_at f n k (omega arith) pass)))
      (λ fail.
      by_bool _ (list_all test (take n l))
      (λ pass. absurd (false≢true (sym fail ∙ every_all f n (λ k lt. sym (there k lt) ∙ and_at (list_all test) test refl (λ _ _. refl) (take n l) k d (omega arith) pass))))
      (λ too. fail ∙ sym too))

  -- the first place that passes, or else the length
  pub found_or_length : (l : List X) (r : Option ℕ) → r ≡ position test l → unwrap_or r (length l) ≡ position_or_len test l
  found_or_length l r e =
      let n : ℕ = position_or_len test l in
      rw e
      (pick_ind (λ t. unwrap_or t (length l) ≡ n) (ltb n (length l)) (λ _. refl)
      (λ e. omega (arith, ltb-false n (length l) e, prefix_len-le-length (λ x. not (test x)) l)))
