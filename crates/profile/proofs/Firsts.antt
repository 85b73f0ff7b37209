-- Numbers that are the first of their kind: none before is the same. Assumes nothing.
use Prim.Native.Nat.{ℕ, zero, suc, ◌+◌, ◌≤◌, ◌<◌}
use mathlib.Core.Path.{◌≡◌, sym, ◌∙◌}
use mathlib.Core.Bool.{Bool, true, false}
use mathlib.Core.List.{List}
use mathlib.Core.Logic.{⊎_elim}
use native.Mathlib.Nat.{eq-or-lt_of_le}
use native.Mathlib.Numerals.{add-one}
use native.Mathlib.Omega.{arith}
use lib.ListN.{length, take, drop, get_or, length-take}
use lib.Seq.{drop-cons, get_or-take}
use Rattle.laws.specs.Pick.{pick}
use Rattle.laws.specs.Places.{count_to}
use Rattle.laws.proofs.Picks.{pick_ind}
use Rattle.laws.proofs.Walks.{count_none, count_more}
use Rattle.numbers.specs.declared.number.Number.{Number}
use Rattle.profile.specs.Profile.{same, place_in, no_number}
use Rattle.profile.specs.declared.profile.Profile.{Profile}
use Rattle.profile.proofs.Profiles.{same_refl}

module _ (p : Profile) (n : Number) (count : ℕ) (numbers : List Number) where
  -- a search that has come to k
  abbrev Come : ℕ → Type 0
  Come k = place_in p n (take count numbers) ≡ k + place_in p n (drop k (take count numbers))

  -- meets one number more
  step :
      (k : ℕ) → k < count → k < length numbers →
      place_in p n (drop k (take count numbers))
      ≡ pick (same p (get_or numbers k no_number) n) 0 (1 + place_in p n (drop (suc k) (take count numbers)))
  unfolding place_in
  step k h long =
      rw (
        drop-cons (take count numbers) k no_number (omega (arith, length-take count numbers)),
        get_or-take count numbers k no_number h,
      )

  -- finds the number there
  number_here :
      (k : ℕ) → k < count → k < length numbers → same p (get_or numbers k no_number) n ≡ true → Come k →
      k ≡ place_in p n (take count numbers)
  number_here k h long e come =
      let z : place_in p n (drop k (take count numbers)) ≡ 0 = rw (step k h long, e) in
      omega arith

  -- goes on where another number stands
  number_next :
      (k : ℕ) → k < count → k < length numbers → same p (get_or numbers k no_number) n ≡ false → Come k →
      Come (k + 1)
  number_next k h long e come =
      let z : place_in p n (drop k (take count numbers)) ≡ 1 + place_in p n (drop (suc k) (take count numbers)) =
      rw (step k h long, e) in
      rw add-one (omega arith)

module _ (p : Profile) (numbers : List Number) (n : Number) where
  -- whether the number at a place is the same
  abbrev pub same_at : ℕ → Bool
  same_at k = same p (get_or numbers k no_number) n

  -- one that is the same is counted
  same_counted : (count k : ℕ) → k < count → same_at k ≡ true → 0 < count_to same_at count
  same_counted zero k h e = absurd (omega arith)
  same_counted (suc count) k h e =
      ⊎_elim
      (λ (here : k ≡ count). rw (count_more same_at count, ← here, e) (omega arith))
      (λ (lt : k < count). rw (count_more same_at count) (omega (arith, same_counted count k lt e)))
      (eq-or-lt_of_le (omega arith))

  module _ (count : ℕ) (long : count ≤ length numbers) where
    -- a search passes those that are not the same
    passes : (k : ℕ) → k ≤ count → count_to same_at k ≡ 0 → Come p n count numbers k
    passes zero h none = omega arith
    passes (suc k) h none =
        let sum : count_to same_at k + pick (same_at k) 1 0 ≡ 0 = sym (count_more same_at k) ∙ none in
        let other : same_at k ≡ false =
        pick_ind (λ m. count_to same_at k + m ≡ 0 → same_at k ≡ false) (same_at k) (λ _ z. absurd (omega arith)) (λ e _. e) sum in
        rw (← add-one k)
        (number_next p n count numbers k (omega arith) (omega arith) other (passes k (omega arith) (omega arith)))

    -- and stops where one is
    stops : (k : ℕ) → k ≤ count → 0 < count_to same_at k → place_in p n (take count numbers) < k
    stops zero h some = absurd (omega (arith, count_none same_at))
    stops (suc k) h some =
        ⊎_elim
        (λ (none : 0 ≡ count_to same_at k).
        pick_ind (λ m. 0 < count_to same_at k + m → place_in p n (take count numbers) < suc k) (same_at k)
        (λ e _. omega (arith, number_here p n count numbers k (omega arith) (omega arith) e (passes k (omega arith) (sym none))))
        (λ _ z. absurd (omega arith))
        (rw (count_more same_at k) at some))
        (λ (lt : 0 < count_to same_at k). omega (arith, stops k (omega arith) lt))
        (eq-or-lt_of_le (omega arith))

module _ (p : Profile) (numbers : List Number) (count k : ℕ) (long : count ≤ length numbers) (h : k < count) where
  -- a search for a number finds it at its own place where none before it is the same
  pub first_here :
      count_to (same_at p numbers (get_or numbers k no_number)) k ≡ 0 →
      place_in p (get_or numbers k no_number) (take count numbers) ≡ k
  first_here none =
      let n : Number = get_or numbers k no_number in
      sym (number_here p n count numbers k h (omega arith) (same_refl p n) (passes p numbers n count long k (omega arith) none))

  -- and elsewhere where one is
  pub later_not :
      (j : ℕ) → j < k → same_at p numbers (get_or numbers k no_number) j ≡ true →
      place_in p (get_or numbers k no_number) (take count numbers) ≡ k → ⊥
  later_not j lt same e =
      let n : Number = get_or numbers k no_number in
      omega (arith, stops p numbers n count long k (omega arith) (same_counted p numbers n k j lt same))
