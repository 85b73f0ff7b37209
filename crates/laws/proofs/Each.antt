-- Laws of `each_from`: an array whose things are given by their places. Assumes nothing.
use Prim.Native.Nat.{ℕ, zero, suc, ◌+◌, ◌≤◌, ◌<◌}
use mathlib.Core.Path.{◌≡◌, refl, sym, ap, ◌∙◌}
use mathlib.Core.List.{List, [], ◌∷◌, ◌++◌}
use native.Mathlib.Nat.{add-zero, zero-add, add-suc, suc-add}
use native.Mathlib.Numerals.{add-one}
use native.Mathlib.Omega.{arith}
use lib.ListN.{length, take, get_or, set}
use lib.Seq.{take-length, take-suc-set, slice, slice_empty, slice-cons}
use Rattle.laws.specs.Places.{each_from}

module _ {A : Type 0} (f : ℕ → A) where
  -- the same things spelled out: with a numeral for n this computes to their list
  abbrev pub spelled : ℕ → ℕ → List A
  spelled zero from = []
  spelled (suc n) from = f from ∷ spelled n (suc from)

  pub each_spelled : (n from : ℕ) → each_from f n from ≡ spelled n from
  unfolding each_from
  each_spelled zero from = refl
  each_spelled (suc n) from = ap (λ (l : List A). f from ∷ l) (each_spelled n (suc from))

  -- the thing at a place
  pub get_d_each : (n from i : ℕ) (d : A) → i < n → get_or (each_from f n from) i d ≡ f (from + i)
  unfolding each_from
  get_d_each zero from i d h = absurd (omega arith)
  get_d_each (suc n) from zero d h = rw add-zero
  get_d_each (suc n) from (suc i) d h = rw (add-suc, ← suc-add) (get_d_each n (suc from) i d (omega arith))

  -- one thing more, at the end
  pub each_more : (n from : ℕ) → each_from f (suc n) from ≡ each_from f n from ++ (f (from + n) ∷ [])
  unfolding each_from
  each_more zero from = rw add-zero
  each_more (suc n) from = rw (add-suc, ← suc-add) (ap (λ (l : List A). f from ∷ l) (each_more n (suc from)))

  -- a loop that fills an array from the front: one turn, and the end
  pub each_set :
      (l : List A) (i : ℕ) (x : A) → i < length l → x ≡ f i → take i l ≡ each_from f i 0 →
      take (i + 1) (set l i x) ≡ each_from f (i + 1) 0
  each_set l i x h e done = rw (add-one, take-suc-set l i x h, done, e, each_more i 0, zero-add)

  pub each_done : (n : ℕ) (l : List A) → length l ≡ n → take n l ≡ each_from f n 0 → l ≡ each_from f n 0
  each_done n l long done = sym (take-length l) ∙ rw long done

-- a part of an array is what stands at its places
pub slice_each :
    {A : Type 0} (l : List A) (d : A) (at n : ℕ) → at + n ≤ length l →
    slice at (at + n) l ≡ each_from (λ k. get_or l k d) n at
unfolding each_from
slice_each l d at zero h = rw add-zero (slice_empty at l)
slice_each {A} l d at (suc n) h =
    slice-cons at (at + suc n) l d (omega arith) (omega arith)
    ∙ rw (add-suc, ← suc-add) (ap (λ (xs : List A). get_or l at d ∷ xs) (slice_each l d (suc at) n (omega arith)))
