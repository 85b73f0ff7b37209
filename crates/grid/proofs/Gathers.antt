-- What is gathered from the places of an array: how much it is, what becomes of it, and where a single place gives something. Assumes
-- nothing.
use Prim.Native.Nat.{◌*◌, ◌<◌, ◌≤◌, suc, zero, ℕ}
use mathlib.Core.Bool.{Bool}
use mathlib.Core.List.{List, [], ◌++◌, ◌∷◌, append_assoc, append-nil, map, map-append}
use mathlib.Core.Logic.{⊎_elim}
use mathlib.Core.Path.{◌∙◌, ◌≡◌, ap, refl, sym}
use native.Mathlib.Nat.{eq-or-lt_of_le, mul-suc}
use native.Mathlib.Omega.{arith}
use lib.ListN.{length, length-append}
use Rattle.laws.specs.Pick.{pick}
use Rattle.laws.specs.Places.{count_to, gathered}
use Rattle.laws.specs.Those.{those}
use Rattle.laws.proofs.Chosen.{gathered_same}
use Rattle.laws.proofs.Picks.{by_bool, pick_map}
use Rattle.laws.proofs.Thoses.{those_none, those_skip, those_take}
use Rattle.laws.proofs.Walks.{count_more, count_none, gathered_ind, gathered_more, gathered_none}

-- ---- how much

-- as many things as places that pass a test
pub gathered_count :
    {A : Type 0} (f : ℕ → Bool) (g : ℕ → A) (n : ℕ) → length (gathered (λ j. pick (f j) (g j ∷ []) []) n) ≡ count_to f n
gathered_count f g zero = rw (gathered_none (λ j. pick (f j) (g j ∷ []) []), count_none f)
gathered_count f g (suc n) =
    rw (
      gathered_more (λ j. pick (f j) (g j ∷ []) []) n,
      length-append (gathered (λ j. pick (f j) (g j ∷ []) []) n) (pick (f n) (g n ∷ []) []),
      gathered_count f g n,
      count_more f n,
      pick_map length (f n) (g n ∷ []) [],
    )

pub gathered_each : {A : Type 0} (c : ℕ) (f : ℕ → List A) (n : ℕ) → ((k : ℕ) → k < n → length (f k) ≤ c) → length (gathered f n) ≤ c * n
gathered_each c f zero h = rw (gathered_none f) (omega arith)
gathered_each c f (suc n) h =
    rw (gathered_more f n, mul-suc c n)
    (omega (arith, length-append (gathered f n) (f n), h n (omega arith), gathered_each c f n (λ k lt. h k (omega arith))))

-- ---- where a single place gives something, or none does

pub gathered_nothing : {A : Type 0} (f : ℕ → List A) (n : ℕ) → ((j : ℕ) → j < n → f j ≡ []) → gathered f n ≡ []
gathered_nothing f n h = gathered_ind (λ xs. xs ≡ []) refl (λ xs ys a b. rw (a, b)) f n h

-- where one place gives something and no other does
pub gathered_one :
    {A : Type 0} (f : ℕ → List A) (n k : ℕ) → k < n → ((j : ℕ) → j < n → (j ≡ k → ⊥) → f j ≡ []) → gathered f n ≡ f k
gathered_one f zero k lt others = absurd (omega arith)
gathered_one f (suc n) k lt others =
    ⊎_elim
    (λ (last : k ≡ n).
    rw (gathered_more f n, gathered_nothing f n (λ j less. others j (omega arith) (λ e. omega arith)), last))
    (λ (less : k < n).
    rw (
      gathered_more f n,
      gathered_one f n k less (λ j h. others j (omega arith)),
      others n (omega arith) (λ e. omega arith),
      append-nil (f k),
    ))
    (eq-or-lt_of_le (omega arith))

-- one place gives something more at its end, and the places after it give nothing
pub gathered_last :
    {A : Type 0} (f g : ℕ → List A) (n m : ℕ) (xs : List A) → m < n → ((j : ℕ) → j < n → (j ≡ m → ⊥) → g j ≡ f j) →
    g m ≡ f m ++ xs →
    ((j : ℕ) → m < j → j < n → f j ≡ []) →
    gathered g n ≡ gathered f n ++ xs
gathered_last f g zero m xs lt same here silent = absurd (omega arith)
gathered_last f g (suc n) m xs lt same here silent =
    ⊎_elim
    (λ (last : m ≡ n).
    gathered_more g n
    ∙ rw (
      gathered_same g f n (λ j less. same j (omega arith) (λ e. omega arith)),
      rw last at here,
      gathered_more f n,
      append_assoc (gathered f n) (f n) xs,
    ))
    (λ (less : m < n).
    let none : f n ≡ [] = silent n less (omega arith) in
    gathered_more g n
    ∙ rw (
      gathered_last f g n m xs less (λ j h. same j (omega arith)) here (λ j up h. silent j up (omega arith)),
      same n (omega arith) (λ e. omega arith),
      none,
      gathered_more f n,
      none,
      append-nil (gathered f n ++ xs),
      append-nil (gathered f n),
    ))
    (eq-or-lt_of_le (omega arith))

-- ---- those of what is gathered

module _ {A : Type 0} (f : A → Bool) where
  those_append : (xs ys : List A) → those f (xs ++ ys) ≡ those f xs ++ those f ys
  those_append [] ys = ap (λ (l : List A). l ++ those f ys) (sym (those_none f [] refl))
  those_append (x ∷ xs) ys =
      by_bool (those f (x ∷ xs ++ ys) ≡ those f (x ∷ xs) ++ those f ys) (f x)
      (λ e. rw (those_take f (x ∷ xs ++ ys) (xs ++ ys) x refl e, those_take f (x ∷ xs) xs x refl e, those_append xs ys))
      (λ e. rw (those_skip f (x ∷ xs ++ ys) (xs ++ ys) x refl e, those_skip f (x ∷ xs) xs x refl e, those_append xs ys))

  pub those_gathered : (g : ℕ → List A) (n : ℕ) → those f (gathered g n) ≡ gathered (λ j. those f (g j)) n
  those_gathered g zero = rw (gathered_none g, gathered_none (λ j. those f (g j))) (those_none f [] refl)
  those_gathered g (suc n) =
      rw (gathered_more g n, gathered_more (λ j. those f (g j)) n, those_append (gathered g n) (g n), those_gathered g n)

  pub those_one : (x : A) → those f (x ∷ []) ≡ pick (f x) (x ∷ []) []
  those_one x =
      by_bool (those f (x ∷ []) ≡ pick (f x) (x ∷ []) []) (f x)
      (λ e. rw (those_take f (x ∷ []) [] x refl e, those_none f [] refl, e))
      (λ e. rw (those_skip f (x ∷ []) [] x refl e, those_none f [] refl, e))

pub map_gathered : {A B : Type 0} (f : A → B) (g : ℕ → List A) (n : ℕ) → map f (gathered g n) ≡ gathered (λ j. map f (g j)) n
map_gathered f g zero = rw (gathered_none g, gathered_none (λ j. map f (g j)))
map_gathered f g (suc n) =
    rw (gathered_more g n, gathered_more (λ j. map f (g j)) n, map-append f (gathered g n) (g n), map_gathered f g n)
