-- The places that pass a test: how many, and what is gathered from them. Assumes nothing.
use Prim.Native.Nat.{ℕ, zero, suc, ◌<◌}
use mathlib.Core.Path.{◌≡◌, refl, sym, ap, ◌∙◌}
use mathlib.Core.Bool.{Bool, true, false}
use mathlib.Core.List.{List, [], ◌∷◌, ◌++◌, map}
use mathlib.Core.Logic.{⊎_elim}
use native.Mathlib.Nat.{not-suc-le-zero, le_of_suc-le-suc, eq-or-lt_of_le}
use native.Mathlib.Omega.{arith}
use Rattle.laws.specs.Pick.{pick}
use Rattle.laws.specs.Places.{count_to, gathered, places_where}
use Rattle.laws.proofs.Picks.{pick_map}
use Rattle.laws.proofs.Walks.{count_none, count_more, gathered_none, gathered_more}

-- ---- none that passes

-- where none passes, none is counted, and the other way round
pub count_nothing : (f : ℕ → Bool) (n : ℕ) → ((k : ℕ) → k < n → f k ≡ false) → count_to f n ≡ 0
count_nothing f zero h = count_none f
count_nothing f (suc n) h = rw (count_more f n, h n (omega arith), count_nothing f n (λ k lt. h k (omega arith)))

one_or_none : (b : Bool) → ◌≡◌ {A = ℕ} (pick b 1 0) 0 → b ≡ false
one_or_none true h = absurd (omega arith)
one_or_none false h = refl

pub nothing_counted : (f : ℕ → Bool) (n : ℕ) → count_to f n ≡ 0 → (k : ℕ) → k < n → f k ≡ false
nothing_counted f zero e k h = absurd (not-suc-le-zero h)
nothing_counted f (suc n) e k h =
    ⊎_elim
    (λ (last : k ≡ n). rw last (one_or_none (f n) (omega (arith, count_more f n))))
    (λ (before : k < n). nothing_counted f n (omega (arith, count_more f n)) k before)
    (eq-or-lt_of_le (le_of_suc-le-suc h))

-- ---- what is gathered from those that pass

map_append : {A B : Type 0} (g : A → B) (xs ys : List A) → map g (xs ++ ys) ≡ map g xs ++ map g ys
map_append g [] ys = refl
map_append g (x ∷ xs) ys = ap (λ (l : List _). g x ∷ l) (map_append g xs ys)

-- one thing from each place that passes
pub gathered_places :
    {A : Type 0} (f : ℕ → Bool) (g : ℕ → A) (n : ℕ) →
    gathered (λ j. pick (f j) (g j ∷ []) []) n ≡ map g (places_where f n)
gathered_places f g zero =
    rw (gathered_none (λ j. pick (f j) (g j ∷ []) []), gathered_none (λ j. pick (f j) (j ∷ []) []))
gathered_places f g (suc n) =
    let one : List ℕ = pick (f n) (n ∷ []) [] in
    rw (
      gathered_more (λ j. pick (f j) (g j ∷ []) []) n,
      gathered_more (λ j. pick (f j) (j ∷ []) []) n,
      map_append g
          (places_where f n) one,
      gathered_places f g n,
    )
    (ap (λ (l : List _). map g (places_where f n) ++ l) (sym (pick_map (map g) (f n) (n ∷ []) [])))

-- what gives the same at each place gathers the same
pub gathered_same :
    {A : Type 0} (f g : ℕ → List A) (n : ℕ) → ((k : ℕ) → k < n → f k ≡ g k) → gathered f n ≡ gathered g n
gathered_same f g zero h = gathered_none f ∙ sym (gathered_none g)
gathered_same f g (suc n) h =
    rw (gathered_more f n, gathered_more g n, h n (omega arith), gathered_same f g n (λ k lt. h k (omega arith)))

pub places_same :
    (f g : ℕ → Bool) (n : ℕ) → ((k : ℕ) → k < n → f k ≡ g k) → places_where f n ≡ places_where g n
places_same f g n h =
    gathered_same (λ j. pick (f j) (j ∷ []) []) (λ j. pick (g j) (j ∷ []) []) n (λ k lt.
    ap (λ b. pick b (k ∷ []) []) (h k lt))
