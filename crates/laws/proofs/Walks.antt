-- Walks over the places of an array: what a loop has counted, tested, changed or gathered, and what has come of it at the end.
-- Assumes nothing.
use Prim.Native.Nat.{ℕ, zero, suc, ◌+◌, ◌<◌, ◌≤◌}
use mathlib.Core.Path.{◌≡◌, refl, sym, ap, ◌∙◌}
use mathlib.Core.Bool.{Bool, true, false}
use mathlib.Core.List.{List, [], ◌∷◌, ◌++◌}
use mathlib.Core.Logic.{⊎_elim}
use native.Mathlib.Nat.{add-zero, zero-add, add-suc, suc-add, not-suc-le-zero, le_of_suc-le-suc, eq-or-lt_of_le}
use native.Mathlib.Numerals.{add-one}
use native.Mathlib.Omega.{arith}
use lib.ListN.{length, get_or, set, replicate, length-append, get_or-eq_default}
use Rattle.laws.specs.Pick.{pick}
use Rattle.laws.specs.Places.{every_to, count_to, changed_from, gathered}
use Rattle.laws.proofs.Picks.{pick_ind, pick_then}

-- ---- counted

module _ (f : ℕ → Bool) where
  pub count_none : count_to f 0 ≡ 0
  unfolding count_to
  count_none = refl

  pub count_more : (k : ℕ) → count_to f (suc k) ≡ count_to f k + pick (f k) 1 0
  unfolding count_to
  count_more k = refl

  -- a turn that does not count
  pub count_skip : (k n : ℕ) → f k ≡ false → n ≡ count_to f k → n ≡ count_to f (k + 1)
  count_skip k n e h = rw (add-one k, count_more k, e, h, add-zero)

-- what counts the same at each place counts the same
pub count_same :
    (f g : ℕ → Bool) (n : ℕ) → ((k : ℕ) → k < n → f k ≡ g k) → count_to f n ≡ count_to g n
count_same f g zero h = count_none f ∙ sym (count_none g)
count_same f g (suc n) h =
    rw (count_more f n, count_more g n, h n (omega arith), count_same f g n (λ k lt. h k (omega arith)))

-- what counts no place that another does not counts no more
pub count_fewer :
    (f g : ℕ → Bool) (n : ℕ) → ((k : ℕ) → k < n → f k ≡ true → g k ≡ true) → count_to f n ≤ count_to g n
count_fewer f g zero h = omega (arith, count_none f)
count_fewer f g (suc n) h =
    let less = count_fewer f g n (λ k lt. h k (omega arith)) in
    rw (count_more f n, count_more g n)
    (pick_ind (λ m. count_to f n + m ≤ count_to g n + pick (g n) 1 0) (f n)
    (λ e. rw (h n (omega arith) e) (omega (arith, less)))
    (λ _. omega (arith, less)))

-- ---- tested

module _ (f : ℕ → Bool) where
  pub every_none : every_to f 0 ≡ true
  unfolding every_to
  every_none = refl

  -- where all before it pass, the last one decides
  pub every_last : (k : ℕ) → every_to f k ≡ true → every_to f (suc k) ≡ f k
  unfolding every_to
  every_last k h = rw h

  pub every_more : (k : ℕ) → every_to f k ≡ true → f k ≡ true → every_to f (k + 1) ≡ true
  every_more k h e = rw (add-one k) (every_last k h ∙ e)

  -- a place that fails: the whole test does
  pub every_fails : (n k : ℕ) → k < n → f k ≡ false → every_to f n ≡ false
  unfolding every_to
  every_fails zero k h e = absurd (not-suc-le-zero h)
  every_fails (suc n) k h e =
      ⊎_elim
      (λ (same : k ≡ n). rw (← same, e) (pick_ind (λ t. t ≡ false) (every_to f k) (λ _. refl) (λ _. refl)))
      (λ (lt : k < n). rw (every_fails n k lt e))
      (eq-or-lt_of_le (le_of_suc-le-suc h))

  -- where the whole test passes, each place does
  pub every_at : (n k : ℕ) → k < n → every_to f n ≡ true → f k ≡ true
  unfolding every_to
  every_at zero k h e = absurd (not-suc-le-zero h)
  every_at (suc n) k h e =
      let p = pick_then (every_to f n) (f n) e in
      ⊎_elim (λ (same : k ≡ n). rw same p.1) (λ (lt : k < n). every_at n k lt p.0) (eq-or-lt_of_le (le_of_suc-le-suc h))

  -- where each place passes, the whole test does
  pub every_all : (n : ℕ) → ((k : ℕ) → k < n → f k ≡ true) → every_to f n ≡ true
  every_all zero h = every_none
  every_all (suc n) h = every_last n (every_all n (λ k lt. h k (omega arith))) ∙ h n (omega arith)

-- ---- changed

module _ {A : Type 0} (f : ℕ → A → A) where
  pub length_changed : (from : ℕ) (l : List A) → length (changed_from f from l) ≡ length l
  unfolding changed_from
  length_changed from [] = refl
  length_changed from (x ∷ l) = ap suc (length_changed (suc from) l)

  changed_from_lem :
      (d : A) (from : ℕ) (l : List A) (k : ℕ) → k < length l →
      get_or (changed_from f from l) k d ≡ f (from + k) (get_or l k d)
  unfolding changed_from
  changed_from_lem d from [] k h = absurd (not-suc-le-zero h)
  changed_from_lem d from (x ∷ l) zero h = rw add-zero
  changed_from_lem d from (x ∷ l) (suc k) h =
      changed_from_lem d (suc from) l k (le_of_suc-le-suc h) ∙ rw (suc-add, ← add-suc)

  -- what stands at a place, and past the end
  pub changed_at :
      (d : A) (l : List A) (k : ℕ) → k < length l → get_or (changed_from f 0 l) k d ≡ f k (get_or l k d)
  changed_at d l k h = rw zero-add at (changed_from_lem d 0 l k h)

  pub changed_past : (d : A) (l : List A) (k : ℕ) → length l ≤ k → get_or (changed_from f 0 l) k d ≡ d
  changed_past d l k h = get_or-eq_default (changed_from f 0 l) d (omega (arith, length_changed 0 l))

-- ---- gathered

module _ {A : Type 0} where
  pub gathered_none : (f : ℕ → List A) → gathered f 0 ≡ []
  unfolding gathered
  gathered_none f = refl

  pub gathered_more : (f : ℕ → List A) (k : ℕ) → gathered f (suc k) ≡ gathered f k ++ f k
  unfolding gathered
  gathered_more f k = refl

  -- where each place gives at most one thing, and none unless it passes the test
  pub gathered_few :
      (f : ℕ → List A) (g : ℕ → Bool) (n : ℕ) → ((k : ℕ) → k < n → length (f k) ≤ pick (g k) 1 0) →
      length (gathered f n) ≤ count_to g n
  gathered_few f g zero h = rw gathered_none (omega arith)
  gathered_few f g (suc n) h =
      rw (gathered_more f n, count_more g n, length-append (gathered f n) (f n))
      (omega (arith, h n (omega arith), gathered_few f g n (λ k lt. h k (omega arith))))

  -- what holds of nothing and of two lists put together, if it holds of each, holds of what is gathered if it holds of each part
  pub gathered_ind :
      (P : List A → Type 0) → P [] → ((xs ys : List A) → P xs → P ys → P (xs ++ ys)) → (f : ℕ → List A) (n : ℕ) →
      ((k : ℕ) → k < n → P (f k)) →
      P (gathered f n)
  gathered_ind P none both f zero h = rw gathered_none none
  gathered_ind P none both f (suc n) h =
      rw (gathered_more f n) (both _ _ (gathered_ind P none both f n (λ k lt. h k (omega arith))) (h n (omega arith)))

-- ---- things kept in an array, and blanks past them

-- the next one is stored at the first place past them
pub store_next :
    {A : Type 0} (es : List A) (e a : A) (left : ℕ) →
    set (es ++ replicate (suc left) a) (length es) e ≡ (es ++ (e ∷ [])) ++ replicate left a
store_next [] e a left = refl
store_next (f ∷ es) e a left = ap (λ (l : List _). f ∷ l) (store_next es e a left)
