-- What holds of each thing of a list, and lists whose things ascend by a number. Assumes nothing.
use Prim.Native.Nat.{ℕ, ◌<◌, ◌≤◌}
use mathlib.Core.Path.{◌≡◌}
use mathlib.Core.Bool.{Bool, true}
use mathlib.Core.List.{List, [], ◌∷◌, ◌++◌, map}
use native.Mathlib.Omega.{arith}
use Rattle.laws.specs.Those.{those}
use Rattle.laws.proofs.Picks.{pick_ind}

-- ---- each thing of a list

abbrev pub Each : {A : Type 0} → (A → Type 0) → List A → Type 0
Each P [] = Unit {0}
Each P (x ∷ xs) = P x × Each P xs

module _ {A : Type 0} (P : A → Type 0) where
  pub each_so : (Q : A → Type 0) → ((x : A) → P x → Q x) → (l : List A) → Each P l → Each Q l
  each_so Q f [] h = tt
  each_so Q f (x ∷ l) h = (f x h.0, each_so Q f l h.1)

  pub each_append : (xs ys : List A) → Each P xs → Each P ys → Each P (xs ++ ys)
  each_append [] ys h k = k
  each_append (x ∷ xs) ys h k = (h.0, each_append xs ys h.1 k)

  -- those that pass a test pass it
  pub each_those : (f : A → Bool) (l : List A) → Each P l → Each (λ x. P x × (f x ≡ true)) (those f l)
  unfolding those
  each_those f [] h = tt
  each_those f (x ∷ l) h =
      pick_ind (Each (λ x. P x × (f x ≡ true))) (f x) {x = x ∷ those f l} {y = those f l}
      (λ e. ((h.0, e), each_those f l h.1))
      (λ _. each_those f l h.1)

pub each_map : {A B : Type 0} (P : B → Type 0) (g : A → B) (l : List A) → Each (λ x. P (g x)) l → Each P (map g l)
each_map P g [] h = tt
each_map P g (x ∷ l) h = (h.0, each_map P g l h.1)

-- ---- ascending by the number k, each above the one before it, the first above `below`

abbrev pub Up : {A : Type 0} → (A → ℕ) → ℕ → List A → Type 0
Up k below [] = Unit {0}
Up k below (x ∷ xs) = (below < k x) × Up k (k x) xs

module _ {A : Type 0} (k : A → ℕ) where
  pub up_low : (b c : ℕ) (l : List A) → b ≤ c → Up k c l → Up k b l
  up_low b c [] h u = tt
  up_low b c (x ∷ l) h u = (omega (arith, u.0), u.1)

  -- of things that ascend, those that pass a test do
  pub up_those : (f : A → Bool) (b : ℕ) (l : List A) → Up k b l → Up k b (those f l)
  unfolding those
  up_those f b [] h = tt
  up_those f b (x ∷ l) h =
      pick_ind (Up k b) (f x) {x = x ∷ those f l} {y = those f l}
      (λ _. (h.0, up_those f (k x) l h.1))
      (λ _. up_those f b l (up_low b (k x) l (omega (arith, h.0)) h.1))

pub up_map : {A B : Type 0} (k : B → ℕ) (g : A → B) (b : ℕ) (l : List A) → Up (λ x. k (g x)) b l → Up k b (map g l)
up_map k g b [] h = tt
up_map k g b (x ∷ l) h = (h.0, up_map k g (k (g x)) l h.1)
