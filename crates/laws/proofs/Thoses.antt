-- Laws of `those`: what passes is taken, what does not is left out. Assumes nothing.
use Prim.Native.Nat.{suc, ◌≤◌}
use mathlib.Core.Path.{◌≡◌, refl, ap}
use mathlib.Core.Bool.{Bool, true, false}
use mathlib.Core.List.{List, [], ◌∷◌}
use native.Mathlib.Omega.{arith}
use lib.ListN.{length}
use Rattle.laws.specs.Pick.{pick}
use Rattle.laws.specs.Those.{those}
use Rattle.laws.proofs.Picks.{pick_ind, by_bool}

module _ {A : Type 0} (f : A → Bool) (l m : List A) (x : A) (e : l ≡ x ∷ m) where
  pub those_take : f x ≡ true → those f l ≡ x ∷ those f m
  unfolding those
  those_take h = rw (e, h)

  pub those_skip : f x ≡ false → those f l ≡ those f m
  unfolding those
  those_skip h = rw (e, h)

pub those_none : {A : Type 0} (f : A → Bool) (l : List A) → l ≡ [] → those f l ≡ []
unfolding those
those_none f l e = rw e

-- no more pass than there are
pub those_most : {A : Type 0} (f : A → Bool) (l : List A) → length (those f l) ≤ length l
those_most f [] = omega (arith, ap length (those_none f [] refl))
those_most f (x ∷ l) =
    by_bool (length (those f (x ∷ l)) ≤ suc (length l)) (f x)
    (λ h. omega (arith, those_most f l, ap length (those_take f (x ∷ l) l x refl h)))
    (λ h. omega (arith, those_most f l, ap length (those_skip f (x ∷ l) l x refl h)))

-- a test in one list that another is taken from
module _ {A : Type 0} (x : A) (m l : List A) (less : length m ≤ length l) where
  fewer_both : (t : Bool) → length (pick t (x ∷ m) m) ≤ length (pick t (x ∷ l) l)
  fewer_both true = omega (arith, less)
  fewer_both false = less

  fewer_one : (t : Bool) → length m ≤ length (pick t (x ∷ l) l)
  fewer_one true = omega (arith, less)
  fewer_one false = less

pub those_fewer : {A : Type 0} (f g : A → Bool) (l : List A) → length (those g (those f l)) ≤ length (those g l)
unfolding those
those_fewer f g [] = omega arith
those_fewer f g (x ∷ l) =
    let less = those_fewer f g l in
    pick_ind (λ m. length (those g m) ≤ length (pick (g x) (x ∷ those g l) (those g l))) (f x) {x = x ∷ those f l} {y = those f l}
    (λ _. fewer_both x (those g (those f l)) (those g l) less (g x))
    (λ _. fewer_one x (those g (those f l)) (those g l) less (g x))

-- a test that says more than another
pub those_sub :
    {A : Type 0} (f g : A → Bool) → ((x : A) → f x ≡ true → g x ≡ true) → (l : List A) → those f (those g l) ≡ those f l
unfolding those
those_sub f g so [] = refl
those_sub f g so (x ∷ l) =
    let less = those_sub f g so l in
    by_bool (those f (those g (x ∷ l)) ≡ those f (x ∷ l)) (f x)
    (λ h. rw (so x h, h) (ap (λ m. x ∷ m) less))
    (λ h. by_bool (those f (those g (x ∷ l)) ≡ those f (x ∷ l)) (g x) (λ k. rw (k, h) less) (λ k. rw (k, h) less))
