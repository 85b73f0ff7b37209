-- Laws of `pick`. Assumes nothing.
use mathlib.Core.Path.{◌≡◌, refl, sym, ◌∙◌}
use mathlib.Core.Bool.{Bool, true, false, not, false≢true}
use Rattle.laws.specs.Pick.{pick}

-- what holds of both answers holds of the one picked
pub pick_ind :
    {A : Type 0} (P : A → Type 0) (b : Bool) {x y : A} →
    (b ≡ true → P x) →
    (b ≡ false → P y) →
    P (pick b x y)
pick_ind P true f g = f refl
pick_ind P false f g = g refl

-- two things that are both the same one are equal: why a promise that is an equation admits one answer
pub both : {A : Type 0} {x a b : A} → a ≡ x → b ≡ x → a ≡ b
both p q = p ∙ sym q

-- a test that must pass, and then another: both do
pub pick_then : (b c : Bool) → pick b c false ≡ true → (b ≡ true) × (c ≡ true)
pick_then true c h = (refl, h)
pick_then false c h = absurd (false≢true h)

-- a test that must fail, and then another that must pass
pub pick_else : (b c : Bool) → pick b false c ≡ true → (b ≡ false) × (c ≡ true)
pick_else true c h = absurd (false≢true h)
pick_else false c h = (refl, h)

-- what is made of the answer picked is picked of what is made of both
pub pick_map : {A B : Type 0} (f : A → B) (b : Bool) (x y : A) → f (pick b x y) ≡ pick b (f x) (f y)
pick_map f true x y = refl
pick_map f false x y = refl

-- where the answer picked is not the second, the test passed
pub pick_first : {A : Type 0} (b : Bool) (x y : A) → (pick b x y ≡ y → ⊥) → b ≡ true
pick_first true x y h = refl
pick_first false x y h = absurd (h refl)

-- a test that is the last of several
pub pick_last : (b : Bool) → pick b true false ≡ b
pick_last true = refl
pick_last false = refl

-- a test that must fail
pub not_passed : (b : Bool) → not b ≡ true → b ≡ false
not_passed true h = absurd (false≢true h)
not_passed false h = refl

-- by cases of a test
pub by_bool : (P : Type 0) (b : Bool) → (b ≡ true → P) → (b ≡ false → P) → P
by_bool P true f g = f refl
by_bool P false f g = g refl
