-- What is found of a whole, and of its parts. Assumes nothing.
use Prim.Native.Nat.{ℕ}
use mathlib.Core.Path.{◌≡◌, refl, sym, ◌∙◌}
use mathlib.Core.Bool.{Bool, true, false}
use Rattle.laws.specs.Pick.{pick}
use Rattle.laws.specs.Got.{Got, got, wrong, and_then}
use Rattle.std.specs.Prelude.{Option, Some, None}
use Rattle.octets.specs.Found.{found}
use Rattle.octets.specs.declared.found.Found.{Found}
use Rattle.forms.specs.inner.Reading.{got_as}

-- ---- a thing that a test lets in, and what is made of it

pub test_none : {A : Type 0} (b : Bool) → ◌≡◌ {A = Got A} (pick b wrong wrong) wrong
test_none true = refl
test_none false = refl

pub test_then :
    {A B : Type 0} (b : Bool) (a : A) (place : ℕ) (next : A → ℕ → Got B) →
    and_then (pick b (got a place) wrong) next ≡ pick b (next a place) wrong
test_then true a place next = refl
test_then false a place next = refl

-- parts that are put together before the rest are put together with it
pub then_through :
    {A B C : Type 0} (g : Got A) (f : A → ℕ → Got B) (k : A → ℕ → Got C) (h : B → ℕ → Got C) →
    ((a : A) (place : ℕ) → k a place ≡ and_then (f a place) h) →
    and_then g k ≡ and_then (and_then g f) h
then_through (got a place) f k h e = e a place
then_through wrong f k h e = refl

-- ---- a thing that its reader keeps in another form

pub record Keeps {A B : Type 0} (f : A → B) (g : Got A) (r : Found B) : Type 0 where
  pub thing : A
  pub is : g ≡ got thing r.next
  pub held : r.value ≡ f thing

abbrev KeepsIf : {A B : Type 0} → (A → B) → Got A → Option (Found B) → Type 0
KeepsIf f g (Some r) = Keeps f g r
KeepsIf f g None = g ≡ wrong

keeps_if : {A B : Type 0} (f : A → B) (g : Got A) → KeepsIf f g (found (got_as f g))
keeps_if f (got a place) = record { thing = a; is = refl; held = refl }
keeps_if f wrong = refl

-- what its answer says of what was found
pub got_as_got :
    {A B : Type 0} (f : A → B) (g : Got A) {r : Option (Found B)} {b : Found B} →
    r ≡ found (got_as f g) → r ≡ Some b → Keeps f g b
got_as_got f g e s = rw (sym e ∙ s) at (keeps_if f g)

pub got_as_wrong : {A B : Type 0} (f : A → B) (g : Got A) {r : Option (Found B)} → r ≡ found (got_as f g) → r ≡ None → g ≡ wrong
got_as_wrong f g e s = rw (sym e ∙ s) at (keeps_if f g)
