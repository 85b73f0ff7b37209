-- What a reader's answer says of what its definition finds: a caller that goes on after `?` cites these. Assumes nothing.
use Prim.Native.Nat.{ℕ}
use mathlib.Core.Path.{◌≡◌, refl, sym, ap, ◌∙◌}
use Rattle.std.specs.Prelude.{Option, Some, None}
use Rattle.laws.specs.Got.{Got, got, wrong}
use Rattle.octets.specs.Found.{found, only_found}
use Rattle.octets.specs.declared.found.Found.{Found}

-- back from an answer
abbrev told : {A : Type 0} → Option (Found A) → Got A
told (Some f) = got f.value f.next
told None = wrong

told_found : {A : Type 0} (g : Got A) → told (found g) ≡ g
told_found (got a place) = refl
told_found wrong = refl

-- a thing and its place were found, and nothing was
pub found_got : {A : Type 0} (g : Got A) {r : Option (Found A)} {f : Found A} → r ≡ found g → r ≡ Some f → g ≡ got f.value f.next
found_got g e s = sym (told_found g) ∙ ap told (sym e ∙ s)

pub found_wrong : {A : Type 0} (g : Got A) {r : Option (Found A)} → r ≡ found g → r ≡ None → g ≡ wrong
found_wrong g e s = sym (told_found g) ∙ ap told (sym e ∙ s)

-- the same where the answer is the thing alone: it was found at some place
pub record Somewhere {A : Type 0} (g : Got A) (a : A) : Type 0 where
  pub place : ℕ
  pub is : g ≡ got a place

abbrev SomewhereIf : {A : Type 0} → Got A → Option A → Type 0
SomewhereIf g (Some a) = Somewhere g a
SomewhereIf g None = g ≡ wrong

somewhere_if : {A : Type 0} (g : Got A) → SomewhereIf g (only_found g)
somewhere_if (got a place) = record { place = place; is = refl }
somewhere_if wrong = refl

pub only_got : {A : Type 0} (g : Got A) {r : Option A} {a : A} → r ≡ only_found g → r ≡ Some a → Somewhere g a
only_got g e s = rw (sym e ∙ s) at (somewhere_if g)

pub only_wrong : {A : Type 0} (g : Got A) {r : Option A} → r ≡ only_found g → r ≡ None → g ≡ wrong
only_wrong g e s = rw (sym e ∙ s) at (somewhere_if g)
