-- What holds of the thing that a reader finds. Assumes nothing.
use Prim.Native.Nat.{ℕ}
use mathlib.Core.Path.{◌≡◌, refl, subst}
use Rattle.laws.specs.Got.{Got, got, wrong, and_then}

-- P holds of what was found, if anything was
abbrev pub Something : {A : Type 0} → (A → Type 0) → Got A → Type 0
Something P (got a place) = P a
Something P wrong = Unit {0}

-- what is found after something else
pub found_then :
    {A B : Type 0} (P : B → Type 0) (g : Got A) (next : A → ℕ → Got B) →
    ((a : A) (place : ℕ) → g ≡ got a place → Something P (next a place)) →
    Something P (and_then g next)
found_then P (got a place) next f = f a place refl
found_then P wrong next f = tt

-- P holds of what a reader is known to find
pub found_is : {A : Type 0} (P : A → Type 0) {g : Got A} {a : A} {place : ℕ} → g ≡ got a place → Something P g → P a
found_is P e h = subst (Something P) e h

-- the same of what is found and of the place after it
abbrev pub FoundAt : {A : Type 0} → (A → ℕ → Type 0) → Got A → Type 0
FoundAt P (got a next) = P a next
FoundAt P wrong = Unit {0}

pub found_at_then :
    {A B : Type 0} (P : B → ℕ → Type 0) (g : Got A) (k : A → ℕ → Got B) →
    ((a : A) (place : ℕ) → g ≡ got a place → FoundAt P (k a place)) →
    FoundAt P (and_then g k)
found_at_then P (got a place) k f = f a place refl
found_at_then P wrong k f = tt

pub found_at_is :
    {A : Type 0} (P : A → ℕ → Type 0) {g : Got A} {a : A} {next : ℕ} → g ≡ got a next → FoundAt P g → P a next
found_at_is P e h = subst (FoundAt P) e h
