-- The number of a refusal names it, and what is told is taken apart. Assumes nothing.
use Prim.Native.Nat.{ℕ}
use mathlib.Core.Path.{◌≡◌, refl, sym, ap, ◌∙◌}
use mathlib.Core.List.{List, [], ◌∷◌}
use native.Mathlib.Omega.{arith}
use lib.ListN.{get_or}
use Rattle.refusals.specs.Refusal.{refusal_no, Told, refuses, tells}
use Rattle.refusals.specs.declared.refusal.Refusal.{Refusal}
use Rattle.refusals.specs.declared.refusal.Refusal.TheVariants.{ShortOutput, LongComponent, BadProfile, BadTable, BadCall}
use Rattle.refusals.specs.declared.refusal.Refusal.TheVariants.{LimitReached, Outstanding, Exhausted, BadSheet, BadRequest}

-- ---- refusals

-- each at the place of its number; none has the number 0
abbrev in_order : List Refusal
in_order =
    ShortOutput ∷ ShortOutput ∷ LongComponent ∷ BadProfile ∷ BadTable ∷ BadCall ∷ LimitReached ∷ Outstanding ∷ Exhausted ∷ BadSheet ∷
    BadRequest ∷ []

refusal_at : (a : Refusal) → a ≡ get_or in_order (refusal_no a) ShortOutput
refusal_at ShortOutput = refl
refusal_at LongComponent = refl
refusal_at BadProfile = refl
refusal_at BadTable = refl
refusal_at BadCall = refl
refusal_at LimitReached = refl
refusal_at Outstanding = refl
refusal_at Exhausted = refl
refusal_at BadSheet = refl
refusal_at BadRequest = refl

-- two refusals of the same number are the same
pub refusal_same : (a b : Refusal) → refusal_no a ≡ refusal_no b → a ≡ b
refusal_same a b h = refusal_at a ∙ ap (λ (n : ℕ). get_or in_order n ShortOutput) h ∙ sym (refusal_at b)

-- ---- what is told

module _ {A : Type 0} where
  abbrev number_of : Told A → ℕ
  number_of (refuses number) = number
  number_of (tells a) = 0

  abbrev kind_of : Told A → ℕ
  kind_of (refuses number) = 0
  kind_of (tells a) = 1

  abbrev part_of : A → Told A → A
  part_of a (refuses number) = a
  part_of a (tells b) = b

  -- two refusals that are told alike have one number
  pub refuses_same : (m n : ℕ) → ◌≡◌ {A = Told A} (refuses m) (refuses n) → m ≡ n
  refuses_same m n h = ap number_of h

  -- two answers that are told alike are the same
  pub tells_same : (a b : A) → ◌≡◌ {A = Told A} (tells a) (tells b) → a ≡ b
  tells_same a b h = ap (part_of a) h

  -- a refusal is no answer
  pub refuses_not : (n : ℕ) (a : A) → ◌≡◌ {A = Told A} (refuses n) (tells a) → ⊥
  refuses_not n a h = omega (arith, ap kind_of h)
