-- The test whether a selected number is the one forwarded to, number by number. Assumes nothing.
use Prim.Native.Nat.{ℕ, ◌+◌}
use mathlib.Core.Path.{◌≡◌, refl}
use mathlib.Core.Bool.{false}
use mathlib.Core.List.{List, [], ◌∷◌}
use Rattle.laws.specs.Tests.{all, any}
use Rattle.numbers.specs.declared.number.Number.{Number}
use Rattle.profile.specs.Profile.{same}
use Rattle.profile.specs.declared.profile.Profile.{Profile}
use Rattle.instances.specs.Instance.{every_number, named}
use Rattle.rules.specs.Judge.{selected_same}

module _ (p : Profile) (asked : ℕ) (to : Number) (from : ℕ) where
  pub selected_none : selected_same p asked to from [] ≡ false
  unfolding selected_same
  selected_none = refl

  pub selected_more :
      (n : Number) (ns : List Number) →
      selected_same p asked to from (n ∷ ns)
      ≡ any (all (named every_number asked from ∷ same p n to ∷ []) ∷ selected_same p asked to (1 + from) ns ∷ [])
  unfolding selected_same
  selected_more n ns = refl
