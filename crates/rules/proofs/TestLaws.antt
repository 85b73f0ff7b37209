-- Laws of the test whether a selected number is the one forwarded to, over plain values: what its loop needs. Assumes nothing.
use Prim.Native.Nat.{ℕ, ◌+◌}
use mathlib.Core.Path.{◌≡◌}
use mathlib.Core.Bool.{true, false}
use mathlib.Core.List.{List, [], ◌∷◌}
use native.Mathlib.Numerals.{add-one, one-add}
use Rattle.laws.proofs.Picks.{pick_last}
use Rattle.numbers.specs.declared.number.Number.{Number}
use Rattle.profile.specs.Profile.{same}
use Rattle.profile.specs.declared.profile.Profile.{Profile}
use Rattle.instances.specs.Instance.{every_number, named}
use Rattle.rules.specs.Judge.{selected_same}

module _ (p : Profile) (asked : ℕ) (to : Number) (k : ℕ) (l : List Number) where
  module _ (n : Number) (m : List Number) (e : l ≡ n ∷ m) where
    -- the first was asked for and is the same
    pub same_here : named every_number asked k ≡ true → same p n to ≡ true → selected_same p asked to k l ≡ true
    unfolding selected_same
    same_here chosen alike = rw (e, chosen, alike)

    -- it was not asked for
    pub same_skip : named every_number asked k ≡ false → selected_same p asked to k l ≡ selected_same p asked to (k + 1) m
    unfolding selected_same
    same_skip chosen = rw (e, chosen, one-add, add-one, pick_last)

    -- it is another
    pub same_other :
        named every_number asked k ≡ true → same p n to ≡ false → selected_same p asked to k l ≡ selected_same p asked to (k + 1) m
    unfolding selected_same
    same_other chosen alike = rw (e, chosen, alike, one-add, add-one, pick_last)

  pub same_none : l ≡ [] → selected_same p asked to k l ≡ false
  unfolding selected_same
  same_none e = rw e
