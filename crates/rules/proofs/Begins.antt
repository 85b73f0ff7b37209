-- Laws of digits that begin with a prefix, over plain values: what the code and its loop need. Assumes nothing.
use Prim.Native.Nat.{ℕ, suc, ◌+◌, ◌<◌}
use mathlib.Core.Path.{◌≡◌, refl, ◌∙◌}
use mathlib.Core.Bool.{Bool, true, false}
use mathlib.Core.List.{List, [], ◌∷◌}
use native.Mathlib.Numerals.{add-one}
use lib.ListN.{length, take, drop, get_or}
use lib.Dec.{eqb}
use borrow.Author.Tests.{eq-eqb}
use Rattle.std.specs.List.{starts_with}
use Rattle.laws.specs.Pick.{pick}
use Rattle.laws.proofs.Lefts.{left_cons}
use Rattle.laws.proofs.Picks.{by_bool, pick_last}
use Rattle.profile.specs.Profile.{no_prefix}
use Rattle.profile.specs.declared.profile.Prefix.{Prefix}
use Rattle.rules.specs.Prefix.{begins, begins_any}

-- a slice that starts with a prefix says the same
pub begins_starts : (ds cs : List ℕ) → starts_with eqb cs ds ≡ begins ds cs
unfolding begins
begins_starts [] cs = refl
begins_starts (d ∷ ds) [] = refl
begins_starts (d ∷ ds) (c ∷ cs) =
    by_bool (starts_with eqb (c ∷ cs) (d ∷ ds) ≡ begins (d ∷ ds) (c ∷ cs)) (eqb d c)
    (λ h. rw (h, pick_last (begins ds cs)) (begins_starts ds cs))
    (λ h. rw h)

-- ---- digits that begin with one of the prefixes

module _ (cs : List ℕ) (l : List Prefix) where
  module _ (f : Prefix) (m : List Prefix) (e : l ≡ f ∷ m) where
    -- they begin with the first of them
    pub any_here : begins (take f.count f.digits) cs ≡ true → begins_any l cs ≡ true
    unfolding begins_any
    any_here h = rw (e, h)

    pub any_on : begins (take f.count f.digits) cs ≡ false → begins_any l cs ≡ begins_any m cs
    unfolding begins_any
    any_on h = rw (e, h, pick_last (begins_any m cs))

  pub any_none : l ≡ [] → begins_any l cs ≡ false
  unfolding begins_any
  any_none e = rw e

-- ---- place by place: what is left of both decides

module _ (count long : ℕ) (prefix digits : List ℕ) where
  abbrev pub Begun : ℕ → Type 0
  Begun i =
      begins (take count prefix) (take long digits)
      ≡ begins (drop i (take count prefix)) (drop i (take long digits))

  step :
      (i : ℕ) → i < count → i < length prefix → i < long → i < length digits →
      begins (drop i (take count prefix)) (drop i (take long digits))
      ≡ pick (eqb (get_or prefix i 0) (get_or digits i 0))
      (begins (drop (suc i) (take count prefix)) (drop (suc i) (take long digits)))
      false
  unfolding begins
  step i h room g other = rw (left_cons count prefix i 0 h room, left_cons long digits i 0 g other, pick_last)

  pub begun_next :
      (i : ℕ) → i < count → i < length prefix → i < long → i < length digits →
      get_or prefix i 0 ≡ get_or digits i 0 → Begun i →
      Begun (i + 1)
  begun_next i h room g other e begun = begun ∙ rw (step i h room g other, eq-eqb _ _ e, add-one)

abbrev begins_with : Prefix → List ℕ → Bool
begins_with f cs = begins (take f.count f.digits) cs

module _ (count : ℕ) (prefixes : List Prefix) (cs : List ℕ) where
  abbrev pub Tried : ℕ → Type 0
  Tried k = begins_any (take count prefixes) cs ≡ begins_any (drop k (take count prefixes)) cs

  pub tried_next :
      (k : ℕ) → k < count → k < length prefixes → begins_with (get_or prefixes k no_prefix) cs ≡ false → Tried k →
      Tried (k + 1)
  unfolding begins_any
  tried_next k h long e tried = tried ∙ rw (left_cons count prefixes k no_prefix h long, e, add-one, pick_last)
