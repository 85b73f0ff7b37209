-- No number begins like an enumerated value: a reader may tell the two apart by the tag. Assumes nothing.
use Prim.Native.Nat.{ℕ}
use mathlib.Core.Path.{◌≡◌}
use mathlib.Core.Bool.{true, false≢true}
use mathlib.Core.List.{List}
use mathlib.Core.Logic.{⊎_elim}
use native.Mathlib.Omega.{arith}
use lib.ListN.{get_or}
use Rattle.laws.specs.Stands.{Stands}
use Rattle.octets.proofs.Firsts.{spells_first}
use Rattle.values.specs.Enumerated.{enumerated_tag}
use Rattle.numbers.specs.Number.{other_tag}
use Rattle.numbers.specs.Spelt.{NumberSpelt}
use Rattle.numbers.specs.declared.number.Number.{Number}

-- the tag of an enumerated value is none of the other kinds
other_not_enumerated : (tag : ℕ) → other_tag tag ≡ true → tag ≡ enumerated_tag → ⊥
unfolding other_tag
other_not_enumerated tag h e = false≢true (rw e at h)

pub number_first :
    {n : Number} {ws : List ℕ} (s : List ℕ) (at : ℕ) → NumberSpelt n ws → Stands s at ws → get_or s at 0 ≡ enumerated_tag → ⊥
number_first s at sp st e =
    ⊎_elim (λ u. omega (arith, spells_first s at u.spells st))
    (⊎_elim (λ u. omega (arith, spells_first s at u.spells st))
    (λ u. other_not_enumerated u.tag u.kinds (omega (arith, spells_first s at u.spells st)))) sp
