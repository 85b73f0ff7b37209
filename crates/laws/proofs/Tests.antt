-- Laws of tests put together. Assumes nothing.
use Prim.Native.Nat.{ℕ, zero, suc}
use mathlib.Core.Path.{◌≡◌, refl}
use mathlib.Core.Bool.{Bool, true, false}
use mathlib.Core.List.{List, [], ◌∷◌}
use lib.ListN.{get_or}
use Rattle.laws.specs.Pick.{pick}
use Rattle.laws.specs.Tests.{all}
use Rattle.laws.proofs.Picks.{pick_then}

-- where all hold, each does
pub all_at : (bs : List Bool) (k : ℕ) → all bs ≡ true → get_or bs k true ≡ true
all_at [] k h = refl
all_at (b ∷ bs) zero h = (pick_then b (all bs) h).0
all_at (b ∷ bs) (suc k) h = all_at bs k (pick_then b (all bs) h).1

-- where all of two hold, both do
pub both_hold : (b c : Bool) → all (b ∷ c ∷ []) ≡ true → (b ≡ true) × (c ≡ true)
both_hold b c h = let p = pick_then b (pick c true false) h in (p.0, (pick_then c true p.1).0)
