-- What a good profile says of diversions. Assumes nothing.
use Prim.Native.Nat.{◌≤◌}
use mathlib.Core.Path.{◌≡◌}
use mathlib.Core.Bool.{Bool, true}
use mathlib.Core.List.{List, [], ◌∷◌}
use lib.Dec.{leb}
use borrow.Author.Tests.{leb-true}
use Rattle.profile.specs.Profile.{flag, diversion_good, profile_good}
use Rattle.profile.specs.declared.profile.Profile.{Profile}
use Rattle.laws.proofs.Tests.{all_at}
use Rattle.profile.proofs.Profiles.{rule_at}

-- "notification option 0 to 2"
pub option_most : (p : Profile) → profile_good p ≡ true → p.option ≤ 2
unfolding diversion_good
option_most p h =
    let tests : List Bool = leb p.option 2 ∷ flag p.release ∷ leb 1 p.limit ∷ leb p.limit 5 ∷ [] in
    leb-true p.option 2 (all_at tests 0 (rule_at p 4 h))
