-- Numbers in groups of seven bits, "lowest first, top bit set if more follow, shortest only" (document 01, "Night sheet").
-- A number may be of any size: nothing wraps around.
use Rattle.std.specs.Prelude.{ℕ, zero, suc, ◌+◌, ◌-◌, ◌*◌, ◌/◌, ◌%◌, ◌^◌, ◌≡◌, List, [], ◌∷◌, length, get_or, ltb, eqb, Option, Some, None}
use Rattle.laws.specs.Pick.{pick}
use Rattle.laws.specs.Got.{Got, got, wrong}
use Rattle.laws.specs.Over.{Puts}
use Rattle.octets.specs.Found.{found}
use Rattle.octets.specs.declared.found.Found.{Found}

-- a lower group in front of the groups of a number, which is not 0: else the groups were not the shortest
abbrev pub infront : ℕ → Got ℕ → Got ℕ
infront low (got v next) = pick (eqb v 0) wrong (got (low + 128 * v) next)
infront low wrong = wrong

-- the number at `at`, of at most k groups
unfoldable pub groups_in : ℕ → List ℕ → ℕ → Got ℕ
groups_in zero s at = wrong
groups_in (suc k) s at =
    pick (ltb (get_or s at 0) 128) (got (get_or s at 0) (at + 1)) (infront (get_or s at 0 % 128) (groups_in k s (at + 1)))

-- the value of a number below 2 ^ 32; a larger one is only said to be one
abbrev pub told_value : ℕ → Option ℕ
told_value v = pick (ltb v (2 ^ 32)) (Some v) None

abbrev pub groups_told : Got ℕ → Got (Option ℕ)
groups_told (got v next) = got (told_value v) next
groups_told wrong = wrong

-- the number at `at`, of the octets of s before `end`
unfoldable pub groups_at : List ℕ → ℕ → ℕ → Got (Option ℕ)
groups_at s at end = pick (ltb (length s) end) wrong (groups_told (groups_in (end - at) s at))

-- n in at most k groups and one
unfoldable pub groups_with : ℕ → ℕ → List ℕ
groups_with zero n = n ∷ []
groups_with (suc k) n = pick (ltb n 128) (n ∷ []) ((128 + n % 128) ∷ groups_with k (n / 128))

-- n in its groups: n of them and one are more than enough
unfoldable pub groups : ℕ → List ℕ
groups n = groups_with n n

-- what `groups_at` promises
abbrev pub GroupsAt : List ℕ → ℕ → ℕ → Option (Found (Option ℕ)) → Type 0
GroupsAt s at end r = r ≡ found (groups_at s at end)

-- what `put_groups` promises
abbrev pub PutGroups : List ℕ → ℕ → ℕ → ℕ → List ℕ → Type 0
PutGroups xs at n next ys = Puts xs at (groups n) next ys
