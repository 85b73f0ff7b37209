-- What the private functions under `groups_at` promise.
use Rattle.std.specs.Prelude.{ℕ, zero, suc, ◌+◌, ◌*◌, ◌%◌, ◌≤◌, ◌<◌, List, get_or, Option, Some, None}

-- the most groups of a number below 2 ^ 32
abbrev pub groups_most : ℕ
groups_most = 5

-- the octets from `at` up to r all say that more follow; the one at r, if r is before `end`, says that it is the last
pub record LastAt (s : List ℕ) (at end r : ℕ) : Type 0 where
  pub from : at ≤ r
  pub within : r ≤ end
  pub more : (i : ℕ) → at ≤ i → i < r → 128 ≤ get_or s i 0
  pub last : r < end → get_or s r 0 < 128

-- the place that was found, before `end`; where none was, every octet before `end` says that more follow
abbrev pub LastGroup : List ℕ → ℕ → ℕ → Option ℕ → Type 0
LastGroup s at end (Some r) = (r < end) × LastAt s at end r
LastGroup s at end None = LastAt s at end end

-- the number that k groups from `at` on stand for, whether they are shortest or not
unfoldable pub groups_value : ℕ → List ℕ → ℕ → ℕ
groups_value zero s at = 0
groups_value (suc k) s at = get_or s at 0 % 128 + 128 * groups_value k s (at + 1)
