-- Each promise of the crate groups admits one answer, and one lent output afterwards. Assumes nothing.
use Prim.Native.Nat.{ℕ}
use mathlib.Core.Path.{◌≡◌}
use mathlib.Core.List.{List}
use Rattle.std.specs.Prelude.{Option}
use Rattle.laws.proofs.Picks.{both}
use Rattle.laws.proofs.Over.{only_puts}
use Rattle.groups.specs.Groups.{GroupsAt, PutGroups}
use Rattle.octets.specs.declared.found.Found.{Found}

pub only_groups_at :
    (s : List ℕ) (at end : ℕ) {a b : Option (Found (Option ℕ))} → GroupsAt s at end a → GroupsAt s at end b → a ≡ b
only_groups_at s at end = both

pub only_put_groups :
    (xs : List ℕ) (at : ℕ) {p q : ℕ} {ys zs : List ℕ} (n : ℕ) → PutGroups xs at n p ys → PutGroups xs at n q zs →
    (p ≡ q) × (ys ≡ zs)
only_put_groups xs at n = only_puts
