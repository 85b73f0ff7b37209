-- Where a search over a list ends. Assumes nothing.
use Prim.Native.Nat.{ℕ}
use mathlib.Core.Path.{◌≡◌}
use mathlib.Core.Bool.{Bool, not, cond}
use mathlib.Core.List.{List}
use native.Mathlib.Omega.{arith}
use lib.Dec.{ltb}
use lib.ListN.{length}
use borrow.Author.Tests.{ltb-false}
use Rattle.std.specs.Prelude.{Option, Some, None}
use Rattle.std.specs.Option.{unwrap_or}
use Rattle.std.specs.List.{position_or_len}
use Rattle.std.proofs.lemmas.List.Sums.{prefix_len-le-length}
use Rattle.laws.proofs.Picks.{by_bool}

-- at the first that passes, or after the last
pub found_at :
    {A : Type 0} (test : A → Bool) (l : List A) (r : Option ℕ) →
    r ≡ cond (ltb (position_or_len test l) (length l)) (Some (position_or_len test l)) None → unwrap_or r (length l) ≡ position_or_len test l
found_at test l r e =
    let n : ℕ = position_or_len test l in
    rw e
    (by_bool (unwrap_or (cond (ltb n (length l)) (Some n) None) (length l) ≡ n) (ltb n (length l))
    (λ h. rw h)
    (λ h. rw h (omega (arith, ltb-false n (length l) h, prefix_len-le-length (λ x. not (test x)) l))))
