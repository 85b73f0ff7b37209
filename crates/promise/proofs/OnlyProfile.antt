-- Each promise of the crate profile admits one answer. Assumes nothing.
use Prim.Native.Nat.{ℕ}
use mathlib.Core.Path.{◌≡◌}
use mathlib.Core.Bool.{Bool}
use mathlib.Core.List.{List}
use Rattle.std.specs.Prelude.{Option}
use Rattle.laws.proofs.Picks.{both}
use Rattle.numbers.specs.declared.number.Number.{Number}
use Rattle.profile.specs.Profile.{Same, NumberPlace, ServiceSlot}
use Rattle.profile.specs.Access.{ReadAccess}
use Rattle.profile.specs.declared.profile.Profile.{Profile}

pub only_same : (p : Profile) (m n : Number) {a b : Bool} → Same p m n a → Same p m n b → a ≡ b
only_same p m n = both

pub only_number_place :
    (p : Profile) (n : Number) {a b : ℕ} → NumberPlace p n a → NumberPlace p n b → a ≡ b
only_number_place p n = both

pub only_service_slot :
    (p : Profile) (service : ℕ) {a b : ℕ} → ServiceSlot p service a → ServiceSlot p service b → a ≡ b
only_service_slot p service = both

pub only_read_access : (s : List ℕ) {a b : Option Profile} → ReadAccess s a → ReadAccess s b → a ≡ b
only_read_access s = both
