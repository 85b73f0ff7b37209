-- Each promise of the crate codes admits one answer. Assumes nothing.
use Prim.Native.Nat.{ℕ}
use mathlib.Core.Path.{◌≡◌}
use mathlib.Core.Bool.{Bool}
use mathlib.Core.List.{List}
use Rattle.laws.proofs.Picks.{both}
use Rattle.codes.specs.Codes.{ServicePlace, TrunkReason, ServiceCode}
use Rattle.codes.specs.Digits.{AllDigits, TypeGood}

pub only_service_place : (code : ℕ) {a b : ℕ} → ServicePlace code a → ServicePlace code b → a ≡ b
only_service_place code = both

pub only_service_code : (code : ℕ) {a b : Bool} → ServiceCode code a → ServiceCode code b → a ≡ b
only_service_code code = both

pub only_trunkreason : (reason : ℕ) {a b : ℕ} → TrunkReason reason a → TrunkReason reason b → a ≡ b
only_trunkreason reason = both

pub only_all_digits : (s : List ℕ) {a b : Bool} → AllDigits s a → AllDigits s b → a ≡ b
only_all_digits s = both

pub only_type_good : (kind : ℕ) {a b : Bool} → TypeGood kind a → TypeGood kind b → a ≡ b
only_type_good kind = both
