-- Each promise of the crate refusals admits one answer. Assumes nothing.
use Prim.Native.Nat.{ℕ}
use mathlib.Core.Path.{◌≡◌}
use Rattle.laws.proofs.Picks.{both}
use Rattle.refusals.specs.Refusal.{RefusalNo}
use Rattle.refusals.specs.declared.refusal.Refusal.{Refusal}

pub only_refusal_as_u8 : (refusal : Refusal) {a b : ℕ} → RefusalNo refusal a → RefusalNo refusal b → a ≡ b
only_refusal_as_u8 refusal = both
