-- Each promise of the crate explanations admits one answer, and one lent output afterwards. Assumes nothing.
use mathlib.Core.List.{List}
use Prim.Native.Nat.{ℕ}
use mathlib.Core.Path.{◌≡◌}
use Rattle.std.specs.Prelude.{Result}
use Rattle.laws.proofs.Picks.{both}
use Rattle.refusals.specs.declared.refusal.Refusal.{Refusal}
use Rattle.refusals.proofs.Handlings.{written_same}
use Rattle.explanations.specs.Explained.{Explains}

pub only_explain :
    (s xs : List ℕ) {r q : Result ℕ Refusal} {ys zs : List ℕ} → Explains s xs r ys → Explains s xs q zs → (r ≡ q) × (ys ≡ zs)
only_explain s xs {r} {q} a b = (
  written_same r q (both a.told b.told) (both a.count b.count),
  both a.lent b.lent,
)
