-- Each promise of the crate listings admits one answer, and one lent output afterwards. Assumes nothing.
use Prim.Native.Nat.{ℕ}
use mathlib.Core.List.{List}
use mathlib.Core.Path.{◌≡◌}
use Rattle.std.specs.Prelude.{Result}
use Rattle.laws.proofs.Picks.{both}
use Rattle.refusals.specs.declared.refusal.Refusal.{Refusal}
use Rattle.refusals.proofs.Handlings.{written_same}
use Rattle.listings.specs.Listing.{ListsSheet, PrintsSheet}

pub only_list_sheet :
    (s xs : List ℕ) {r q : Result ℕ Refusal} {ys zs : List ℕ} → ListsSheet s xs r ys → ListsSheet s xs q zs → (r ≡ q) × (ys ≡ zs)
only_list_sheet s xs {r} {q} a b = (
  written_same r q (both a.told b.told) (both a.count b.count),
  both a.lent b.lent,
)

pub only_print_sheet :
    (s xs : List ℕ) {r q : ℕ} {ys zs : List ℕ} → PrintsSheet s xs r ys → PrintsSheet s xs q zs → (r ≡ q) × (ys ≡ zs)
only_print_sheet s xs a b = (both a.count b.count, both a.lent b.lent)
