-- Each promise of the crate values admits one answer, and one lent output afterwards. Assumes nothing.
use Prim.Native.Nat.{ℕ}
use mathlib.Core.Path.{◌≡◌}
use mathlib.Core.List.{List}
use lib.IntN.{ℤ}
use Rattle.std.specs.Prelude.{Option}
use Rattle.laws.proofs.Picks.{both}
use Rattle.laws.proofs.Over.{only_puts}
use Rattle.values.specs.Enumerated.{EnumeratedAt, PutEnumerated}
use Rattle.values.specs.Ident.{IdentAt, IdentSize, PutIdent}
use Rattle.octets.specs.declared.found.Found.{Found}

-- ---- readers: the answer

module _ (depth : ℕ) (s : List ℕ) (at end : ℕ) where
  pub only_enumerated_at :
      {a b : Option (Found ℕ)} → EnumeratedAt depth s at end a → EnumeratedAt depth s at end b → a ≡ b
  only_enumerated_at = both

  pub only_ident_at : {a b : Option (Found ℤ)} → IdentAt depth s at end a → IdentAt depth s at end b → a ≡ b
  only_ident_at = both

pub only_ident_size : (z : ℤ) {a b : ℕ} → IdentSize z a → IdentSize z b → a ≡ b
only_ident_size z = both

-- ---- writers: the place after, and every octet of the output

module _ (xs : List ℕ) (at : ℕ) {p q : ℕ} {ys zs : List ℕ} where
  pub only_put_enumerated :
      (v : ℕ) → PutEnumerated xs at v p ys → PutEnumerated xs at v q zs → (p ≡ q) × (ys ≡ zs)
  only_put_enumerated v = only_puts

  pub only_put_ident : (z : ℤ) → PutIdent xs at z p ys → PutIdent xs at z q zs → (p ≡ q) × (ys ≡ zs)
  only_put_ident z = only_puts
