-- Each promise of the crate texts admits one answer, and one lent output afterwards. Assumes nothing.
use Prim.Native.Nat.{ℕ}
use mathlib.Core.List.{List}
use mathlib.Core.Path.{◌≡◌}
use Rattle.laws.proofs.Picks.{both}
use Rattle.texts.specs.Word.{HexOf}
use Rattle.texts.specs.Pen.{WritesText, WritesDecimal, WritesProcedure, WritesKind, WritesHex, WritesSub}
use Rattle.texts.proofs.Pens.{only_pen}

pub only_hex_of : (n : ℕ) {r q : ℕ} → HexOf n r → HexOf n q → r ≡ q
only_hex_of n a b = both a b

module _ (xs : List ℕ) (at : ℕ) {r q : ℕ} {ys zs : List ℕ} where
  pub only_write_text : (ws : List ℕ) → WritesText xs at ws r ys → WritesText xs at ws q zs → (r ≡ q) × (ys ≡ zs)
  only_write_text ws = only_pen

  pub only_write_decimal : (n : ℕ) → WritesDecimal xs at n r ys → WritesDecimal xs at n q zs → (r ≡ q) × (ys ≡ zs)
  only_write_decimal n = only_pen

  pub only_write_procedure :
      (procedure : ℕ) → WritesProcedure xs at procedure r ys → WritesProcedure xs at procedure q zs → (r ≡ q) × (ys ≡ zs)
  only_write_procedure procedure = only_pen

  pub only_write_kind : (form kind : ℕ) → WritesKind xs at form kind r ys → WritesKind xs at form kind q zs → (r ≡ q) × (ys ≡ zs)
  only_write_kind form kind = only_pen

  pub only_write_hex : (octets : List ℕ) → WritesHex xs at octets r ys → WritesHex xs at octets q zs → (r ≡ q) × (ys ≡ zs)
  only_write_hex octets = only_pen

  pub only_write_sub : (octets : List ℕ) → WritesSub xs at octets r ys → WritesSub xs at octets q zs → (r ≡ q) × (ys ≡ zs)
  only_write_sub octets = only_pen
