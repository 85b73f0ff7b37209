-- Each promise of the crate numbers admits one answer. Assumes nothing.
use Prim.Native.Nat.{ℕ}
use mathlib.Core.Path.{◌≡◌}
use mathlib.Core.Bool.{Bool}
use mathlib.Core.List.{List}
use Rattle.std.specs.Prelude.{Option}
use Rattle.laws.proofs.Picks.{both}
use Rattle.numbers.specs.Number.{BlankNumber, NumberAt, NumberGood, NumberSize, PutNumber}
use Rattle.numbers.specs.Address.{BlankAddress, AddressAt, AddressGood, AddressSize, PutSub, PutAddress}
use Rattle.numbers.specs.declared.number.Number.{Number}
use Rattle.octets.specs.declared.found.Found.{Found}
use Rattle.numbers.specs.declared.address.Address.{Address}
use Rattle.numbers.specs.declared.address.Forwarded.{Forwarded}
use Rattle.laws.proofs.Over.{only_puts}

pub only_blank_number : {a b : Number} → BlankNumber a → BlankNumber b → a ≡ b
only_blank_number = both

pub only_blank_address : {a b : Address} → BlankAddress a → BlankAddress b → a ≡ b
only_blank_address = both

pub only_number_good : (n : Number) {a b : Bool} → NumberGood n a → NumberGood n b → a ≡ b
only_number_good n = both

pub only_address_good : (a : Address) {x y : Bool} → AddressGood a x → AddressGood a y → x ≡ y
only_address_good a = both

module _ (depth : ℕ) (s : List ℕ) (at end : ℕ) where
  pub only_number_at : {a b : Option (Found Number)} → NumberAt depth s at end a → NumberAt depth s at end b → a ≡ b
  only_number_at = both

  pub only_address_at :
      {a b : Option (Found Forwarded)} → AddressAt depth s at end a → AddressAt depth s at end b → a ≡ b
  only_address_at = both

pub only_number_size : (n : Number) {a b : ℕ} → NumberSize n a → NumberSize n b → a ≡ b
only_number_size n = both

pub only_address_size : (a : Address) {x y : ℕ} → AddressSize a x → AddressSize a y → x ≡ y
only_address_size a = both

module _ (xs : List ℕ) (at : ℕ) {p q : ℕ} {ys zs : List ℕ} where
  pub only_put_number : (n : Number) → PutNumber xs at n p ys → PutNumber xs at n q zs → (p ≡ q) × (ys ≡ zs)
  only_put_number n = only_puts

  pub only_put_sub : (a : Address) → PutSub xs at a p ys → PutSub xs at a q zs → (p ≡ q) × (ys ≡ zs)
  only_put_sub a = only_puts

  pub only_put_address : (a : Address) → PutAddress xs at a p ys → PutAddress xs at a q zs → (p ≡ q) × (ys ≡ zs)
  only_put_address a = only_puts
