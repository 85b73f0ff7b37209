-- Each promise of the crate octets admits one answer, and one lent output afterwards. Assumes nothing.
use Prim.Native.Nat.{ℕ}
use mathlib.Core.Path.{◌≡◌}
use mathlib.Core.Bool.{Bool}
use mathlib.Core.List.{List}
use Rattle.std.specs.Prelude.{Option}
use Rattle.laws.proofs.Picks.{both}
use Rattle.laws.proofs.Over.{only_puts}
use Rattle.octets.specs.Word.{WordIn, PutWord}
use Rattle.octets.specs.Head.{HeadAt}
use Rattle.octets.specs.Room.{HasRoom}
use Rattle.octets.specs.Element.{HeadSize, PutHead, PutAll}
use Rattle.octets.specs.declared.head.Head.{Head}

-- ---- readers: the answer

pub only_word_in : (k : ℕ) (s : List ℕ) (at : ℕ) {a b : ℕ} → WordIn k s at a → WordIn k s at b → a ≡ b
only_word_in k s at a b = both a.is b.is

pub only_head_at :
    (depth : ℕ) (s : List ℕ) (at end : ℕ) {a b : Option Head} → HeadAt depth s at end a → HeadAt depth s at end b → a ≡ b
only_head_at depth s at end = both

pub only_has_room : (xs : List ℕ) (at need : ℕ) {a b : Bool} → HasRoom xs at need a → HasRoom xs at need b → a ≡ b
only_has_room xs at need = both

pub only_head_size : (n : ℕ) {a b : ℕ} → HeadSize n a → HeadSize n b → a ≡ b
only_head_size n = both

-- ---- writers: the place after, and every octet of the output

module _ (xs : List ℕ) (at : ℕ) {p q : ℕ} {ys zs : List ℕ} where
  pub only_put_word : (k n : ℕ) → PutWord xs at k n p ys → PutWord xs at k n q zs → (p ≡ q) × (ys ≡ zs)
  only_put_word k n = only_puts

  pub only_put_head : (tag n : ℕ) → PutHead xs at tag n p ys → PutHead xs at tag n q zs → (p ≡ q) × (ys ≡ zs)
  only_put_head tag n = only_puts

  pub only_put_all : (ws : List ℕ) → PutAll xs at ws p ys → PutAll xs at ws q zs → (p ≡ q) × (ys ≡ zs)
  only_put_all ws = only_puts
