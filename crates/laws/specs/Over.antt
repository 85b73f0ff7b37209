-- What lent output holds after octets were written over it, and what a writer promises.
use Rattle.std.specs.Prelude.{ℕ, ◌+◌, ◌≡◌, Bool, List, length, leb}
use Rattle.std.proofs.lemmas.List.Edits.{sets}
use Rattle.laws.specs.Pick.{pick}

-- xs with ws in the place of its octets from `at` on: octets before and after stay (`over_eq` says so)
unfoldable pub over : List ℕ → ℕ → List ℕ → List ℕ
over xs at ws = sets xs at ws

-- ys is xs with ws written at `at`, and `next` is the place after them
pub record Wrote (xs : List ℕ) (at : ℕ) (ws : List ℕ) (next : ℕ) (ys : List ℕ) : Type 0 where
  pub moved : next ≡ at + length ws
  pub holds : ys ≡ over xs at ws

-- whether xs has room for ws at `at`
unfoldable pub room : List ℕ → ℕ → List ℕ → Bool
room xs at ws = leb (at + length ws) (length xs)

-- What a writer promises that any crate may call, all or nothing: ws at `at`, and the place after them; where there is no
-- room, nothing is written and the place stays.
pub record Puts (xs : List ℕ) (at : ℕ) (ws : List ℕ) (next : ℕ) (ys : List ℕ) : Type 0 where
  pub moved : next ≡ pick (room xs at ws) (at + length ws) at
  pub holds : ys ≡ pick (room xs at ws) (over xs at ws) xs
