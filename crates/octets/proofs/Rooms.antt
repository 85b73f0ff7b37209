-- What `has_room` decides, for the writers that ask it. Assumes nothing.
use Prim.Native.Nat.{ℕ, ◌+◌, ◌≤◌, ◌<◌}
use mathlib.Core.Path.{◌≡◌, refl, sym, ◌∙◌}
use mathlib.Core.Bool.{true, false}
use mathlib.Core.List.{List}
use lib.ListN.{length}
use lib.Seq.{take-length}
use borrow.Author.Tests.{leb-true, leb-false}
use borrow.Rule.Slice.PartMut.{put_mid}
use Rattle.std.proofs.lemmas.Slice.{put_mid-paste}
use Rattle.laws.specs.Over.{Wrote}
use Rattle.laws.proofs.Over.{over_eq}
use Rattle.octets.specs.Room.{HasRoom}

-- there is room
pub room_here : (xs : List ℕ) (at need : ℕ) → HasRoom xs at need true → at + need ≤ length xs
room_here xs at need e = leb-true (at + need) (length xs) (sym e)

-- there is none
pub room_past : (xs : List ℕ) (at need : ℕ) → HasRoom xs at need false → length xs < at + need
room_past xs at need e = leb-false (at + need) (length xs) (sym e)

-- what a copy of a whole slice leaves
pub copied :
    (xs : List ℕ) (at k : ℕ) (ws ys : List ℕ) → k ≡ length ws → ys ≡ ws → at + length ws ≤ length xs →
    Wrote xs at ws (at + length ws) (put_mid at k xs ys)
copied xs at k ws ys long same room = record {
  moved = refl;
  holds = put_mid-paste at k xs ys ws (length ws) same (sym long) refl ∙ rw (take-length ws) (sym (over_eq xs at ws room));
}
