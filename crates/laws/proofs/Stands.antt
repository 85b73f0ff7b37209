-- Laws of `Stands`: what was written stands there, and parts of what stands stand. Assumes nothing.
use Prim.Native.Nat.{ℕ, zero, suc, ◌+◌, ◌≤◌}
use mathlib.Core.Path.{◌≡◌, ap, ◌∙◌}
use mathlib.Core.List.{List, [], ◌∷◌, ◌++◌, append_assoc}
use native.Mathlib.Nat.{add-zero, zero-add, add_assoc}
use native.Mathlib.Omega.{arith}
use lib.ListN.{length, take, drop, get_or, length-append, get_or-append}
use lib.Seq.{get_or-append-add, get_or-take, get_or-drop, ext_get_or, length-take-le, slice, length-slice}
use Rattle.laws.specs.Over.{over}
use Rattle.laws.specs.Stands.{Stands}
use Rattle.laws.proofs.Over.{over_eq}

pub stands_here : (pre ws post : List ℕ) → Stands (pre ++ ws ++ post) (length pre) ws
unfolding Stands
stands_here pre ws post i h =
    ap (λ (l : List ℕ). get_or l (length pre + i) 0) (append_assoc pre ws post)
    ∙ get_or-append-add pre (ws ++ post) i 0
    ∙ get_or-append ws post 0 i h

-- octets stand at their own start
pub stands_whole : (s : List ℕ) → Stands s 0 s
unfolding Stands
stands_whole s i h = rw zero-add

-- what was written over a list stands in it
pub stands_over :
    (xs : List ℕ) (at : ℕ) (ws : List ℕ) → at + length ws ≤ length xs → Stands (over xs at ws) at ws
stands_over xs at ws h =
    let e : length (take at xs) ≡ at = length-take-le at xs (omega arith) in
    rw (over_eq xs at ws h) (rw e at (stands_here (take at xs) ws (drop (at + length ws) xs)))

pub stands_left : (s : List ℕ) (at : ℕ) (ws vs : List ℕ) → Stands s at (ws ++ vs) → Stands s at ws
unfolding Stands
stands_left s at ws vs st i h = st i (rw length-append (omega arith)) ∙ get_or-append ws vs 0 i h

pub stands_right :
    (s : List ℕ) (at : ℕ) (ws vs : List ℕ) → Stands s at (ws ++ vs) → Stands s (at + length ws) vs
unfolding Stands
stands_right s at ws vs st i h =
    rw add_assoc (st (length ws + i) (rw length-append (omega arith)) ∙ get_or-append-add ws vs i 0)

pub stands_first : (s : List ℕ) (at w : ℕ) (ws : List ℕ) → Stands s at (w ∷ ws) → get_or s at 0 ≡ w
unfolding Stands
stands_first s at w ws st = rw add-zero at (st 0 (omega arith))

pub stands_nil : (s : List ℕ) (at : ℕ) → Stands s at []
unfolding Stands
stands_nil s at i h = absurd (omega arith)

pub stands_cons :
    (s : List ℕ) (at w : ℕ) (ws : List ℕ) → get_or s at 0 ≡ w →
    Stands s (at + 1) ws →
    Stands s at (w ∷ ws)
unfolding Stands
stands_cons s at w ws e st zero h = rw add-zero e
stands_cons s at w ws e st (suc i) h =
    let p : at + suc i ≡ at + 1 + i = omega arith in rw p (st i (omega arith))

-- what stands at a place is the slice there
pub slice_stands :
    (s : List ℕ) (at : ℕ) (ws : List ℕ) → Stands s at ws → at + length ws ≤ length s →
    slice at (at + length ws) s ≡ ws
unfolding Stands
slice_stands s at ws st h =
    let stop : ℕ = at + length ws in
    let long : length (slice at stop s) ≡ length ws = omega (arith, length-slice at stop s h) in
    ext_get_or 0 (slice at stop s) ws long (λ i k.
    get_or-drop at (take stop s) i 0
    ∙ get_or-take stop s (at + i) 0 (omega arith)
    ∙ st i (omega arith))
