-- What is written as an element reads back as that element, with any length coding that is allowed. Assumes nothing.
use Prim.Native.Nat.{ℕ, suc, ◌+◌, ◌%◌, ◌≤◌, ◌<◌}
use mathlib.Core.Path.{◌≡◌, ap}
use mathlib.Core.Bool.{true}
use mathlib.Core.List.{List, [], ◌∷◌}
use native.Mathlib.Omega.{arith}
use lib.ListN.{length, length-append}
use borrow.Author.Tests.{le-ltb, lt-leb, ne_eqb}
use Rattle.laws.specs.Over.{Wrote}
use Rattle.laws.specs.Stands.{Stands}
use Rattle.laws.proofs.Over.{wrote, room_then, puts_then}
use Rattle.laws.proofs.Stands.{stands_first, stands_left, stands_right}
use Rattle.octets.specs.Head.{head_at, is_head}
use Rattle.octets.specs.Element.{length_most, length_holds, length_with, length_fewest, head_with, head_octets, element, HeadSize, PutHead}
use Rattle.octets.proofs.Lengths.{length_length, length_back, fewest_short, shortest_holds, shortest_most}

-- a head with k octets after the length's first, k as it likes
pub head_back :
    (k depth tag n : ℕ) (s : List ℕ) (at end : ℕ) → (depth ≡ 0 → ⊥) → (tag % 32 ≡ 31 → ⊥) → k ≤ length_most →
    length_holds n k ≡ true → Stands s at (head_with k tag n) → at + suc (suc k) + n ≤ end → end ≤ length s →
    head_at depth s at end ≡ is_head tag (at + suc (suc k)) (at + suc (suc k) + n) (at + suc (suc k) + n)
unfolding head_at
head_back k depth tag n s at end deep low most holds st fit in-s =
    let next : at + 1 + suc k ≡ at + suc (suc k) = omega arith in
    rw (
      ne_eqb depth 0 deep,
      le-ltb (length s) end in-s,
      lt-leb end at (omega arith),
      stands_first s at tag (length_with k n) st,
      ne_eqb (tag % 32) 31 low,
      length_back k n s (at + 1) end most holds (stands_right s at (tag ∷ []) (length_with k n) st) (omega arith),
      next,
    )

-- the length of a head, and of an element
pub length_head : (tag n : ℕ) → length (head_octets tag n) ≡ suc (suc (length_fewest n))
length_head tag n = ap suc (length_length (length_fewest n) n)

pub length_element :
    (tag : ℕ) (contents : List ℕ) →
    length (element tag contents) ≡ suc (suc (length_fewest (length contents))) + length contents
length_element tag contents = rw (length-append (head_octets tag (length contents)) contents, length_head tag (length contents))

-- a head has at most four octets
pub head_most : (n : ℕ) {r : ℕ} → HeadSize n r → r ≤ 4
head_most n h = omega (arith, h, shortest_most n)

pub length_most_lem : (tag : ℕ) (contents : List ℕ) → length (element tag contents) ≤ length contents + 4
length_most_lem tag contents = omega (arith, length_element tag contents, shortest_most (length contents))

-- an element as it is written
pub element_back :
    (depth tag : ℕ) (contents s : List ℕ) (at end : ℕ) → (depth ≡ 0 → ⊥) → (tag % 32 ≡ 31 → ⊥) →
    length contents < 65536 → Stands s at (element tag contents) → at + length (element tag contents) ≤ end →
    end ≤ length s →
    head_at depth s at end
    ≡ is_head tag (at + length (head_octets tag (length contents))) (at + length (element tag contents))
    (at + length (element tag contents))
element_back depth tag contents s at end deep low small st fit in-s =
    let n : ℕ = length contents in
    let a : at + suc (suc (length_fewest n)) ≡ at + length (head_octets tag n) = omega (arith, length_head tag n) in
    let b : at + length (head_octets tag n) + n ≡ at + length (element tag contents) = omega
    (arith, length_element tag contents, length_head tag n) in
    rw (
      head_back (length_fewest n) depth tag n s at end deep low (shortest_most n) (shortest_holds n small)
          (stands_left s at (head_octets tag n) contents st) (omega (arith, length_element tag contents)) in-s,
      a,
      b,
    )

-- its contents stand after its head
pub element_contents :
    (tag : ℕ) (contents s : List ℕ) (at : ℕ) → Stands s at (element tag contents) →
    Stands s (at + length (head_octets tag (length contents))) contents
element_contents tag contents s at st = stands_right s at (head_octets tag (length contents)) contents st

-- a head that is written for the contents that follow it makes an element
pub headed :
    {xs : List ℕ} {at tag n p : ℕ} {ys ws : List ℕ} {q : ℕ} {zs : List ℕ} → at + length (element tag ws) ≤ length xs →
    n ≡ length ws → PutHead xs at tag n p ys → (p + length ws ≤ length ys → Wrote ys p ws q zs) →
    Wrote xs at (element tag ws) q zs
headed {tag = tag} {ws = ws} h e a k = puts_then h (rw e at a) k

-- room for an element is room for its contents after its head
pub room_headed :
    {xs : List ℕ} {at tag n p : ℕ} {ys : List ℕ} (ws : List ℕ) → at + length (element tag ws) ≤ length xs → n ≡ length ws →
    PutHead xs at tag n p ys → p + length ws ≤ length ys
room_headed {xs} {at} {tag} {n} {p} {ys} ws h e a =
    let first : Wrote xs at (head_octets tag (length ws)) p ys =
    wrote (omega (arith, length-append (head_octets tag (length ws)) ws)) (rw e at a) in
    room_then ws h first

-- an element of fewer than 128 octets has one length octet
pub element_small :
    (tag : ℕ) (contents : List ℕ) → length contents < 128 →
    element tag contents ≡ tag ∷ length contents ∷ contents
unfolding length_with
element_small tag contents h = rw (fewest_short (length contents) h)

-- and so it is two octets longer than its contents
pub length_small :
    (tag : ℕ) (contents : List ℕ) → length contents < 128 →
    length (element tag contents) ≡ length contents + 2
length_small tag contents h = omega (arith, ap length (element_small tag contents h))

-- an element that stands at `at`: where its contents start, that its head is read, that its contents stand there, and where
-- they end
pub record Inside (depth : ℕ) (s : List ℕ) (at end tag : ℕ) (ws : List ℕ) : Type 0 where
  pub start : ℕ
  pub is : head_at depth s at end ≡ is_head tag start (start + length ws) (start + length ws)
  pub stands : Stands s start ws
  pub stop : start + length ws ≡ at + length (element tag ws)
  pub room : start + length ws ≤ length s

-- every element that stands before `end` is one
pub inside_element :
    (depth : ℕ) (s : List ℕ) (at end tag : ℕ) (ws : List ℕ) → (depth ≡ 0 → ⊥) → (tag % 32 ≡ 31 → ⊥) →
    length ws < 65536 → Stands s at (element tag ws) → at + length (element tag ws) ≤ end → end ≤ length s →
    Inside depth s at end tag ws
inside_element depth s at end tag ws deep low small st fit in-s =
    let start : ℕ = at + length (head_octets tag (length ws)) in
    let stop : start + length ws ≡ at + length (element tag ws) =
    omega (arith, length-append (head_octets tag (length ws)) ws) in
    record {
      start = start;
      is = rw stop (element_back depth tag ws s at end deep low small st fit in-s);
      stands = element_contents tag ws s at st;
      stop = stop;
      room = omega arith;
    }
