-- Laws of lengths, once over the number k of octets after the first: how long, the shortest of them, and that each reads
-- back. Assumes nothing.
use Prim.Native.Nat.{ℕ, zero, suc, ◌+◌, ◌^◌, ◌≤◌, ◌<◌}
use mathlib.Core.Path.{◌≡◌, refl, ap}
use mathlib.Core.Bool.{true}
use mathlib.Core.List.{List, [], ◌∷◌}
use native.Mathlib.Omega.{arith}
use lib.ListN.{length, get_or}
use lib.Dec.{ltb, eqb}
use borrow.Author.Tests.{lt-ltb, le-ltb, le-leb, lt-leb, ltb-true}
use Rattle.std.specs.Prelude.{Option, Some, None}
use Rattle.laws.specs.Stands.{Stands}
use Rattle.laws.specs.Fewest.{fewest_from}
use Rattle.laws.proofs.Picks.{pick_ind}
use Rattle.laws.proofs.Fewest.{fewest_step, fewest_will, fewest_most, fewest_least}
use Rattle.laws.proofs.Stands.{stands_first, stands_right}
use Rattle.octets.specs.Word.{word_at, word_octets}
use Rattle.octets.specs.Head.{span_of, length_at}
use Rattle.octets.specs.Element.{length_most, length_holds, length_with, length_fewest}
use Rattle.octets.specs.declared.head.Span.{Span}
use Rattle.octets.proofs.Words.{length_word, word_back}

-- the bound: k octets after the first say every length below 256 ^ k (below 128 with none)
pub length_length : (k n : ℕ) → length (length_with k n) ≡ suc k
unfolding length_with
length_length zero n = refl
length_length (suc k) n = ap suc (length_word (suc k) n)

-- the shortest: it can say the length, none below it can, and it never has more than two octets after its first
pub shortest_holds : (n : ℕ) → n < 65536 → length_holds n (length_fewest n) ≡ true
unfolding length_fewest length_holds
shortest_holds n h = fewest_will (length_holds n) length_most (lt-ltb n 65536 h)

pub shortest_least : (n k : ℕ) → length_holds n k ≡ true → length_fewest n ≤ k
unfolding length_fewest
shortest_least n k h = fewest_least (length_holds n) length_most k h

pub shortest_most : (n : ℕ) → length_fewest n ≤ length_most
unfolding length_fewest
shortest_most n = fewest_most (length_holds n) length_most

-- none below 128, and from there on the search begins at one
pub fewest_short : (n : ℕ) → n < 128 → length_fewest n ≡ 0
unfolding length_fewest length_holds
fewest_short n h = rw (fewest_step (length_holds n) 1 0, lt-ltb n 128 h)

pub fewest_long : (n : ℕ) → 128 ≤ n → length_fewest n ≡ fewest_from (length_holds n) 1 1
unfolding length_fewest length_holds
fewest_long n h = rw (fewest_step (length_holds n) 1 0, le-ltb n 128 h)

-- contents that end by `end`, and contents that do not
pub span_fits : (start n end : ℕ) → start + n ≤ end → span_of start n end ≡ Some (record { start = start; stop = start + n })
unfolding span_of
span_fits start n end h = rw (le-leb (start + n) end h)

pub span_past : (start n end : ℕ) → end < start + n → span_of start n end ≡ None
unfolding span_of
span_past start n end h = rw (lt-leb (start + n) end h)

-- where no length octet is left there is no length
pub length_past : (s : List ℕ) (at end : ℕ) → end ≤ at → length_at s at end ≡ None
unfolding length_at
length_past s at end h =
    let P : Option Span → Type 0 = λ x. x ≡ None in
    pick_ind P (ltb (get_or s at 0) 0x80) (λ _. span_past (at + 1) (get_or s at 0) end (omega arith)) (λ _.
    pick_ind P (eqb (get_or s at 0) 0x81) (λ _. span_past (at + 2) (word_at 1 s (at + 1)) end (omega arith)) (λ _.
    pick_ind P (eqb (get_or s at 0) 0x82) (λ _. span_past (at + 3) (word_at 2 s (at + 1)) end (omega arith)) (λ _. refl)))

-- the four cases as one over k: a first octet that counts k octets after it, of which there may be two
pub length_by :
    (k : ℕ) (s : List ℕ) (at end : ℕ) → suc k ≤ length_most → get_or s at 0 ≡ 128 + suc k →
    length_at s at end ≡ span_of (at + 1 + suc k) (word_at (suc k) s (at + 1)) end
unfolding length_at
length_by zero s at end most first = let start : at + 1 + 1 ≡ at + 2 = omega arith in rw (first, start)
length_by (suc zero) s at end most first = let start : at + 1 + 2 ≡ at + 3 = omega arith in rw (first, start)
length_by (suc (suc k)) s at end most first = absurd (omega arith)

-- a length with any k octets after its first that hold it, shortest or not, is read as that length
pub length_back :
    (k n : ℕ) (s : List ℕ) (at end : ℕ) → k ≤ length_most → length_holds n k ≡ true →
    Stands s at (length_with k n) → at + suc k + n ≤ end →
    length_at s at end ≡ Some (record { start = at + suc k; stop = at + suc k + n })
unfolding length_at length_holds length_with
length_back zero n s at end most holds st fit =
    rw (stands_first s at n [] st, holds) (span_fits (at + 1) n end fit)
length_back (suc k) n s at end most holds st fit =
    let ws : List ℕ = word_octets (suc k) n in
    let first : get_or s at 0 ≡ 128 + suc k = stands_first s at (128 + suc k) ws st in
    let value : word_at (suc k) s (at + 1) ≡ n =
    word_back (suc k) n s (at + 1) (ltb-true n (256 ^ suc k) holds) (stands_right s at ((128 + suc k) ∷ []) ws st) in
    let start : at + 1 + suc k ≡ at + suc (suc k) = omega arith in
    rw (length_by k s at end most first, value, start) (span_fits (at + suc (suc k)) n end fit)

-- with none after its first, a length is that octet; with some, the first only counts them
pub length_short : (n : ℕ) → length_holds n 0 ≡ true → n < 128
unfolding length_holds
length_short n h = ltb-true n 128 h

pub length_long : (k n : ℕ) → (k ≡ 0 → ⊥) → length_with k n ≡ (128 + k) ∷ word_octets k n
unfolding length_with
length_long zero n h = absurd (h refl)
length_long (suc k) n h = refl
