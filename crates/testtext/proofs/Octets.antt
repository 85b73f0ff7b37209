-- Laws of the octets of words, as a loop over a line goes by them. Assumes nothing.
use Prim.Native.Nat.{ℕ, suc, ◌+◌, ◌*◌, ◌-◌, ◌/◌, ◌<◌, ◌≤◌}
use mathlib.Core.Path.{◌≡◌, refl, sym}
use mathlib.Core.List.{List}
use native.Mathlib.Numerals.{add-one}
use native.Mathlib.Omega.{arith}
use lib.ListN.{length, set, length-set}
use lib.Dec.{leb}
use borrow.Author.Tests.{leb-true, leb-false}
use Rattle.laws.specs.Over.{Wrote}
use Rattle.laws.proofs.Over.{then, over_one, wrote_none}
use Rattle.laws.proofs.Picks.{pick_ind}
use Rattle.testtext.specs.Words.{word_octet, octets_of, words_from, OctetsFrom}

-- the octets of n words were put, and the next word begins at i
pub record Going (s : List ℕ) (at : ℕ) (xs : List ℕ) (n i : ℕ) (ys : List ℕ) : Type 0 where
  pub place : i ≡ at + 3 * n
  pub there : 3 * n ≤ length s - at
  pub few : n ≤ length xs
  pub long : length ys ≡ length xs
  pub wrote : Wrote xs 0 (octets_of s at n) n ys

module _ (s : List ℕ) (at : ℕ) (xs : List ℕ) where
  pub going_none : Going s at xs 0 at xs
  unfolding octets_of
  going_none = record { place = omega arith; there = omega arith; few = omega arith; long = refl; wrote = wrote_none }

  module _ {n i : ℕ} {ys : List ℕ} (g : Going s at xs n i ys) where
    put : Wrote xs 0 (octets_of s at (suc n)) (n + 1) (set ys n (word_octet s i))
    unfolding octets_of
    put =
        rw g.place
        (then g.wrote (record { moved = refl; holds = sym (over_one ys n (word_octet s (at + 3 * n))) }))

    pub going_next : n < length xs → i + 3 ≤ length s → Going s at xs (n + 1) (i + 3) (set ys n (word_octet s i))
    going_next free more = record {
      place = omega (arith, g.place);
      there = omega (arith, g.place);
      few = omega arith;
      long = simp length-set g.long;
      wrote = rw add-one (rw add-one at put);
    }

    ended : words_from s at (length xs) ≡ n → OctetsFrom s at xs n ys
    ended e = record { wrote = rw e g.wrote; within = g.few }

    pub going_full : length xs ≤ n → OctetsFrom s at xs n ys
    unfolding words_from
    going_full full =
        ended
        (pick_ind (λ k. k ≡ n) (leb (length xs) ((length s - at) / 3)) (λ _. omega (arith, g.few))
        (λ e. omega (arith, g.few, g.there, leb-false (length xs) ((length s - at) / 3) e)))

    pub going_short : length s - i < 3 → OctetsFrom s at xs n ys
    unfolding words_from
    going_short short =
        let words : (length s - at) / 3 ≡ n = omega (arith, g.place, g.there) in
        ended
        (pick_ind (λ k. k ≡ n) (leb (length xs) ((length s - at) / 3))
        (λ e. omega (arith, words, g.few, leb-true (length xs) ((length s - at) / 3) e)) (λ _. words))
