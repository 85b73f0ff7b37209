-- Nothing else is read as an element than what spells one, needless lengths aside: the octets of a word, of a length, of a head
-- and of an element that were read. And whatever spells an element is read. Assumes nothing.
use Prim.Native.Nat.{ℕ, zero, suc, ◌+◌, ◌-◌, ◌*◌, ◌/◌, ◌%◌, ◌^◌, ◌≤◌, ◌<◌}
use mathlib.Core.Path.{◌≡◌, refl, sym, ap, ◌∙◌}
use mathlib.Core.Bool.{Bool, true, false}
use mathlib.Core.List.{List, [], ◌∷◌, ◌++◌}
use native.Mathlib.Omega.{arith}
use lib.ListN.{length, get_or, length-append}
use lib.Seq.{slice, slice_empty, slice-cons, length-slice}
use lib.Dec.{ltb, leb, eqb}
use borrow.Author.Tests.{lt-ltb, leb-true, ltb-true, ltb-false, eqb-true, eqb-false}
use Rattle.std.specs.Prelude.{Option, Some, None}
use Rattle.laws.specs.Tests.{any}
use Rattle.laws.specs.Stands.{Stands}
use Rattle.laws.proofs.Picks.{pick_ind}
use Rattle.laws.proofs.Stands.{stands_left, stands_right}
use Rattle.octets.specs.Word.{word_at, word_octets}
use Rattle.octets.specs.Head.{span_of, length_at, tagged, head_at, is_head}
use Rattle.octets.specs.Element.{length_most, length_holds, length_with, length_fewest, head_with, element}
use Rattle.octets.specs.Spelt.{Spells, Shortest}
use Rattle.octets.specs.declared.head.Span.{Span}
use Rattle.octets.specs.declared.head.Head.{Head}
use Rattle.octets.proofs.Slices.{slice_join, slice_one}
use Rattle.octets.proofs.Within.{neither}
use Rattle.octets.proofs.Lengths.{length_length, shortest_holds, shortest_least, shortest_most}
use Rattle.octets.proofs.Elements.{head_back, length_element}

-- ---- words

module _ (s : List ℕ) (small : (i : ℕ) → get_or s i 0 < 256) where
  -- k octets are below 256 ^ k
  pub word_small : (k at : ℕ) → word_at k s at < 256 ^ k
  unfolding word_at
  word_small zero at = omega arith
  word_small (suc k) at = omega (arith, word_small k at, small (at + k))

  -- and they are the word that they are read as
  pub word_only : (k at : ℕ) → at + k ≤ length s → slice at (at + k) s ≡ word_octets k (word_at k s at)
  unfolding word_at word_octets
  word_only zero at h = let same : at + 0 ≡ at = omega arith in rw same (slice_empty at s)
  word_only (suc k) at h =
      let n : ℕ = word_at k s at * 256 + get_or s (at + k) 0 in
      let high : n / 256 ≡ word_at k s at = omega (arith, small (at + k)) in
      let last : n % 256 ≡ get_or s (at + k) 0 = omega (arith, small (at + k)) in
      let next : at + suc k ≡ suc (at + k) = omega arith in
      rw (high, last, next)
      (sym (slice_join at (at + k) (suc (at + k)) s (omega arith) (omega arith))
      ∙ rw (slice_one (at + k) s (omega arith)) (ap (λ (l : List ℕ). l ++ (get_or s (at + k) 0 ∷ [])) (word_only k at (omega arith))))

-- ---- lengths

-- what is known of a length that was read at `at`: how many octets it has after its first, and that it is spelt so
record LengthSpelt (s : List ℕ) (at end start stop : ℕ) : Type 0 where
  k : ℕ
  few : k ≤ length_most
  holds : length_holds (stop - start) k ≡ true
  starts : start ≡ at + suc k
  stops : start ≤ stop
  ends : stop ≤ end
  is : slice at start s ≡ length_with k (stop - start)

abbrev LengthIf : List ℕ → ℕ → ℕ → Option Span → Type 0
LengthIf s at end (Some span) = LengthSpelt s at end span.start span.stop
LengthIf s at end None = Unit {0}

-- a length n of k octets after the first, if its contents end by `end`
span_only :
    (s : List ℕ) (k at n end : ℕ) → k ≤ length_most → end ≤ length s → length_holds n k ≡ true →
    (at + suc k ≤ length s → slice at (at + suc k) s ≡ length_with k n) →
    LengthIf s at end (span_of (at + suc k) n end)
unfolding span_of
span_only s k at n end few inside holds is =
    let start : ℕ = at + suc k in
    pick_ind (LengthIf s at end) (leb (start + n) end)
    (λ e.
    let le : start + n ≤ end = leb-true (start + n) end e in
    let count : start + n - start ≡ n = omega arith in
    record {
      k = k;
      few = few;
      holds = rw count holds;
      starts = refl;
      stops = omega arith;
      ends = le;
      is = rw count (is (omega arith));
    })
    (λ _. tt)

module _ (s : List ℕ) (small : (i : ℕ) → get_or s i 0 < 256) where
  -- with none after its first
  length_one : (at end : ℕ) → end ≤ length s → get_or s at 0 < 128 → LengthIf s at end (span_of (at + 1) (get_or s at 0) end)
  unfolding length_holds length_with
  length_one at end inside low =
      span_only s 0 at (get_or s at 0) end (omega arith) inside (lt-ltb (get_or s at 0) 128 low)
      (λ h. let next : at + 1 ≡ suc at = omega arith in rw next (slice_one at s (omega arith)))

  -- with some
  length_some :
      (k at end : ℕ) → suc k ≤ length_most → end ≤ length s → get_or s at 0 ≡ 128 + suc k →
      LengthIf s at end (span_of (at + suc (suc k)) (word_at (suc k) s (at + 1)) end)
  unfolding length_holds length_with
  length_some k at end few inside first =
      let n : ℕ = word_at (suc k) s (at + 1) in
      span_only s (suc k) at n end few inside (lt-ltb n (256 ^ suc k) (word_small s small (suc k) (at + 1)))
      (λ h.
      let next : at + 1 + suc k ≡ at + suc (suc k) = omega arith in
      let after : suc at ≡ at + 1 = omega arith in
      slice-cons at (at + suc (suc k)) s 0 (omega arith) h
      ∙ rw (first, after)
      (ap (λ (l : List ℕ). (128 + suc k) ∷ l) (rw next at (word_only s small (suc k) (at + 1) (omega arith)))))

  length_only : (at end : ℕ) → end ≤ length s → LengthIf s at end (length_at s at end)
  unfolding length_at
  length_only at end inside =
      let b : ℕ = get_or s at 0 in
      let P : Option Span → Type 0 = LengthIf s at end in
      pick_ind P (ltb b 0x80) (λ e. length_one at end inside (ltb-true b 0x80 e)) (λ _.
      pick_ind P (eqb b 0x81) (λ e. length_some 0 at end (omega arith) inside (eqb-true b 0x81 e)) (λ _.
      pick_ind P (eqb b 0x82) (λ e. length_some 1 at end (omega arith) inside (eqb-true b 0x82 e)) (λ _. tt)))

-- ---- heads and elements

-- what is known of an element that was found: its head is spelt so, and it spells its contents
pub record HeadSpelt (depth : ℕ) (s : List ℕ) (at end tag start stop next : ℕ) : Type 0 where
  pub deep : depth ≡ 0 → ⊥
  pub low : tag % 32 ≡ 31 → ⊥
  pub k : ℕ
  pub few : k ≤ length_most
  pub is : slice at start s ≡ head_with k tag (stop - start)
  pub starts : start ≡ at + suc (suc k)
  pub stops : start ≤ stop
  pub nexts : next ≡ stop
  pub ends : next ≤ end
  pub inside : end ≤ length s
  pub spells : Spells tag (slice start stop s) (slice at next s)

abbrev HeadIf : ℕ → List ℕ → ℕ → ℕ → Option Head → Type 0
HeadIf depth s at end (Some h) = HeadSpelt depth s at end h.tag h.start h.stop h.next
HeadIf depth s at end None = Unit {0}

tagged_only :
    (depth : ℕ) (s : List ℕ) (at end : ℕ) (x : Option Span) → (depth ≡ 0 → ⊥) → end ≤ length s → (get_or s at 0 % 32 ≡ 31 → ⊥) →
    LengthIf s (at + 1) end x →
    HeadIf depth s at end (tagged (get_or s at 0) x)
tagged_only depth s at end (Some span) deep inside low l =
    let tag : ℕ = get_or s at 0 in
    let start : ℕ = span.start in
    let stop : ℕ = span.stop in
    let after : suc at ≡ at + 1 = omega arith in
    let starts : start ≡ at + suc (suc l.k) = omega (arith, l.starts) in
    let long : length (slice start stop s) ≡ stop - start = length-slice start stop s (omega (arith, l.ends)) in
    let is : slice at start s ≡ head_with l.k tag (stop - start) =
    slice-cons at start s 0 (omega arith) (omega (arith, l.stops, l.ends))
    ∙ rw after (ap (λ (ws : List ℕ). tag ∷ ws) l.is) in
    record {
      deep = deep;
      low = low;
      k = l.k;
      few = l.few;
      is = is;
      starts = starts;
      stops = l.stops;
      nexts = refl;
      ends = l.ends;
      inside = inside;
      spells = record {
        k = l.k;
        few = l.few;
        holds = rw long l.holds;
        is = rw long (sym (slice_join at start stop s (omega arith) l.stops) ∙ ap (λ (ws : List ℕ). ws ++ slice start stop s) is);
      };
    }
tagged_only depth s at end None deep inside low l = tt

module _ (s : List ℕ) (small : (i : ℕ) → get_or s i 0 < 256) where
  head_if : (depth at end : ℕ) → HeadIf depth s at end (head_at depth s at end)
  unfolding head_at
  head_if depth at end =
      let low : Bool = eqb (get_or s at 0 % 32) 31 in
      pick_ind (HeadIf depth s at end) (any (eqb depth 0 ∷ ltb (length s) end ∷ leb end at ∷ low ∷ [])) (λ _. tt) (λ e.
      let d = neither (eqb depth 0) _ e in
      let i = neither (ltb (length s) end) _ d.1 in
      let l = neither low false (neither (leb end at) _ i.1).1 in
      let inside : end ≤ length s = ltb-false (length s) end i.0 in
      tagged_only depth s at end (length_at s (at + 1) end) (eqb-false depth 0 d.0) inside
      (eqb-false (get_or s at 0 % 32) 31 l.0) (length_only s small (at + 1) end inside))

  -- what is accepted as an element spells one, and there was a level left to go
  pub head_only :
      (depth at end : ℕ) {tag start stop next : ℕ} → head_at depth s at end ≡ is_head tag start stop next →
      HeadSpelt depth s at end tag start stop next
  head_only depth at end e = rw e at (head_if depth at end)

-- how many octets spell an element
pub spells_length :
    {tag : ℕ} {contents ws : List ℕ} (sp : Spells tag contents ws) →
    length ws ≡ suc (suc sp.k) + length contents
spells_length {tag} {contents} sp =
    omega (
      arith,
      ap length sp.is,
      length-append (head_with sp.k tag (length contents)) contents,
      length_length sp.k (length contents),
    )

-- whatever spells an element is accepted as it
pub spells_back :
    (depth : ℕ) {tag : ℕ} {contents ws : List ℕ} (s : List ℕ) (at end : ℕ) (sp : Spells tag contents ws) →
    (depth ≡ 0 → ⊥) → (tag % 32 ≡ 31 → ⊥) → Stands s at ws → at + length ws ≤ end → end ≤ length s →
    head_at depth s at end ≡ is_head tag (at + suc (suc sp.k)) (at + length ws) (at + length ws)
spells_back depth {tag} {contents} {ws} s at end sp deep low st fit inside =
    let n : ℕ = length contents in
    let long : at + suc (suc sp.k) + n ≡ at + length ws = omega (arith, spells_length sp) in
    rw long at
    (head_back sp.k depth tag n s at end deep low sp.few sp.holds
    (stands_left s at (head_with sp.k tag n) contents (rw sp.is at st)) (omega arith) inside)

-- and its contents stand after its head
pub spells_contents :
    {tag : ℕ} {contents ws : List ℕ} (s : List ℕ) (at : ℕ) (sp : Spells tag contents ws) → Stands s at ws →
    Stands s (at + suc (suc sp.k)) contents
spells_contents {tag} {contents} s at sp st =
    let n : ℕ = length contents in
    let long : length (head_with sp.k tag n) ≡ suc (suc sp.k) = omega (arith, length_length sp.k n) in
    rw long at (stands_right s at (head_with sp.k tag n) contents (rw sp.is at st))

-- ---- the shortest of them

-- an element as it is written spells its contents
pub element_spells : (tag : ℕ) (contents : List ℕ) → length contents < 65536 → Spells tag contents (element tag contents)
element_spells tag contents h = record {
  k = length_fewest (length contents);
  few = shortest_most (length contents);
  holds = shortest_holds (length contents) h;
  is = refl;
}

-- octets are the shortest of themselves
pub shortest_same : (ws : List ℕ) → Shortest ws ws
shortest_same ws = record { least = omega arith; only = λ _. refl }

-- two that follow each other are, where both are
pub shortest_join : {a b c d : List ℕ} → Shortest a b → Shortest c d → Shortest (a ++ c) (b ++ d)
shortest_join {a} {b} {c} {d} x y =
    let l = length-append a c in
    let m = length-append b d in
    record {
      least = omega (arith, l, m, x.least, y.least);
      only = λ e.
          rw (
            x.only (omega (arith, e, l, m, x.least, y.least)),
            y.only (omega (arith, e, l, m, x.least, y.least)),
          );
    }

-- what can say a length can say a smaller one
holds_less : (k m n : ℕ) → m ≤ n → length_holds n k ≡ true → length_holds m k ≡ true
unfolding length_holds
holds_less zero m n le h = lt-ltb m 128 (omega (arith, ltb-true n 128 h))
holds_less (suc k) m n le h = lt-ltb m (256 ^ suc k) (omega (arith, ltb-true n (256 ^ suc k) h))

-- what is written is the shortest that spells an element, where its contents are
pub spells_shortest :
    {tag : ℕ} {contents ws : List ℕ} (vs : List ℕ) → Spells tag contents ws → Shortest vs contents →
    Shortest (element tag vs) ws
spells_shortest {tag} {contents} {ws} vs sp sh =
    let fewest : length_fewest (length vs) ≤ sp.k =
    shortest_least (length vs) sp.k (holds_less sp.k (length vs) (length contents) sh.least sp.holds) in
    record {
      least = omega (arith, spells_length sp, length_element tag vs, fewest, sh.least);
      only = λ e.
          let same : contents ≡ vs = sh.only (omega (arith, e, spells_length sp, length_element tag vs, fewest, sh.least)) in
          let few : sp.k ≡ length_fewest (length vs) =
          omega (arith, e, spells_length sp, length_element tag vs, fewest, sh.least) in
          sp.is ∙ rw (same, few);
    }
