-- Elements one within the other are skipped exactly if they go no deeper than is allowed: "to a depth of 8; the outermost skipped
-- element is depth 1" (document 01, "Reading a component"). Assumes nothing.
use Prim.Native.Nat.{ℕ, zero, suc, ◌+◌, ◌-◌, ◌/◌, ◌%◌, ◌≤◌, ◌<◌}
use mathlib.Core.Path.{◌≡◌, refl, ap, ◌∙◌}
use mathlib.Core.Bool.{Bool, true, false}
use mathlib.Core.List.{List, []}
use native.Mathlib.Nat.{zero-add}
use native.Mathlib.Omega.{arith}
use lib.ListN.{length}
use lib.Dec.{leb, leb-suc-zero, leb-suc-suc}
use borrow.Author.Tests.{le-leb, eq-eqb, ne_eqb}
use Rattle.std.specs.Prelude.{Some, None}
use Rattle.laws.specs.Pick.{pick}
use Rattle.laws.specs.Stands.{Stands}
use Rattle.laws.proofs.Picks.{pick_last}
use Rattle.laws.proofs.Stands.{stands_whole}
use Rattle.octets.specs.Element.{element}
use Rattle.octets.proofs.Elements.{Inside, inside_element, length_element}
use Rattle.skip.specs.Skip.{skip_depth, after_skip, skip_element, skip_at}
use Rattle.skip.specs.Nested.{nested_around, nested}
use Rattle.skip.specs.inner.Skip.{skip_contents}
use Rattle.skip.proofs.Skips.{contents_end, contents_step, element_step}

-- no element goes no elements deep
pub skip_none : (s : List ℕ) (at end : ℕ) → skip_element 0 s at end ≡ None
unfolding skip_element
skip_none s at end = refl

-- a constructed element that stands there is skipped exactly if its contents are good to one depth less
pub skip_constructed :
    (depth : ℕ) (s : List ℕ) (at end tag : ℕ) (ws : List ℕ) → tag / 32 % 2 ≡ 1 → (i : Inside depth s at end tag ws) →
    skip_element depth s at end
    ≡ pick (skip_contents (depth - 1) s i.start (i.start + length ws)) (Some (at + length (element tag ws))) None
skip_constructed depth s at end tag ws holds i =
    element_step depth s at end
    ∙ rw (
      i.is,
      ne_eqb (tag / 32 % 2) 0 (λ e. omega arith),
      pick_last (skip_contents (depth - 1) s i.start (i.start + length ws)),
      i.stop,
    )

-- contents that are one element are good exactly if that is skipped
pub contents_one :
    (depth : ℕ) (s : List ℕ) (start stop : ℕ) (b : Bool) → start < stop →
    skip_element depth s start stop ≡ pick b (Some stop) None → skip_contents depth s start stop ≡ b
contents_one depth s start stop b some e =
    contents_step depth s start stop some ∙ ap (after_skip (λ next. skip_contents depth s next stop)) e ∙ by_test b
  where
    by_test : (t : Bool) → after_skip (λ next. skip_contents depth s next stop) (pick t (Some stop) None) ≡ t
    by_test true = contents_end depth s stop stop (omega arith) ∙ eq-eqb stop stop refl
    by_test false = refl

-- ---- n elements around another

-- octets that are an element one deep, wherever they stand
pub record Leaf (ws : List ℕ) : Type 0 where
  pub some : 0 < length ws
  pub skipped : (depth : ℕ) (s : List ℕ) (at end : ℕ) →
      Stands s at ws → at + length ws ≤ end → end ≤ length s →
      skip_element depth s at end ≡ pick (leb 1 depth) (Some (at + length ws)) None

-- an element that is skipped wherever one more may stand
element_leaf :
    (tag : ℕ) (ws : List ℕ) → (tag % 32 ≡ 31 → ⊥) → length ws < 65536 →
    ((depth : ℕ) (s : List ℕ) (at end : ℕ) → Inside (suc depth) s at end tag ws →
    skip_element (suc depth) s at end ≡ Some (at + length (element tag ws))) →
    Leaf (element tag ws)
element_leaf tag ws low small passed = record { some = omega (arith, length_element tag ws); skipped = skipped }
  where
    skipped :
        (depth : ℕ) (s : List ℕ) (at end : ℕ) →
        Stands s at (element tag ws) → at + length (element tag ws) ≤ end → end ≤ length s →
        skip_element depth s at end ≡ pick (leb 1 depth) (Some (at + length (element tag ws))) None
    skipped zero s at end st fit in-s = skip_none s at end
    skipped (suc depth) s at end st fit in-s =
        rw (le-leb 1 (suc depth) (omega arith))
        (passed depth s at end (inside_element (suc depth) s at end tag ws (λ e. omega arith) low small st fit in-s))

module _ (tag : ℕ) (low : tag % 32 ≡ 31 → ⊥) (holds : tag / 32 % 2 ≡ 1) where
  -- a constructed one of no contents
  pub empty_leaf : Leaf (element tag [])
  empty_leaf =
      element_leaf tag [] low (omega arith) (λ depth s at end i.
      let here : i.start ≡ i.start + 0 = omega arith in
      skip_constructed (suc depth) s at end tag [] holds i
      ∙ rw (contents_end (suc depth - 1) s i.start (i.start + 0) (omega arith), eq-eqb i.start (i.start + 0) here))

  module _ (inmost : List ℕ) (leaf : Leaf inmost) where
    around_some : (n : ℕ) → 0 < length (nested_around tag n inmost)
    unfolding nested_around
    around_some zero = leaf.some
    around_some (suc n) = omega (arith, length_element tag (nested_around tag n inmost))

    -- n elements around it are skipped exactly if n + 1 is no deeper than allowed
    pub around_skipped :
        (n depth : ℕ) (s : List ℕ) (at end : ℕ) → length (nested_around tag n inmost) < 65536 →
        Stands s at (nested_around tag n inmost) → at + length (nested_around tag n inmost) ≤ end → end ≤ length s →
        skip_element depth s at end ≡ pick (leb (suc n) depth) (Some (at + length (nested_around tag n inmost))) None
    unfolding nested_around
    around_skipped zero depth s at end small st fit in-s = leaf.skipped depth s at end st fit in-s
    around_skipped (suc n) zero s at end small st fit in-s = rw (leb-suc-zero (suc n)) (skip_none s at end)
    around_skipped (suc n) (suc depth) s at end small st fit in-s =
        let ws : List ℕ = nested_around tag n inmost in
        let long = length_element tag ws in
        let some = around_some n in
        let i = inside_element (suc depth) s at end tag ws (λ e. omega arith) low (omega arith) st fit in-s in
        let less : suc depth - 1 ≡ depth = omega arith in
        skip_constructed (suc depth) s at end tag ws holds i
        ∙ rw (
          leb-suc-suc (suc n) depth,
          less,
          contents_one depth s i.start (i.start + length ws) (leb (suc n) depth) (omega arith)
              (around_skipped n depth s i.start (i.start + length ws) (omega arith) i.stands (omega arith) i.room),
        )

    -- their octets are skipped to the end exactly if n + 1 is at most 8
    pub depth_eight :
        (n : ℕ) → length (nested_around tag n inmost) < 65536 →
        skip_at (nested_around tag n inmost) 0 (length (nested_around tag n inmost))
        ≡ pick (leb (suc n) skip_depth) (Some (length (nested_around tag n inmost))) None
    depth_eight n small =
        let s : List ℕ = nested_around tag n inmost in
        rw (zero-add (length s)) at
        (around_skipped n skip_depth s 0 (length s) small (stands_whole s) (omega arith) (omega arith))

  -- n + 1 elements of which the innermost is empty are n around that one
  nested_around_lem : (n : ℕ) → nested tag (suc n) ≡ nested_around tag n (element tag [])
  unfolding nested_around
  nested_around_lem zero = refl
  nested_around_lem (suc n) = ap (element tag) (nested_around_lem n)

  -- n elements, each within the next and the innermost empty, are skipped exactly if n is at most 8
  pub nested_eight :
      (n : ℕ) → (n ≡ 0 → ⊥) → length (nested tag n) < 65536 →
      skip_at (nested tag n) 0 (length (nested tag n)) ≡ pick (leb n skip_depth) (Some (length (nested tag n))) None
  nested_eight zero some small = absurd (some refl)
  nested_eight (suc n) some small =
      rw (nested_around_lem n) (depth_eight (element tag []) empty_leaf n (rw (nested_around_lem n) at small))
