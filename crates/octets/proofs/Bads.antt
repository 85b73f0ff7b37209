-- Which octets are badly built, so that no element is found there: too few, a tag with low five bits all ones, and the lengths that are
-- refused (document 01, "Reading a component"). Assumes nothing.
use Prim.Native.Nat.{ℕ, ◌+◌, ◌%◌, ◌≤◌}
use mathlib.Core.Path.{◌≡◌, refl}
use mathlib.Core.Bool.{Bool}
use mathlib.Core.List.{List, [], ◌∷◌}
use lib.ListN.{length, get_or}
use lib.Dec.{ltb, leb, eqb}
use borrow.Author.Tests.{le-ltb, ne_eqb, eqb-false}
use Rattle.std.specs.Prelude.{Option, None}
use Rattle.laws.specs.Tests.{any}
use Rattle.laws.proofs.Picks.{pick_ind}
use Rattle.octets.specs.Head.{length_at, head_at}
use Rattle.octets.specs.declared.head.Head.{Head}
use Rattle.octets.proofs.Within.{neither}
use Rattle.octets.proofs.Lengths.{length_past}

module _ (depth : ℕ) (s : List ℕ) (at end : ℕ) where
  -- where there is no length, there is no element
  no_length : length_at s (at + 1) end ≡ None → head_at depth s at end ≡ None
  unfolding head_at
  no_length e =
      pick_ind (λ (x : Option Head). x ≡ None) (any (eqb depth 0 ∷ ltb (length s) end ∷ leb end at ∷ eqb (get_or s at 0 % 32) 31 ∷ []))
      (λ _. refl) (λ _. rw e)

  -- fewer than two octets
  pub head_past : end ≤ at + 1 → head_at depth s at end ≡ None
  head_past h = no_length (length_past s (at + 1) end h)

  -- "Identifier tags with low five bits all ones are refused."
  pub head_ones : get_or s at 0 % 32 ≡ 31 → head_at depth s at end ≡ None
  unfolding head_at
  head_ones ones =
      let low : Bool = eqb (get_or s at 0 % 32) 31 in
      pick_ind (λ (x : Option Head). x ≡ None) (any (eqb depth 0 ∷ ltb (length s) end ∷ leb end at ∷ low ∷ [])) (λ _. refl) (λ e.
      let d = neither (eqb depth 0) _ e in
      let i = neither (ltb (length s) end) _ d.1 in
      let l = neither low _ (neither (leb end at) _ i.1).1 in
      absurd (eqb-false (get_or s at 0 % 32) 31 l.0 ones))

  -- "80 and 83 upward are badly built."
  pub head_length :
      0x80 ≤ get_or s (at + 1) 0 → (get_or s (at + 1) 0 ≡ 0x81 → ⊥) → (get_or s (at + 1) 0 ≡ 0x82 → ⊥) →
      head_at depth s at end ≡ None
  unfolding length_at
  head_length high one two =
      let b : ℕ = get_or s (at + 1) 0 in
      no_length (rw (le-ltb b 0x80 high, ne_eqb b 0x81 one, ne_eqb b 0x82 two))
