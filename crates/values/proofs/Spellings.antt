-- Nothing else is read as an identifier or an enumerated value than what spells one: its contents are the octets that are written,
-- and its length alone may be needlessly long. Assumes nothing.
use Prim.Native.Nat.{ℕ, suc, ◌+◌, ◌-◌, ◌≤◌, ◌<◌}
use mathlib.Core.Path.{◌≡◌, refl, sym, ap, ◌∙◌}
use mathlib.Core.Bool.{true, not}
use mathlib.Core.List.{List, [], ◌∷◌}
use native.Mathlib.Omega.{arith}
use lib.IntN.{ℤ}
use lib.Signed.{mag}
use lib.ListN.{length, get_or}
use lib.Seq.{slice}
use lib.Dec.{leb, eqb}
use borrow.Author.Tests.{ltb-true, ltb-false, leb-true, eqb-true}
use Rattle.std.specs.Prelude.{Option, Some, None}
use Rattle.laws.specs.Got.{Got, got, wrong}
use Rattle.laws.specs.Tests.{all}
use Rattle.laws.proofs.Picks.{pick_ind, pick_then, not_passed}
use Rattle.laws.proofs.Tests.{both_hold}
use Rattle.laws.proofs.Fewest.{fewest_least}
use Rattle.octets.specs.Word.{word_at, word_octets}
use Rattle.octets.specs.Head.{head_at}
use Rattle.octets.specs.Spelt.{Spells}
use Rattle.octets.specs.declared.head.Head.{Head}
use Rattle.octets.proofs.Slices.{slice_one}
use Rattle.octets.proofs.Spellings.{HeadSpelt, head_only, word_small, word_only}
use Rattle.values.specs.Ident.{ident_tag, ident_most, half, twos, ident_holds, shortest, ident_in, ident_of, ident_at, ident_fewest, ident_with}
use Rattle.values.specs.Enumerated.{enumerated_tag, enumerated_of, enumerated_at}
use Rattle.values.proofs.Signs.{half_some, half_most, half_rises, bits_twos}
use Rattle.values.proofs.Idents.{fewest_magnitude}

-- ---- enumerated values

abbrev EnumeratedIf : List ℕ → ℕ → Got ℕ → Type 0
EnumeratedIf s at (got v next) = Spells enumerated_tag (v ∷ []) (slice at next s)
EnumeratedIf s at wrong = Unit {0}

module _ (s : List ℕ) (small : (i : ℕ) → get_or s i 0 < 256) (depth at end : ℕ) where
  enumerated_head : (h : Option Head) → head_at depth s at end ≡ h → EnumeratedIf s at (enumerated_of s h)
  enumerated_head (Some h) e =
      let tag : ℕ = h.tag in
      let start : ℕ = h.start in
      let stop : ℕ = h.stop in
      pick_ind (EnumeratedIf s at) (all (eqb tag enumerated_tag ∷ eqb (stop - start) 1 ∷ []))
      (λ both.
      let b = both_hold (eqb tag enumerated_tag) (eqb (stop - start) 1) both in
      let found : HeadSpelt depth s at end tag start stop h.next = head_only s small depth at end e in
      let one : stop ≡ suc start = omega (arith, eqb-true (stop - start) 1 b.1, found.stops) in
      rw (sym (eqb-true tag enumerated_tag b.0), sym (slice_one start s (omega (arith, found.nexts, found.ends, found.inside))), sym one)
      found.spells)
      (λ _. tt)
  enumerated_head None e = tt

  -- what is accepted as an enumerated value spells it
  pub enumerated_only :
      {v next : ℕ} → enumerated_at depth s at end ≡ got v next → Spells enumerated_tag (v ∷ []) (slice at next s)
  unfolding enumerated_at
  enumerated_only e = rw e at (enumerated_head (head_at depth s at end) refl)

-- ---- identifiers

-- what is known of w octets in which z is shortest
record InFewest (w : ℕ) (z : ℤ) : Type 0 where
  some : w ≡ 0 → ⊥
  is : w ≡ ident_fewest z

shortest_only : (w : ℕ) (z : ℤ) → shortest w z ≡ true → InFewest w z
unfolding ident_holds ident_fewest
shortest_only w z h =
    let most = pick_then (leb w ident_most) _ h in
    let tests = both_hold (ident_holds z w) (not (ident_holds z (w - 1))) most.1 in
    let holds : mag z < half w = ltb-true (mag z) (half w) tests.0 in
    let less : half (w - 1) ≤ mag z = ltb-false (mag z) (half (w - 1)) (not_passed (ident_holds z (w - 1)) tests.1) in
    let range : mag z < 32768 = omega (arith, half_most w (leb-true w ident_most most.0)) in
    let least : ident_fewest z ≤ w = fewest_least (ident_holds z) ident_most w tests.0 in
    let more : ident_fewest z ≤ w - 1 → ⊥ =
    λ le. omega (arith, less, half_rises (ident_fewest z) (w - 1) le, fewest_magnitude z range) in
    record { some = half_some w (mag z) holds; is = omega (arith, more, least) }

abbrev IdentIf : List ℕ → ℕ → Got ℤ → Type 0
IdentIf s at (got z next) = Spells ident_tag (ident_with (ident_fewest z) z) (slice at next s)
IdentIf s at wrong = Unit {0}

module _ (s : List ℕ) (small : (i : ℕ) → get_or s i 0 < 256) where
  -- the octets of a number that is shortest in them are those that are written for it
  contents_only :
      (w start : ℕ) → start + w ≤ length s → shortest w (twos w (word_at w s start)) ≡ true →
      slice start (start + w) s
      ≡ ident_with (ident_fewest (twos w (word_at w s start))) (twos w (word_at w s start))
  contents_only w start room h =
      let u : ℕ = word_at w s start in
      let z : ℤ = twos w u in
      let sh : InFewest w z = shortest_only w z h in
      word_only s small w start room
      ∙ ap (word_octets w) (sym (bits_twos w u sh.some (word_small s small w start)))
      ∙ ap (λ (k : ℕ). ident_with k z) sh.is

  module _ (depth at end : ℕ) where
    ident_head : (h : Option Head) → head_at depth s at end ≡ h → IdentIf s at (ident_of s h)
    unfolding ident_in
    ident_head (Some h) e =
        let tag : ℕ = h.tag in
        let start : ℕ = h.start in
        let stop : ℕ = h.stop in
        let w : ℕ = stop - start in
        pick_ind (IdentIf s at) (eqb tag ident_tag)
        (λ t.
        pick_ind (IdentIf s at) (shortest w (twos w (word_at w s start)))
        (λ short.
        let found : HeadSpelt depth s at end tag start stop h.next = head_only s small depth at end e in
        let all : start + w ≡ stop = omega (arith, found.stops) in
        rw (sym (eqb-true tag ident_tag t), sym (contents_only w start (omega (arith, found.nexts, found.ends, found.inside)) short), all)
        found.spells)
        (λ _. tt))
        (λ _. tt)
    ident_head None e = tt

    -- what is accepted as an identifier spells it: its contents are the shortest form, which is the one that is written
    pub ident_only :
        {z : ℤ} {next : ℕ} → ident_at depth s at end ≡ got z next →
        Spells ident_tag (ident_with (ident_fewest z) z) (slice at next s)
    unfolding ident_at
    ident_only e = rw e at (ident_head (head_at depth s at end) refl)
