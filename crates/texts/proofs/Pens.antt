-- The laws of all writers that stop where the output ends: one, and then another (`pen_then`). Assumes nothing.
use Prim.Native.Nat.{ℕ, min, ◌+◌, ◌-◌, ◌≤◌, ◌<◌}
use mathlib.Core.Path.{◌≡◌, sym, ap, ◌∙◌}
use mathlib.Core.List.{List, [], ◌∷◌, ◌++◌, append_assoc}
use native.Mathlib.Omega.{arith}
use lib.Dec.{leb}
use borrow.Author.Tests.{leb-true, leb-false}
use borrow.Rule.Slice.PartMut.{put_mid}
use lib.ListN.{length, take, drop, set, length-append, take-append-drop}
use lib.Seq.{length-take-le, take_all, drop-drop}
use Rattle.laws.specs.Over.{Wrote, over}
use Rattle.laws.proofs.Picks.{by_bool, both}
use Rattle.laws.proofs.Filled.{set_past}
use Rattle.laws.proofs.Over.{over_over, over_nil, over_one, over_cons, over_eq, length_over}
use Rattle.texts.specs.Pen.{Penned}

-- past the end nothing is written
over_past : (xs : List ℕ) (at : ℕ) (ws : List ℕ) → length xs ≤ at → over xs at ws ≡ xs
over_past xs at [] h = over_nil xs at
over_past xs at (w ∷ ws) h =
    over_cons xs at w ws ∙ rw (set_past xs at w h) (over_past xs (at + 1) ws (omega arith))

-- what is written over keeps its length
pub pen_length : {xs : List ℕ} {at : ℕ} {ws : List ℕ} {n : ℕ} {ys : List ℕ} → Penned xs at ws n ys → length ys ≡ length xs
pen_length {xs} {at} {ws} w = ap length w.holds ∙ length_over xs at ws

-- where there is room, all of it is written: there the promise is that of a writer that wants its room
module _ {xs : List ℕ} {at : ℕ} {ws : List ℕ} {n : ℕ} {ys : List ℕ} (fits : length ws ≤ length xs - at) where
  pub pen_wrote : Penned xs at ws n ys → Wrote xs at ws n ys
  pen_wrote w = record { moved = omega (arith, fits, w.moved); holds = w.holds }

  pub wrote_pen : Wrote xs at ws n ys → Penned xs at ws n ys
  wrote_pen w = record { moved = omega (arith, fits, w.moved); holds = w.holds }

-- what is promised admits one place and one output
pub only_pen :
    {xs : List ℕ} {at : ℕ} {ws : List ℕ} {p q : ℕ} {ys zs : List ℕ} →
    Penned xs at ws p ys → Penned xs at ws q zs → (p ≡ q) × (ys ≡ zs)
only_pen a b = (both a.moved b.moved, both a.holds b.holds)

-- nothing is written
pub pen_none : {xs : List ℕ} {at : ℕ} → Penned xs at [] at xs
pen_none {xs} {at} = record { moved = omega arith; holds = sym (over_nil xs at) }

pub pen_past : (xs : List ℕ) (at : ℕ) (ws : List ℕ) → length xs ≤ at → Penned xs at ws at xs
pen_past xs at ws h = record { moved = omega arith; holds = sym (over_past xs at ws h) }

pub pen_one : (xs : List ℕ) (at w : ℕ) → at < length xs → Penned xs at (w ∷ []) (at + 1) (set xs at w)
pen_one xs at w h = record { moved = omega arith; holds = sym (over_one xs at w) }

-- a part of a text was written: the rest goes past the end
over_first : (xs : List ℕ) (at n : ℕ) (ws : List ℕ) → n ≤ length ws → length xs ≤ at + n → over xs at (take n ws) ≡ over xs at ws
over_first xs at n ws few h =
    let long : length (take n ws) ≡ n = length-take-le n ws few in
    sym (over_past (over xs at (take n ws)) (at + length (take n ws)) (drop n ws) (omega (arith, length_over xs at (take n ws))))
    ∙ over_over xs at (take n ws) (drop n ws)
    ∙ ap (over xs at) (take-append-drop n ws)

-- as much of a text as there is room for was copied
module _ (xs : List ℕ) (at : ℕ) (ws : List ℕ) (some : at < length xs) (n : ℕ) (few : n ≡ min (length ws) (length xs - at)) where
  over_cut : over xs at (take n ws) ≡ over xs at ws
  over_cut =
      by_bool (over xs at (take n ws) ≡ over xs at ws) (leb (length ws) n)
      (λ e. ap (over xs at) (take_all n ws (leb-true _ _ e)))
      (λ e. let short : n < length ws = leb-false _ _ e in over_first xs at n ws (omega arith) (omega arith))

  pub pen_copied : (ys : List ℕ) → ys ≡ take n ws → Penned xs at ws (at + n) (put_mid at (at + n - at) xs ys)
  pen_copied ys e =
      let long : length (take n ws) ≡ n = length-take-le n ws (omega arith) in
      let here : at + n - at ≡ n = omega arith in
      let parts = over_eq xs at (take n ws) (omega arith) ∙ ap (λ (k : ℕ). take at xs ++ take n ws ++ drop (at + k) xs) long in
      record {
        moved = omega arith;
        holds = rw (e, here) (rw (drop-drop, ← append_assoc) (sym parts ∙ over_cut));
      }

-- a text for which there is room was copied, all of it
pub pen_whole :
    (xs : List ℕ) (at : ℕ) (ws : List ℕ) → at < length xs → length ws ≤ length xs - at →
    (ys : List ℕ) → ys ≡ ws → Penned xs at ws (at + length ws) (put_mid at (at + length ws - at) xs ys)
pen_whole xs at ws some fits ys e =
    pen_copied xs at ws some (length ws) (omega (arith, fits)) ys (e ∙ sym (take_all (length ws) ws (omega arith)))

-- two writers, one after the other
module _ {xs : List ℕ} {at : ℕ} {ws : List ℕ} {p : ℕ} {ys : List ℕ} (a : Penned xs at ws p ys) where
  rest_over : (vs : List ℕ) → over ys p vs ≡ over xs at (ws ++ vs)
  rest_over vs =
      let whole : over ys (at + length ws) vs ≡ over xs at (ws ++ vs) = rw a.holds (over_over xs at ws vs) in
      by_bool (over ys p vs ≡ over xs at (ws ++ vs)) (leb (length ws) (length xs - at))
      (λ e.
      let fits : length ws ≤ length xs - at = leb-true _ _ e in
      let here : p ≡ at + length ws = omega (arith, a.moved) in
      rw here whole)
      (λ e.
      let short : length xs - at < length ws = leb-false _ _ e in
      over_past ys p vs (omega (arith, a.moved, pen_length a))
      ∙ sym (over_past ys (at + length ws) vs (omega (arith, pen_length a)))
      ∙ whole)

  pub pen_then : {vs : List ℕ} {q : ℕ} {zs : List ℕ} → Penned ys p vs q zs → Penned xs at (ws ++ vs) q zs
  pen_then {vs} b = record {
    moved = rw (length-append ws vs) (omega (arith, a.moved, b.moved, pen_length a));
    holds = b.holds ∙ rest_over vs;
  }

-- what is left to write, vs at p into ys, completes the text ws at `at` in xs
abbrev pub Going : List ℕ → ℕ → List ℕ → List ℕ → ℕ → List ℕ → Type 0
Going xs at ws ys p vs = (q : ℕ) (zs : List ℕ) → Penned ys p vs q zs → Penned xs at ws q zs

pub going_first : {xs : List ℕ} {at : ℕ} {ws : List ℕ} → Going xs at ws xs at ws
going_first q zs w = w

module _ {xs : List ℕ} {at : ℕ} {ws : List ℕ} {ys : List ℕ} {p : ℕ} {vs : List ℕ} (g : Going xs at ws ys p vs) where
  -- the first part of it was written
  pub going_next :
      (us rest : List ℕ) → vs ≡ us ++ rest → {q : ℕ} {zs : List ℕ} → Penned ys p us q zs → Going xs at ws zs q rest
  going_next us rest e u r rs w = g r rs (rw e (pen_then u w))

  pub going_last : vs ≡ [] → Penned xs at ws p ys
  going_last e = g p ys (rw e pen_none)
