-- What the writer of octets in hexadecimal leaves, pair by pair, and where the output ends between two digits. Assumes nothing.
use Prim.Native.Nat.{ℕ, min, ◌+◌, ◌-◌, ◌*◌, ◌/◌, ◌≤◌, ◌<◌}
use mathlib.Core.Path.{◌≡◌}
use mathlib.Core.List.{List, [], ◌∷◌}
use native.Mathlib.Omega.{arith}
use lib.ListN.{length, take, get_or, set, length-take}
use lib.Seq.{get_or-take, length-take-le}
use Rattle.laws.specs.Over.{Wrote}
use Rattle.laws.proofs.Over.{then, wrote_two, wrote_length}
use Rattle.texts.specs.Word.{hex_of, hex_text}
use Rattle.texts.specs.Pen.{Penned}
use Rattle.texts.proofs.Words.{hex_length, hex_next, hex_cut}
use Rattle.texts.proofs.Pens.{wrote_pen, pen_length, pen_past, pen_then}

module _ (os xs : List ℕ) (at whole i : ℕ) {p : ℕ} {ys : List ℕ} (so : Wrote xs at (hex_text (take i os)) p ys) where
  -- one of the octets whose digits both fit
  pub pair_wrote :
      {a b : ℕ} → i < length (take whole os) → a ≡ hex_of (get_or (take whole os) i 0 / 16) → b ≡ hex_of (get_or (take whole os) i 0) →
      Wrote xs at (hex_text (take (i + 1) os)) (p + 2) (set (set ys p a) (p + 1) b)
  pair_wrote more high low =
      let here : i < whole = omega (arith, length-take whole os) in
      rw (hex_next os i (omega (arith, length-take whole os)), high, low, get_or-take whole os i 0 here)
      (then so (wrote_two ys p _ _))

  -- after the last of them there is room for one digit at most
  pub half_wrote :
      {d n : ℕ} {zs : List ℕ} → whole ≡ min (length os) ((length xs - at) / 2) → (whole ≡ length os → ⊥) → i ≡ whole →
      d ≡ hex_of (get_or os whole 0 / 16) → Penned ys p (d ∷ []) n zs → Penned xs at (hex_text os) n zs
  half_wrote {d} {n} {zs} few some here digit first =
      let more : whole < length os = omega arith in
      let written : List ℕ = hex_text (take i os) in
      let long : length written ≡ 2 * whole = omega (arith, hex_length (take i os), length-take-le i os (omega arith)) in
      let pairs : Penned xs at written p ys = wrote_pen (omega arith) so in
      let past : length zs ≤ n = omega (arith, first.moved, so.moved, wrote_length so, pen_length first) in
      let half = pen_then pairs first in
      rw (hex_cut os whole more, ← digit, ← here) (pen_then half (pen_past zs n _ past))
