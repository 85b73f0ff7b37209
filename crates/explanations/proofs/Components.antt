-- The ways out of `explain`. Assumes nothing.
use Prim.Native.Nat.{ℕ, ◌≤◌, ◌<◌}
use mathlib.Core.Path.{◌≡◌, sym, ap}
use mathlib.Core.List.{List}
use native.Mathlib.Omega.{arith}
use lib.ListN.{length}
use lib.Dec.{ltb}
use borrow.Author.Tests.{lt-ltb, le-ltb, ltb-false}
use Rattle.std.specs.Prelude.{Result, Ok, Err}
use Rattle.laws.proofs.Picks.{pick_ind}
use Rattle.laws.proofs.Over.{over_nil, length_over}
use Rattle.refusals.specs.Refusal.{component_most}
use Rattle.refusals.specs.Handling.{written_count, Made, not_made, made}
use Rattle.refusals.specs.declared.refusal.Refusal.{Refusal}
use Rattle.refusals.specs.declared.refusal.Refusal.TheVariants.{ShortOutput, LongComponent}
use Rattle.skip.specs.Depth.{component_depth}
use Rattle.explanations.specs.Elements.{lines_in}
use Rattle.explanations.specs.Explained.{said, explained, explanation_most, explained_in, Explains}
use Rattle.texts.specs.Pen.{Penned}
use Rattle.texts.proofs.Pens.{pen_then}
use Rattle.explanations.proofs.Longest.{explained_most}

module _ (s xs : List ℕ) where
  pub explains_short : length xs < explanation_most → Explains s xs (Err ShortOutput) xs
  unfolding explained_in
  explains_short short =
      let is = lt-ltb (length xs) explanation_most short in
      record { told = rw is; count = rw is; lent = rw is (sym (over_nil xs 0)) }

  module _ (wide : explanation_most ≤ length xs) where
    pub explains_long : component_most < length s → Explains s xs (Err LongComponent) xs
    unfolding explained_in
    explains_long long =
        let room = le-ltb (length xs) explanation_most wide in
        let is = lt-ltb component_most (length s) long in
        record { told = rw (room, is); count = rw (room, is); lent = rw (room, is) (sym (over_nil xs 0)) }

    -- the elements, and then what the component is
    module _ (few : length s ≤ component_most) {p : ℕ} {ys : List ℕ}
        (elements : Penned xs 0 (lines_in component_depth s 0 (length s)) p ys) {n : ℕ} {zs : List ℕ} (last : Penned ys p (said s) n zs) where
      whole : Penned xs 0 (explained s) n zs
      unfolding explained
      whole = pen_then elements last

      counted : n ≡ length (explained s)
      counted = omega (arith, whole.moved, explained_most s few)

      pub explains_all : Explains s xs (Ok n) zs
      unfolding explained_in
      explains_all =
          let room = le-ltb (length xs) explanation_most wide in
          let is = le-ltb component_most (length s) few in
          record { told = rw (room, is); count = rw (room, is) counted; lent = rw (room, is) whole.holds }

-- what was written is within the output
octets_fit : (s : List ℕ) (size : ℕ) → length (explained_in s size).octets ≤ size
unfolding explained_in
octets_fit s size =
    pick_ind (λ (m : Made). length m.octets ≤ size) (ltb size explanation_most) {x = not_made ShortOutput} (λ _. omega arith) (λ e.
    pick_ind (λ (m : Made). length m.octets ≤ size) (ltb component_most (length s)) {x = not_made LongComponent} {y = made (explained s)}
    (λ _. omega arith)
    (λ f.
    omega (
      arith,
      explained_most s (ltb-false component_most (length s) f),
      ltb-false size explanation_most e,
    )))

pub explains_within : {s xs : List ℕ} {r : Result ℕ Refusal} {ys : List ℕ} → Explains s xs r ys → written_count r ≤ length ys
explains_within {s} {xs} w =
    omega (
      arith,
      w.count,
      octets_fit s (length xs),
      ap length w.lent,
      length_over xs 0 (explained_in s (length xs)).octets,
    )
