-- Laws of the lines of elements: contents are one element's lines and then the rest. Assumes nothing.
use Prim.Native.Nat.{ℕ, zero, suc, ◌+◌, ◌-◌, ◌≤◌, ◌<◌}
use mathlib.Core.Path.{◌≡◌, refl, sym, ap, ◌∙◌}
use mathlib.Core.List.{List, [], ◌++◌}
use native.Mathlib.Omega.{arith}
use lib.ListN.{length}
use lib.Dec.{leb}
use borrow.Author.Tests.{le-leb, lt-leb, leb-true, leb-false}
use Rattle.laws.proofs.Picks.{by_bool}
use Rattle.octets.specs.Head.{head_at}
use Rattle.octets.specs.declared.head.Head.{Head}
use Rattle.std.specs.Prelude.{Option, Some, None}
use Rattle.octets.proofs.Within.{Within, within, head_none}
use Rattle.skip.specs.Depth.{component_depth}
use Rattle.explanations.specs.Text.{chars}
use Rattle.explanations.specs.Elements.{blanks, indent, Lines, lines_of, siblings, element_lines, lines_in}

-- ---- blanks

pub indent_step : (depth : ℕ) → depth < component_depth → indent depth ≡ chars "  " ++ indent (depth + 1)
unfolding blanks
indent_step depth h =
    let more : component_depth - depth ≡ suc (component_depth - (depth + 1)) = omega arith in
    rw more

pub indent_none : (depth : ℕ) → component_depth ≤ depth → indent depth ≡ []
unfolding blanks
indent_none depth h = let none : component_depth - depth ≡ 0 = omega arith in rw none

-- ---- what follows an element begins after `at`, and by `end`

abbrev pub FurtherLines : ℕ → ℕ → ℕ → Type 0
FurtherLines at end next = (at < next) × (next ≤ end)

lines_further :
    (inner : ℕ → ℕ → List ℕ) (depth size : ℕ) (s : List ℕ) (at end : ℕ) (x : Option Head) → at < end → Within depth size at end x →
    FurtherLines at end (lines_of inner depth s at end x).next
lines_further inner depth size s at end (Some x) h w = (omega (arith, w.starts, w.stops, w.nexts), w.ends)
lines_further inner depth size s at end None h w = (h, omega arith)

pub further : (depth : ℕ) (s : List ℕ) (at end : ℕ) → at < end → FurtherLines at end (element_lines depth s at end).next
unfolding element_lines
further zero s at end h = (h, omega arith)
further (suc depth) s at end h =
    lines_further _ (suc depth) (length s) s at end (head_at (suc depth) s at end) h (within (suc depth) s at end)

-- ---- siblings

module _ (step : ℕ → Lines) (end : ℕ) (moves : (at : ℕ) → at < end → FurtherLines at end (step at).next) where
  siblings_past : (n at : ℕ) → end ≤ at → siblings step n at end ≡ []
  unfolding siblings
  siblings_past zero at h = refl
  siblings_past (suc n) at h = rw (le-leb end at h)

  siblings_more :
      (n at : ℕ) → at < end →
      siblings step (suc n) at end ≡ (step at).text ++ siblings step n (step at).next end
  unfolding siblings
  siblings_more n at h = rw (lt-leb end at h)

  -- a number that is enough gives the same as any other that is
  siblings_same : (n m at : ℕ) → end - at ≤ n → end - at ≤ m → siblings step n at end ≡ siblings step m at end
  siblings_same zero m at h k = siblings_past zero at (omega arith) ∙ sym (siblings_past m at (omega arith))
  siblings_same (suc n) zero at h k = siblings_past (suc n) at (omega arith) ∙ sym (siblings_past zero at (omega arith))
  siblings_same (suc n) (suc m) at h k =
      by_bool (siblings step (suc n) at end ≡ siblings step (suc m) at end) (leb end at)
      (λ e.
      let past : end ≤ at = leb-true _ _ e in
      siblings_past (suc n) at past ∙ sym (siblings_past (suc m) at past))
      (λ e.
      let here : at < end = leb-false _ _ e in
      let far = moves at here in
      siblings_more n at here
      ∙ ap (λ (l : List ℕ). (step at).text ++ l) (siblings_same n m (step at).next (omega (arith, far)) (omega (arith, far)))
      ∙ sym (siblings_more m at here))

  siblings_step :
      (at : ℕ) → at < end →
      siblings step (end - at) at end ≡ (step at).text ++ siblings step (end - (step at).next) (step at).next end
  siblings_step at h =
      let far = moves at h in
      siblings_same (end - at) (suc (end - at)) at (omega arith) (omega arith)
      ∙ siblings_more (end - at) at h
      ∙ ap (λ (l : List ℕ). (step at).text ++ l)
      (siblings_same (end - at) (end - (step at).next) (step at).next (omega (arith, far)) (omega arith))

-- ---- contents

pub lines_end : (depth : ℕ) (s : List ℕ) (at end : ℕ) → end ≤ at → lines_in depth s at end ≡ []
unfolding lines_in
lines_end depth s at end h =
    siblings_past (λ a. element_lines depth s a end) end (λ a. further depth s a end) (end - at) at h

pub lines_step :
    (depth : ℕ) (s : List ℕ) (at end : ℕ) → at < end →
    lines_in depth s at end
    ≡ (element_lines depth s at end).text ++ lines_in depth s (element_lines depth s at end).next end
unfolding lines_in
lines_step depth s at end h =
    siblings_step (λ a. element_lines depth s a end) end (λ a. further depth s a end) at h

-- an element's lines by its head, those in it to one depth less; at depth 0 there is no head
pub element_lines_lem :
    (depth : ℕ) (s : List ℕ) (at end : ℕ) →
    element_lines depth s at end ≡ lines_of (lines_in (depth - 1) s) depth s at end (head_at depth s at end)
unfolding element_lines lines_in
element_lines_lem zero s at end = rw (head_none s at end)
element_lines_lem (suc depth) s at end = let less : suc depth - 1 ≡ depth = omega arith in rw less
