-- An element that is found lies within the octets before `end`, takes at least two of them, and what follows it begins no
-- earlier than its contents end. Callers go by these laws, never by the text of `head_at`. Assumes nothing.
use Prim.Native.Nat.{ℕ, ◌+◌, ◌%◌, ◌<◌, ◌≤◌}
use mathlib.Core.Path.{◌≡◌, refl, sym}
use mathlib.Core.Bool.{Bool, true, false, false≢true}
use mathlib.Core.List.{List, [], ◌∷◌}
use native.Mathlib.Omega.{arith}
use lib.ListN.{length, get_or}
use lib.Dec.{ltb, leb, eqb}
use borrow.Author.Tests.{leb-true, ltb-false, eqb-false}
use Rattle.std.specs.Prelude.{Option, Some, None}
use Rattle.laws.specs.Pick.{pick}
use Rattle.laws.specs.Tests.{any}
use Rattle.laws.proofs.Picks.{pick_ind}
use Rattle.octets.specs.Word.{word_at}
use Rattle.octets.specs.Head.{span_of, length_at, tagged, head_at}
use Rattle.octets.specs.declared.head.Span.{Span}
use Rattle.octets.specs.declared.head.Head.{Head}

abbrev SpanIn : ℕ → ℕ → Option Span → Type 0
SpanIn at end (Some span) = (at < span.start) × (span.start ≤ span.stop) × (span.stop ≤ end)
SpanIn at end None = Unit {0}

-- what is known of an element that was found at `at` before `end`, in as many octets as `size`
pub record Lies (depth size at end start stop next : ℕ) : Type 0 where
  pub deep : depth ≡ 0 → ⊥
  pub inside : end ≤ size
  pub starts : at + 1 < start
  pub stops : start ≤ stop
  pub nexts : stop ≤ next
  pub ends : next ≤ end

abbrev pub Within : ℕ → ℕ → ℕ → ℕ → Option Head → Type 0
Within depth size at end (Some h) = Lies depth size at end h.start h.stop h.next
Within depth size at end None = Unit {0}

span_of_in : (at start n end : ℕ) → at < start → SpanIn at end (span_of start n end)
unfolding span_of
span_of_in at start n end h =
    pick_ind (SpanIn at end) (leb (start + n) end)
    (λ e. omega (arith, leb-true (start + n) end e)) (λ _. tt)

length_in : (s : List ℕ) (at end : ℕ) → SpanIn at end (length_at s at end)
unfolding length_at
length_in s at end =
    let P : Option Span → Type 0 = SpanIn at end in
    pick_ind P (ltb (get_or s at 0) 0x80) (λ _. span_of_in at (at + 1) (get_or s at 0) end (omega arith)) (λ _.
    pick_ind P (eqb (get_or s at 0) 0x81) (λ _. span_of_in at (at + 2) (word_at 1 s (at + 1)) end (omega arith)) (λ _.
    pick_ind P (eqb (get_or s at 0) 0x82) (λ _. span_of_in at (at + 3) (word_at 2 s (at + 1)) end (omega arith)) (λ _. tt)))

tagged_in :
    (depth size tag at end : ℕ) (x : Option Span) → (depth ≡ 0 → ⊥) → end ≤ size → SpanIn (at + 1) end x →
    Within depth size at end (tagged tag x)
tagged_in depth size tag at end (Some span) d h k = record {
  deep = d;
  inside = h;
  starts = k.0;
  stops = k.1;
  nexts = omega arith;
  ends = k.2;
}
tagged_in depth size tag at end None d h k = tt

-- where none of several tests holds, the first does not, and none of the others
pub neither : (b c : Bool) → pick b true c ≡ false → (b ≡ false) × (c ≡ false)
neither true c e = absurd (false≢true (sym e))
neither false c e = (refl, e)

pub within :
    (depth : ℕ) (s : List ℕ) (at end : ℕ) → Within depth (length s) at end (head_at depth s at end)
unfolding head_at
within depth s at end =
    let low : Bool = eqb (get_or s at 0 % 32) 31 in
    pick_ind (Within depth (length s) at end) (any (eqb depth 0 ∷ ltb (length s) end ∷ leb end at ∷ low ∷ [])) (λ _. tt) (λ e.
    let d = neither (eqb depth 0) _ e in
    let i = neither (ltb (length s) end) _ d.1 in
    tagged_in depth (length s) (get_or s at 0) at end (length_at s (at + 1) end)
    (eqb-false depth 0 d.0) (ltb-false (length s) end i.0) (length_in s (at + 1) end))

-- no element goes no elements deep
pub head_none : (s : List ℕ) (at end : ℕ) → head_at 0 s at end ≡ None
unfolding head_at
head_none s at end = refl
