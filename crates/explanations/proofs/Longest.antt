-- How long the lines of elements are: at most 30 octets for an octet of the component. Assumes nothing.
use Prim.Native.Nat.{ℕ, zero, suc, ◌+◌, ◌-◌, ◌*◌, ◌/◌, ◌%◌, ◌≤◌, ◌<◌}
use mathlib.Core.Path.{◌≡◌}
use mathlib.Core.Bool.{false}
use mathlib.Core.List.{List, [], ◌++◌}
use native.Mathlib.Omega.{arith}
use lib.ListN.{length, length-append}
use lib.Seq.{slice, length-slice}
use lib.Dec.{leb, eqb}
use borrow.Author.Tests.{leb-false}
use Rattle.laws.specs.Pick.{pick}
use Rattle.laws.proofs.Picks.{by_bool, pick_ind}
use Rattle.octets.specs.Head.{head_at}
use Rattle.octets.specs.declared.head.Head.{Head}
use Rattle.std.specs.Prelude.{Option, Some, None}
use Rattle.octets.proofs.Within.{Within, within}
use Rattle.refusals.specs.Refusal.{component_most}
use Rattle.skip.specs.Depth.{component_depth}
use Rattle.texts.specs.Word.{hex_text}
use Rattle.texts.proofs.Words.{hex_length}
use Rattle.explanations.specs.Text.{chars}
use Rattle.explanations.specs.Elements.{blanks, indent, contents_text, element_line, unread_line, Lines, lines_of, siblings, element_lines, lines_in}
use Rattle.explanations.specs.Explained.{said, explained, octet_most, explanation_most}
use Rattle.explanations.proofs.Lines.{FurtherLines, further}
use Rattle.explanations.proofs.Sizes.{said_most_lem}

-- ---- the parts of a line

blanks_length : (n : ℕ) → length (blanks n) ≡ 2 * n
unfolding blanks
blanks_length zero = omega arith
blanks_length (suc n) = omega (arith, blanks_length n)

indent_most : (depth : ℕ) → length (indent depth) ≤ 20
indent_most depth = omega (arith, blanks_length (component_depth - depth))

module _ (s : List ℕ) where
  hex_part : (from to : ℕ) → to ≤ length s → length (hex_text (slice from to s)) ≡ 2 * (to - from)
  hex_part from to h = omega (arith, hex_length (slice from to s), length-slice from to s h)

  -- a primitive element's contents; a constructed one has none in its line
  contents_most :
      (tag start stop : ℕ) → stop ≤ length s → length (contents_text tag s start stop) ≤ 10 + 2 * (stop - start)
  unfolding contents_text
  contents_most tag start stop h =
      let text : List ℕ = chars " contents " ++ hex_text (slice start stop s) in
      pick_ind (λ ws. length ws ≤ 10 + 2 * (stop - start)) (eqb (tag / 32 % 2) 0) {y = []}
      (λ _.
      pick_ind (λ ws. length ws ≤ 10 + 2 * (stop - start)) (eqb start stop) {x = []} {y = text}
      (λ _. omega arith)
      (λ _. omega (arith, length-append (chars " contents ") (hex_text (slice start stop s)), hex_part start stop h)))
      (λ _. omega arith)

  contents_none : (tag start stop : ℕ) → eqb (tag / 32 % 2) 0 ≡ false → length (contents_text tag s start stop) ≡ 0
  unfolding contents_text
  contents_none tag start stop e = rw e

  line_length :
      (depth tag at start stop : ℕ) → start ≤ length s → at + 1 < start →
      length (element_line depth tag s at start stop)
      ≤ 35 + 2 * (start - (at + 1)) + length (contents_text tag s start stop)
  unfolding element_line
  line_length depth tag at start stop h more =
      let first : List ℕ = hex_text (slice at (at + 1) s) in
      let size : List ℕ = hex_text (slice (at + 1) start s) in
      let contents : List ℕ = contents_text tag s start stop in
      omega (
        arith,
        length-append (indent depth ++ chars "tag " ++ first ++ chars " length " ++ size ++ contents) (chars "\n"),
        length-append (indent depth ++ chars "tag " ++ first ++ chars " length " ++ size) contents,
        length-append (indent depth ++ chars "tag " ++ first ++ chars " length ") size,
        length-append (indent depth ++ chars "tag " ++ first) (chars " length "),
        length-append (indent depth ++ chars "tag ") first,
        length-append (indent depth) (chars "tag "),
        indent_most depth,
        hex_part at (at + 1) (omega arith),
        hex_part (at + 1) start h,
      )

  unread_most :
      (depth at end : ℕ) → at < end → end ≤ length s → length (unread_line depth s at end) ≤ octet_most * (end - at)
  unfolding unread_line
  unread_most depth at end some h =
      let rest : List ℕ = hex_text (slice at end s) in
      omega (
        arith,
        length-append (indent depth ++ chars "unread " ++ rest) (chars "\n"),
        length-append (indent depth ++ chars "unread ") rest,
        length-append (indent depth) (chars "unread "),
        indent_most depth,
        hex_part at end h,
      )

-- ---- an element, by what is known of the lines inside it

module _ (s : List ℕ) (inner : ℕ → ℕ → List ℕ)
    (few : (start stop : ℕ) → stop ≤ length s → length (inner start stop) ≤ octet_most * (stop - start)) where
  head_most :
      (depth at end : ℕ) (x : Option Head) → at < end → end ≤ length s → Within depth (length s) at end x →
      length (lines_of inner depth s at end x).text ≤ octet_most * ((lines_of inner depth s at end x).next - at)
  head_most depth at end (Some x) some h w =
      let line : List ℕ = element_line depth x.tag s at x.start x.stop in
      let long = line_length s depth x.tag at x.start x.stop (omega (arith, w.stops, w.nexts, w.ends)) w.starts in
      by_bool
      (length (line ++ pick (eqb (x.tag / 32 % 2) 0) [] (inner x.start x.stop)) ≤ octet_most * (x.next - at))
      (eqb (x.tag / 32 % 2) 0)
      (λ e.
      rw e
      (omega (
        arith,
        length-append line [],
        long,
        contents_most s x.tag x.start x.stop (omega (arith, w.nexts, w.ends)),
        w.starts,
        w.stops,
        w.nexts,
      )))
      (λ e.
      rw e
      (omega (
        arith,
        length-append line (inner x.start x.stop),
        long,
        contents_none s x.tag x.start x.stop e,
        few x.start x.stop (omega (arith, w.nexts, w.ends)),
        w.starts,
        w.stops,
        w.nexts,
      )))
  head_most depth at end None some h w = unread_most s depth at end some h

-- ---- siblings

module _ (step : ℕ → Lines) (end : ℕ) (moves : (at : ℕ) → at < end → FurtherLines at end (step at).next)
    (few : (at : ℕ) → at < end → length (step at).text ≤ octet_most * ((step at).next - at)) where
  siblings_most : (n at : ℕ) → length (siblings step n at end) ≤ octet_most * (end - at)
  unfolding siblings
  siblings_most zero at = omega arith
  siblings_most (suc n) at =
      let rest : List ℕ = siblings step n (step at).next end in
      pick_ind (λ ws. length ws ≤ octet_most * (end - at)) (leb end at) {x = []} {y = (step at).text ++ rest}
      (λ _. omega arith)
      (λ e.
      let here : at < end = leb-false end at e in
      omega (
        arith,
        length-append (step at).text rest,
        few at here,
        (moves at here).0,
        (moves at here).1,
        siblings_most n (step at).next,
      ))

element_most :
    (depth : ℕ) (s : List ℕ) (at end : ℕ) → at < end → end ≤ length s →
    length (element_lines depth s at end).text ≤ octet_most * ((element_lines depth s at end).next - at)
unfolding element_lines
element_most zero s at end some h = unread_most s zero at end some h
element_most (suc depth) s at end some h =
    head_most s (λ start stop. siblings (λ a. element_lines depth s a stop) (stop - start) start stop)
    (λ start stop inside.
    siblings_most (λ a. element_lines depth s a stop) stop (λ a. further depth s a stop)
    (λ a here. element_most depth s a stop here inside) (stop - start) start)
    (suc depth) at end (head_at (suc depth) s at end) some h (within (suc depth) s at end)

lines_most_lem : (depth : ℕ) (s : List ℕ) (at end : ℕ) → end ≤ length s → length (lines_in depth s at end) ≤ octet_most * (end - at)
unfolding lines_in
lines_most_lem depth s at end h =
    siblings_most (λ a. element_lines depth s a end) end (λ a. further depth s a end)
    (λ a here. element_most depth s a end here h) (end - at) at

-- an explanation has at most 30,895 octets
pub explained_most : (s : List ℕ) → length s ≤ component_most → length (explained s) ≤ explanation_most
unfolding explained
explained_most s h =
    let lines : List ℕ = lines_in component_depth s 0 (length s) in
    omega (arith, length-append lines (said s), lines_most_lem component_depth s 0 (length s) (omega arith), said_most_lem s)
