-- The elements of a component, a line each in their order, two blanks further in for each element around it: its tag and its length
-- octets as they stand, and the contents of one that holds no elements.
use Rattle.std.specs.Prelude.{ℕ, zero, suc, ◌+◌, ◌-◌, ◌/◌, ◌%◌, List, [], ◌++◌, leb, eqb}
use Rattle.std.proofs.Math.Seq.{slice}
use Rattle.laws.specs.Pick.{pick}
use Rattle.octets.specs.Head.{head_at}
use Rattle.octets.specs.declared.head.Head.{Head}
use Rattle.std.specs.Prelude.{Option, Some, None}
use Rattle.skip.specs.Depth.{component_depth}
use Rattle.texts.specs.Word.{hex_text}
use Rattle.explanations.specs.Text.{chars}

-- two blanks for each of n levels
unfoldable pub blanks : ℕ → List ℕ
blanks zero = []
blanks (suc n) = chars "  " ++ blanks n

-- an element that may go `depth` deep stands in `component_depth - depth` others
abbrev pub indent : ℕ → List ℕ
indent depth = blanks (component_depth - depth)

-- the contents of a primitive element; those of a constructed one are lines of their own
unfoldable pub contents_text : ℕ → List ℕ → ℕ → ℕ → List ℕ
contents_text tag s start stop =
    pick (eqb (tag / 32 % 2) 0) (pick (eqb start stop) [] (chars " contents " ++ hex_text (slice start stop s))) []

-- the line of the element at `at`
unfoldable pub element_line : ℕ → ℕ → List ℕ → ℕ → ℕ → ℕ → List ℕ
element_line depth tag s at start stop =
    indent depth ++ chars "tag " ++ hex_text (slice at (at + 1) s) ++ chars " length " ++ hex_text (slice (at + 1) start s)
    ++ contents_text tag s start stop ++ chars "\n"

-- octets that are no element, or one that goes too deep: nothing after them is read before `end`
unfoldable pub unread_line : ℕ → List ℕ → ℕ → ℕ → List ℕ
unread_line depth s at end = indent depth ++ chars "unread " ++ hex_text (slice at end s) ++ chars "\n"

-- the lines of one element, and the place after it
pub record Lines : Type 0 where
  pub text : List ℕ
  pub next : ℕ

abbrev pub lines_of : (ℕ → ℕ → List ℕ) → ℕ → List ℕ → ℕ → ℕ → Option Head → Lines
lines_of inner depth s at end (Some h) = record {
  text = element_line depth h.tag s at h.start h.stop ++ pick (eqb (h.tag / 32 % 2) 0) [] (inner h.start h.stop);
  next = h.next;
}
lines_of inner depth s at end None = record { text = unread_line depth s at end; next = end }

-- lines one after the other, from `at` up to `end`; `step` has those of one element, and there are at most n
unfoldable pub siblings : (ℕ → Lines) → ℕ → ℕ → ℕ → List ℕ
siblings step zero at end = []
siblings step (suc n) at end = pick (leb end at) [] ((step at).text ++ siblings step n (step at).next end)

-- the element at `at` with those in it, to the depth that is left. Contents are at most as many elements as octets.
unfoldable pub element_lines : ℕ → List ℕ → ℕ → ℕ → Lines
element_lines zero s at end = lines_of (λ _ _. []) zero s at end None
element_lines (suc depth) s at end =
    lines_of (λ start stop. siblings (λ a. element_lines depth s a stop) (stop - start) start stop)
    (suc depth) s at end (head_at (suc depth) s at end)

unfoldable pub lines_in : ℕ → List ℕ → ℕ → ℕ → List ℕ
lines_in depth s at end = siblings (λ a. element_lines depth s a end) (end - at) at end
