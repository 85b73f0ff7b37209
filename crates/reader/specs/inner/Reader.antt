-- What the reader's methods answer, and what is made of it.
use Rattle.std.specs.Prelude.{ℕ, List, length, eqb, Option, Some, None}
use Rattle.laws.specs.Pick.{pick}
use Rattle.octets.specs.Head.{head_at}
use Rattle.octets.specs.declared.head.Head.{Head}

-- the element at `at`, of all octets from there on
abbrev pub element_from : ℕ → List ℕ → ℕ → Option Head
element_from depth s at = head_at depth s at (length s)

-- where what follows an element begins; `at`, if there is none
abbrev pub next_after : ℕ → Option Head → ℕ
next_after at (Some head) = head.next
next_after at None = at

-- an element after which nothing is left
abbrev pub if_none_left : ℕ → Option Head → Option Head
if_none_left left head = pick (eqb left 0) head None
